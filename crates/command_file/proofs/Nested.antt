-- Expressions and sources, by what stands at their keys.
use Rattle.std.proofs.Common.{◌≡◌, ℕ, zero, suc, true, false, List, ◌∷◌, [], refl, ap, Option, Some, None, arith, ◌≤◌, ◌<◌, length, get_or}
use Rattle.std.specs.Prelude.{codes, option_and_then, option_map, if◌then◌else◌}
use Rattle.serde_json.specs.Data.{Data, Items, no_items, item, Members, no_members, member, depth, items_depth}
use Rattle.serde_json.specs.Data as json
use Rattle.serde_json.specs.Find.{as_array, as_object, get_member}
use Rattle.serde_json.specs.View.{items_view, view}
use Rattle.serde_json.specs.declared.value.Value.{Value}
use Rattle.command_file.specs.Expressions.{args_in, each_formula, formula_in, formulas_in, from_in, joined, select_in, side_in, side_of, source_in}
use Rattle.command_file.specs.Nested.{join_in, operation_in, select_at}
use Rattle.msi_expr.specs.Formula.{Formula}
use Rattle.msi_query.specs.Query.{Query}
use Rattle.json_parts.specs.Values.{all_in, at_key, keys_among, list_in, only_keys, text_at}
use Rattle.command_file.proofs.Named.{found_first}

-- each expression of a list
each_is : (ds : Items) → each_formula ds ≡ all_in formula_in ds
each_is no_items = refl
each_is (item d ds) = ap (λ rest. option_and_then (λ f. option_map (λ fs. f ∷ fs) rest) (formula_in d)) (each_is ds)

listed : (d : Data) → formulas_in d ≡ list_in formula_in d
listed (json.array ds) = each_is ds
listed json.null = refl
listed (json.boolean b) = refl
listed (json.number n) = refl
listed (json.string s) = refl
listed (json.object ms) = refl

args_found : (ms : Members) → args_in ms ≡ option_and_then (list_in formula_in) (get_member (codes "args") ms)
args_found no_members = refl
args_found (member k d ms) = rw (listed d) (found_first (list_in formula_in) (codes "args") k d ms (args_in ms) (args_found ms))

from_found : (ms : Members) → from_in ms ≡ option_and_then source_in (get_member (codes "from") ms)
from_found no_members = refl
from_found (member k d ms) = found_first source_in (codes "from") k d ms (from_in ms) (from_found ms)

side_found : (side : List ℕ) (ms : Members) → side_in side ms ≡ option_and_then side_of (get_member side ms)
side_found side no_members = refl
side_found side (member k d ms) = found_first side_of side k d ms (side_in side ms) (side_found side ms)

-- a list nests less than what holds it, and an item no deeper than its list
pub items_deep : (d : Data) (ds : Items) → as_array d ≡ Some ds → items_depth ds < depth d
items_deep (json.array es) ds is = let same : es ≡ ds = cc in rw same (omega arith)
items_deep json.null ds is = absurd (cc)
items_deep (json.boolean b) ds is = absurd (cc)
items_deep (json.number n) ds is = absurd (cc)
items_deep (json.string s) ds is = absurd (cc)
items_deep (json.object ms) ds is = absurd (cc)

item_at : (list : List Value) (i : ℕ) (other : Value) → i < length list → depth (view (get_or list i other)) ≤ items_depth (items_view list)
item_at [] i other some = absurd (omega (arith, some))
item_at (d ∷ ds) zero other some = omega arith
item_at (d ∷ ds) (suc i) other some = let deep = item_at ds i other (omega (arith, some)) in omega (arith, deep)

pub item_deep : (list : List Value) (i : ℕ) (one : Value) → i < length list → one ≡ get_or list i one → depth (view one) ≤ items_depth (items_view list)
item_deep list i one some is = rw is (item_at list i one some)

-- an object with an operator is the operation
pub operation_is : (ms : Members) → keys_among (codes "col" ∷ []) ms ≡ false → keys_among (codes "op" ∷ codes "args" ∷ []) ms ≡ true
    → formula_in (json.object ms) ≡ operation_in (json.object ms)
operation_is ms column operation = rw (column, operation, args_found ms) refl

pub select_is : (d : Data) → option_and_then select_in (as_object d) ≡ select_at d
select_is (json.object ms) = rw (from_found ms) refl
select_is json.null = refl
select_is (json.boolean b) = refl
select_is (json.number n) = refl
select_is (json.string s) = refl
select_is (json.array ds) = refl

pub side_is : (d : Data) → side_of d ≡ (if only_keys (codes "from" ∷ codes "columns" ∷ codes "where" ∷ []) d then select_at d else None)
side_is (json.object ms) = rw (from_found ms) refl
side_is json.null = refl
side_is (json.boolean b) = refl
side_is (json.number n) = refl
side_is (json.string s) = refl
side_is (json.array ds) = refl

-- a join of no kind is none
pub join_refused : (d : Data) → ((l r : Query) (on : Formula) → joined (text_at (codes "join") d) l r on ≡ None) → join_in d ≡ None
join_refused d refused = go (at_key (codes "left") side_of d) (at_key (codes "right") side_of d) (at_key (codes "on") formula_in d)
  where
    go : (left right : Option Query) (on : Option Formula)
        → option_and_then (λ l. option_and_then (λ r. option_and_then (joined (text_at (codes "join") d) l r) on) right) left ≡ None
    go None right on = refl
    go (Some l) None on = refl
    go (Some l) (Some r) None = refl
    go (Some l) (Some r) (Some on) = refused l r on

pub join_is : (ms : Members) → keys_among (codes "join" ∷ codes "left" ∷ codes "right" ∷ codes "on" ∷ []) ms ≡ true
    → source_in (json.object ms) ≡ join_in (json.object ms)
join_is ms keys = rw (keys, side_found (codes "left") ms, side_found (codes "right") ms) refl
