-- How deep the parts of a value nest.
use Rattle.std.proofs.Common.{◌≡◌, ℕ, zero, suc, List, ◌∷◌, [], Option, Some, None, arith, ◌≤◌, ◌<◌, length, get_or}
use Rattle.std.specs.Prelude.{max}
use Rattle.std.specs.Ordering.{match_ordering, nat_cmp}
use Rattle.std.specs.declared.cmp.Ordering.{Ordering}
use Rattle.std.specs.declared.cmp.Ordering.TheVariants.{Less, Equal, Greater}
use Rattle.std.specs.Cmp.Lexicographic.{slice_cmp}
use Rattle.serde_json.specs.Data.{Data, Items, Members, no_members, member, depth, items_depth, members_depth}
use Rattle.serde_json.specs.Data as json
use Rattle.serde_json.specs.Find.{as_array, get, get_member}
use Rattle.serde_json.specs.View.{items_view, view}
use Rattle.serde_json.specs.declared.value.Value.{Value}

depth_step : (d e : Data) (ms : Members) (found : Option Data) (o : Ordering) → (found ≡ Some e → depth e ≤ members_depth ms)
    → match_ordering o found (Some d) found ≡ Some e → depth e ≤ max (depth d) (members_depth ms)
depth_step d e ms found Less deep h = let x = deep h in omega (arith, x)
depth_step d e ms found Equal deep h = let same : d ≡ e = cc in rw same (omega arith)
depth_step d e ms found Greater deep h = let x = deep h in omega (arith, x)

-- a member nests less than its object
member_depth : (k : List ℕ) (ms : Members) (e : Data) → get_member k ms ≡ Some e → depth e ≤ members_depth ms
member_depth k no_members e found = absurd (cc)
member_depth k (member l d ms) e found = depth_step d e ms (get_member k ms) (slice_cmp nat_cmp k l) (member_depth k ms e) found

pub get_depth : (k : List ℕ) (d e : Data) → get k d ≡ Some e → depth e < depth d
get_depth k (json.object ms) e found = let deep = member_depth k ms e found in omega (arith, deep)
get_depth k json.null e found = absurd (cc)
get_depth k (json.boolean b) e found = absurd (cc)
get_depth k (json.number n) e found = absurd (cc)
get_depth k (json.string s) e found = absurd (cc)
get_depth k (json.array ds) e found = absurd (cc)

-- a list nests less than what holds it, and an item no deeper than its list
pub items_deep : (d : Data) (ds : Items) → as_array d ≡ Some ds → items_depth ds < depth d
items_deep (json.array es) ds is = let same : es ≡ ds = cc in rw same (omega arith)
items_deep json.null ds is = absurd (cc)
items_deep (json.boolean b) ds is = absurd (cc)
items_deep (json.number n) ds is = absurd (cc)
items_deep (json.string s) ds is = absurd (cc)
items_deep (json.object ms) ds is = absurd (cc)

item_at : (list : List Value) (i : ℕ) (other : Value) → i < length list → depth (view (get_or list i other)) ≤ items_depth (items_view list)
item_at [] i other some = absurd (omega (arith, some))
item_at (d ∷ ds) zero other some = omega arith
item_at (d ∷ ds) (suc i) other some = let deep = item_at ds i other (omega (arith, some)) in omega (arith, deep)

pub item_deep : (list : List Value) (i : ℕ) (one : Value) → i < length list → one ≡ get_or list i one → depth (view one) ≤ items_depth (items_view list)
item_deep list i one some is = rw is (item_at list i one some)
