-- What stands at a name, and at a key.
use Rattle.std.proofs.Common.{◌≡◌, ℕ, List, Bool, true, false, refl, sym, ◌∙◌, Option, Some, None, arith, ◌≤◌, ◌<◌}
use Rattle.std.specs.Prelude.{Ok, Err, bytes_eq, max, option_and_then, if◌then◌else◌}
use Rattle.std.specs.Option.{ok_or}
use Rattle.std.specs.Ordering.{is_eq, match_ordering, nat_cmp}
use Rattle.std.specs.declared.cmp.Ordering.{Ordering}
use Rattle.std.specs.declared.cmp.Ordering.TheVariants.{Less, Equal, Greater}
use Rattle.std.specs.Cmp.Lexicographic.{slice_cmp}
use Rattle.std.proofs.lemmas.Slice.Eq.{bytes_eq-Decides}
use Rattle.std.proofs.lemmas.Map.Text.{is_eq-slice_cmp}
use Rattle.serde_json.specs.Data.{Data, Members, no_members, member, depth, members_depth}
use Rattle.serde_json.specs.Data as json
use Rattle.serde_json.specs.Find.{get, get_member}

-- what is there, or a refusal
pub said_some : {X E : Type 0} (e : E) (o : Option X) (x : X) → Ok x ≡ ok_or o e → o ≡ Some x
said_some e None x is = absurd (cc)
said_some e (Some y) x is = cc

pub said_none : {X E : Type 0} (e : E) (o : Option X) (f : E) → Err f ≡ ok_or o e → o ≡ None
said_none e None f is = refl
said_none e (Some y) f is = absurd (cc)

pub none_if : {X : Type 0} (o : Option X) → ((x : X) → o ≡ Some x → ⊥) → o ≡ None
none_if None never = refl
none_if (Some x) never = absurd (never x refl)

-- a text that is no literal
pub unlike : (literal text : List ℕ) → (text ≡ literal → ⊥) → bytes_eq literal text ≡ false
unlike literal text other = go (bytes_eq literal text) refl
  where
    go : (b : Bool) → bytes_eq literal text ≡ b → b ≡ false
    go false is = refl
    go true is = absurd (other (sym ((bytes_eq-Decides literal text).0 is)))

eq_swap : (xs ys : List ℕ) → bytes_eq xs ys ≡ bytes_eq ys xs
eq_swap xs ys = grind (arith, bytes_eq-Decides xs ys, bytes_eq-Decides ys xs)

-- the first member of a key is what is found there
pub found_first : {X : Type 0} (f : Data → Option X) (k l : List ℕ) (e : Data) (ms : Members) (rest : Option X) → rest ≡ option_and_then f (get_member k ms)
    → (if bytes_eq l k then f e else rest) ≡ option_and_then f (get_member k (member l e ms))
found_first f k l e ms rest is = go (slice_cmp nat_cmp k l) (bytes_eq l k) (is_eq-slice_cmp k l ∙ eq_swap k l)
  where
    go : (o : Ordering) (b : Bool) → is_eq o ≡ b → (if b then f e else rest) ≡ option_and_then f (match_ordering o (get_member k ms) (Some e) (get_member k ms))
    go Less true h = absurd (cc)
    go Less false h = is
    go Equal true h = refl
    go Equal false h = absurd (cc)
    go Greater true h = absurd (cc)
    go Greater false h = is

depth_step : (d e : Data) (ms : Members) (found : Option Data) (o : Ordering) → (found ≡ Some e → depth e ≤ members_depth ms)
    → match_ordering o found (Some d) found ≡ Some e → depth e ≤ max (depth d) (members_depth ms)
depth_step d e ms found Less deep h = let x = deep h in omega (arith, x)
depth_step d e ms found Equal deep h = let same : d ≡ e = cc in rw same (omega arith)
depth_step d e ms found Greater deep h = let x = deep h in omega (arith, x)

-- a member nests less than its object
member_depth : (k : List ℕ) (ms : Members) (e : Data) → get_member k ms ≡ Some e → depth e ≤ members_depth ms
member_depth k no_members e found = absurd (cc)
member_depth k (member l d ms) e found = depth_step d e ms (get_member k ms) (slice_cmp nat_cmp k l) (member_depth k ms e) found

pub get_depth : (k : List ℕ) (d e : Data) → get k d ≡ Some e → depth e < depth d
get_depth k (json.object ms) e found = let deep = member_depth k ms e found in omega (arith, deep)
get_depth k json.null e found = absurd (cc)
get_depth k (json.boolean b) e found = absurd (cc)
get_depth k (json.number n) e found = absurd (cc)
get_depth k (json.string s) e found = absurd (cc)
get_depth k (json.array ds) e found = absurd (cc)
