-- A tree of siblings is no deeper than the directory is long.
use Rattle.std.proofs.Common.{◌≡◌, ℕ, ◌<◌, ◌≤◌, ◌||◌, true, false, List, [], ◌∷◌, length, refl, sym, subst, arith, length-append}
use Rattle.std.specs.Prelude.{nat_eq, Bool, slice_get, Some}
use Rattle.std.specs.List.{AllByRecursion, IsDistinct, list_any}
use Rattle.std.proofs.lemmas.Option.{slice_get_within}
use Rattle.std.proofs.lemmas.Map.Steps.{length-le_from_distinct_below}
use Rattle.cfb_tree.specs.Tree.{Content}
use Rattle.cfb_tree.specs.Directory.{Entry, Siblings, none, some, Holds, no_entry}
use Rattle.cfb_tree.proofs.NamesRead.{all_append}
use Rattle.cfb_siblings.proofs.Frames.{outermost}
use Rattle.cfb_siblings.proofs.Objects.{siblings_distinct}

siblings_within : (directory : List Entry) (id : ℕ) (ids : List ℕ) → Siblings directory id ids → AllByRecursion (λ k. k < length directory) ids
siblings_within directory id ids (none is empty) = subst (AllByRecursion (λ k. k < length directory)) (sym empty) tt
siblings_within directory id ids (some e before after fits found left right whole) =
    subst (AllByRecursion (λ k. k < length directory)) (sym whole)
    (all_append (λ k. k < length directory) before (id ∷ after) (siblings_within directory e.left before left)
    (slice_get_within directory id e found, siblings_within directory e.right after right))

pub member_below : (q n : ℕ) (ids : List ℕ) → AllByRecursion (λ k. k < n) ids → list_any (nat_eq q) ids ≡ true → q < n
member_below q n [] h m = absurd (cc)
member_below q n (id ∷ ids) h m = either (nat_eq q id) refl m (member_below q n ids h.1)
  where
    either : (b : Bool) → nat_eq q id ≡ b → (b || list_any (nat_eq q) ids) ≡ true → (list_any (nat_eq q) ids ≡ true → q < n) → q < n
    either true same any rest = let is : q ≡ id = grind arith in omega (arith, h.0, is)
    either false other any rest = rest any

-- an entry and its children are no more than there are entries
pub owner_fits : (directory : List Entry) (Reads : Entry → List ℕ → Type 0) (p : ℕ) (e : Entry) (c : Content) (ids all : List ℕ) → slice_get directory p ≡ Some e
    → Siblings directory e.child ids → Holds directory Reads ids c all → IsDistinct nat_eq (p ∷ all) → length ids < length directory
unfolding IsDistinct
owner_fits directory Reads p e c ids all found siblings holds once =
    let apart = outermost directory directory Reads Reads (λ k. nat_eq p k ≡ false) c ids all holds once.0 in
    let fits : length (p ∷ ids) ≤ length directory =
    length-le_from_distinct_below (p ∷ ids) (length directory) (apart, siblings_distinct directory Reads c ids all holds once.1)
    (λ q m. member_below q (length directory) (p ∷ ids) (slice_get_within directory p e found, siblings_within directory e.child ids siblings) m) in
    omega (arith, fits)

-- siblings without repetition are no more than there are entries
pub siblings_fit : (directory : List Entry) (id : ℕ) (ids : List ℕ) → Siblings directory id ids → IsDistinct nat_eq ids → length ids ≤ length directory
siblings_fit directory id ids h once =
    length-le_from_distinct_below ids (length directory) once (λ q m. member_below q (length directory) ids (siblings_within directory id ids h) m)

pub some_here : (directory : List Entry) (at : ℕ) (here : List ℕ) → (at ≡ no_entry → ⊥) → Siblings directory at here → 0 < length here
some_here directory at here some_entry (none is empty) = absurd (some_entry is)
some_here directory at here some_entry (some e before after fits found left right whole) =
    rw whole (omega (arith, length-append before (at ∷ after)))
