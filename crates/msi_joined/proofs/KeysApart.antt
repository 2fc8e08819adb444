-- Distinct keys in two lists, one behind the other.
use Rattle.std.proofs.Common.{◌≡◌, ◌∙◌, Bool, true, false, not, List, [], ◌∷◌, ◌++◌, refl, sym, Ok}
use Rattle.std.specs.List.Sorted.{IsPermutation}
use Rattle.std.specs.Ordering.{is_eq}
use Rattle.std.proofs.lemmas.Bool.{and_parts}
use Rattle.std.proofs.lemmas.List.Sorted.{list_any-IsPermutation}
use Rattle.msi_values.specs.Datum.{Datum}
use Rattle.msi_tables.specs.Table.{are_distinct, has_key, key_cmp}
use Rattle.msi_changes.specs.Changes.{new_keys}
use Rattle.msi_changes.proofs.DistinctKeys.{are_new, neither, one_key}

has_parts : (k : List Datum) (xs ys : List (List Datum)) → not (has_key (xs ++ ys) k) ≡ true → (not (has_key xs k) ≡ true) × (not (has_key ys k) ≡ true)
has_parts k [] ys h = (refl, h)
has_parts k (x ∷ xs) ys h =
    let parts = neither (is_eq (key_cmp x k)) (has_key (xs ++ ys) k) h in
    let deeper = has_parts k xs ys parts.1 in
    (rw parts.0 deeper.0, deeper.1)

-- a key more that none of the new ones is
first_new : (k : List Datum) (keys new : List (List Datum)) → not (has_key new k) ≡ true → are_new keys new ≡ true → are_new (k ∷ keys) new ≡ true
first_new k keys [] h rest = refl
first_new k keys (q ∷ qs) h rest =
    let parts = neither (is_eq (key_cmp q k)) (has_key qs k) h in
    let others = and_parts (not (has_key keys q)) (are_new keys qs) rest in
    rw (one_key k q ∙ parts.0, others.0) (first_new k keys qs parts.1 others.1)

none_new : (new : List (List Datum)) → are_new [] new ≡ true
none_new [] = refl
none_new (k ∷ ks) = none_new ks

-- distinct keys of two lists: those of each are, and the second's are new to the first
pub apart : (xs ys : List (List Datum)) → are_distinct (xs ++ ys) ≡ true → (are_distinct xs ≡ true) × (are_distinct ys ≡ true) × (are_new xs ys ≡ true)
apart [] ys h = (refl, h, none_new ys)
apart (x ∷ xs) ys h =
    let parts = and_parts (not (has_key (xs ++ ys) x)) (are_distinct (xs ++ ys)) h in
    let first = has_parts x xs ys parts.0 in
    let rest = apart xs ys parts.1 in
    (rw (first.0, rest.0) refl, rest.1, first_new x xs ys first.1 rest.2)

-- such keys pass in turn
pub pass : (stored earlier new : List (List Datum)) → are_new stored new ≡ true → are_new earlier new ≡ true → are_distinct new ≡ true → new_keys stored earlier new ≡ Ok tt
pass stored earlier [] a b c = refl
pass stored earlier (k ∷ ks) a b c =
    let of_stored = and_parts (not (has_key stored k)) (are_new stored ks) a in
    let of_earlier = and_parts (not (has_key earlier k)) (are_new earlier ks) b in
    let own = and_parts (not (has_key ks k)) (are_distinct ks) c in
    let deeper = pass stored (k ∷ earlier) ks of_stored.1 (first_new k earlier ks own.0 of_earlier.1) own.1 in
    rw (untrue (has_key stored k) of_stored.0, untrue (has_key earlier k) of_earlier.0) deeper
  where
    untrue : (b : Bool) → not b ≡ true → b ≡ false
    untrue false h = refl
    untrue true h = absurd (cc h)

pub pass_first : (stored new : List (List Datum)) → are_new stored new ≡ true → are_distinct new ≡ true → new_keys stored [] new ≡ Ok tt
pass_first stored new a c = pass stored [] new a (none_new new) c

-- keys in another order
pub new_to_moved : (xs ys new : List (List Datum)) → IsPermutation xs ys → are_new xs new ≡ true → are_new ys new ≡ true
new_to_moved xs ys [] moves h = refl
new_to_moved xs ys (k ∷ ks) moves h =
    let parts = and_parts (not (has_key xs k)) (are_new xs ks) h in
    let same : has_key ys k ≡ has_key xs k = sym (list_any-IsPermutation (λ x. is_eq (key_cmp x k)) xs ys moves) in
    rw (same, parts.0) (new_to_moved xs ys ks moves parts.1)
