-- New keys behind distinct ones leave all distinct.
use Rattle.std.proofs.lemmas.Bool.{and_parts}
use Rattle.std.proofs.Common.{◌≡◌, ◌∙◌, Bool, true, false, not, List, [], ◌∷◌, ◌++◌, refl, ap, Ok, Err, if◌then◌else◌}
use Rattle.std.specs.Prelude.{◌||◌}
use Rattle.std.specs.Cmp.Lexicographic.{lists_total}
use Rattle.std.specs.List.{list_all}
use Rattle.std.specs.Ordering.{is_eq}
use Rattle.cfb_medium.specs.declared.error.Error.TheVariants.{AlreadyExists, InvalidInput}
use Rattle.msi_values.specs.Datum.{Datum}
use Rattle.msi_tables.specs.Table.{are_distinct, has_key, key_cmp}
use Rattle.msi_tables.proofs.Keys.{datum_cmp_total}
use Rattle.msi_changes.specs.Changes.{new_keys}
use Rattle.msi_values.proofs.DataOrder.{turned_equal}

-- two keys are one from either side
pub one_key : (x y : List Datum) → is_eq (key_cmp x y) ≡ is_eq (key_cmp y x)
one_key x y = ap is_eq ((lists_total datum_cmp_total).antisymm x y) ∙ turned_equal (key_cmp y x)

-- none of these keys is among those
abbrev pub are_new : List (List Datum) → List (List Datum) → Bool
are_new keys new = list_all (λ k. not (has_key keys k)) new

pub neither : (a b : Bool) → not (a || b) ≡ true → (a ≡ false) × (not b ≡ true)
neither false false h = (refl, refl)
neither true b h = absurd (cc h)
neither false true h = absurd (cc h)

-- keys that are not among a list and one more
without_first : (k : List Datum) (keys new : List (List Datum)) → are_new (k ∷ keys) new ≡ true → (has_key new k ≡ false) × (are_new keys new ≡ true)
without_first k keys [] h = (refl, refl)
without_first k keys (q ∷ qs) h =
    let parts = and_parts (not (is_eq (key_cmp k q) || has_key keys q)) (are_new (k ∷ keys) qs) h in
    let here = neither (is_eq (key_cmp k q)) (has_key keys q) parts.0 in
    let rest = without_first k keys qs parts.1 in
    (rw (one_key q k ∙ here.0) rest.0, rw here.1 rest.1)

-- what new keys are that pass in turn
pub passed : (stored earlier new : List (List Datum)) → new_keys stored earlier new ≡ Ok tt → (are_new stored new ≡ true) × (are_new earlier new ≡ true) × (are_distinct new ≡ true)
passed stored earlier [] h = (refl, refl, refl)
passed stored earlier (k ∷ ks) h = on (has_key stored k) refl (has_key earlier k) refl h (passed stored (k ∷ earlier) ks)
  where
    on : (a : Bool) → has_key stored k ≡ a → (b : Bool) → has_key earlier k ≡ b → (if a then Err AlreadyExists else (if b then Err InvalidInput else new_keys stored (k ∷ earlier) ks)) ≡ Ok tt
        → (new_keys stored (k ∷ earlier) ks ≡ Ok tt → (are_new stored ks ≡ true) × (are_new (k ∷ earlier) ks ≡ true) × (are_distinct ks ≡ true))
        → (are_new stored (k ∷ ks) ≡ true) × (are_new earlier (k ∷ ks) ≡ true) × (are_distinct (k ∷ ks) ≡ true)
    on false is_a false is_b h deeper =
        let rest = deeper h in
        let behind = without_first k earlier ks rest.1 in
        (rw (is_a, rest.0) refl, rw (is_b, behind.1) refl, rw (behind.0, rest.2) refl)
    on true is_a b is_b h deeper = absurd (cc h)
    on false is_a true is_b h deeper = absurd (cc h)

has_either : (xs ys : List (List Datum)) (k : List Datum) → has_key xs k ≡ false → has_key ys k ≡ false → has_key (xs ++ ys) k ≡ false
has_either [] ys k a b = b
has_either (x ∷ xs) ys k a b = on (is_eq (key_cmp x k)) a (λ h. has_either xs ys k h b)
  where
    on : (c : Bool) → (c || has_key xs k) ≡ false → (has_key xs k ≡ false → has_key (xs ++ ys) k ≡ false) → (c || has_key (xs ++ ys) k) ≡ false
    on false h deeper = deeper h
    on true h deeper = absurd (cc h)

not_false : (b : Bool) → not b ≡ true → b ≡ false
not_false false h = refl
not_false true h = absurd (cc h)

-- distinct keys with new distinct ones behind them
pub distinct_behind : (stored new : List (List Datum)) → are_distinct stored ≡ true → are_new stored new ≡ true → are_distinct new ≡ true → are_distinct (stored ++ new) ≡ true
distinct_behind [] new a b c = c
distinct_behind (s ∷ ss) new a b c =
    let parts = and_parts (not (has_key ss s)) (are_distinct ss) a in
    let first = without_first s ss new b in
    rw (has_either ss new s (not_false (has_key ss s) parts.0) first.0) (distinct_behind ss new parts.1 first.1 c)
