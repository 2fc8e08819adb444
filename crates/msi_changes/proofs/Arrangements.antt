-- Rows in another order: their keys are as distinct, and they make the same uses of texts.
use Rattle.std.proofs.Common.{◌≡◌, ◌∙◌, ◌+◌, Bool, true, false, not, List, [], ◌∷◌, map, length, refl, sym, ap, arith}
use Rattle.std.specs.List.{AllByRecursion, IsDistinct}
use Rattle.std.specs.List.Sorted.{IsPermutation}
use Rattle.std.specs.Ordering.{is_eq, is_lt}
use Rattle.std.proofs.lemmas.List.Sorted.{All-permutation, IsPermutation-map, IsPermutation-trans, sum_by-IsPermutation}
use Rattle.std.proofs.lemmas.Map.Keys.{IsDistinct-IsPermutation, IsDistinct-cons, IsDistinct-from_apart, IsDistinct-head, IsDistinct-tail}
use Rattle.msi_values.specs.Datum.{Datum}
use Rattle.msi_pool.specs.Pool.{Pool}
use Rattle.msi_tables.specs.Rows.{IsStored, Row, row_cmp}
use Rattle.msi_tables.specs.Table.{IsStoredByKeys, Table, are_distinct, has_key, key_cmp, key_values, row_data, row_key_cmp}
use Rattle.msi_tables.proofs.Arranged.{moved}
use Rattle.msi_tables.proofs.Keys.{key_order}
use Rattle.msi_tables.proofs.Stored.{stored_order}
use Rattle.msi_changes.specs.Laws.{StoredAlike}
use Rattle.msi_changes.proofs.DistinctKeys.{one_key, neither}
use Rattle.std.proofs.lemmas.Bool.{and_parts}
use Rattle.msi_changes.proofs.RowUses.{row_uses}

-- ---- keys

-- two keys are one
abbrev is_one : List Datum → List Datum → Bool
is_one k x = is_eq (key_cmp x k)

apart : (k : List Datum) (ks : List (List Datum)) → not (has_key ks k) ≡ true → AllByRecursion (λ x. is_one k x ≡ false) ks
apart k [] h = tt
apart k (x ∷ xs) h = let parts = neither (is_one k x) (has_key xs k) h in (parts.0, apart k xs parts.1)

none_is : (k : List Datum) (ks : List (List Datum)) → AllByRecursion (λ x. is_one k x ≡ false) ks → not (has_key ks k) ≡ true
none_is k [] h = refl
none_is k (x ∷ xs) h = rw h.0 (none_is k xs h.1)

all_apart : (ks : List (List Datum)) → are_distinct ks ≡ true → IsDistinct is_one ks
all_apart [] h = IsDistinct-from_apart is_one [] (λ i j d before within. absurd (omega (arith, within)))
all_apart (k ∷ ks) h = let parts = and_parts (not (has_key ks k)) (are_distinct ks) h in IsDistinct-cons is_one k ks (apart k ks parts.0) (all_apart ks parts.1)

distinct_again : (ks : List (List Datum)) → IsDistinct is_one ks → are_distinct ks ≡ true
distinct_again [] h = refl
distinct_again (k ∷ ks) h = rw (none_is k ks (IsDistinct-head is_one k ks h), distinct_again ks (IsDistinct-tail is_one k ks h)) refl

-- ---- rows that are stored

module _ (pool : Pool) (t : Table) where
  alike : (stored : List Row) → IsPermutation t.rows stored → StoredAlike pool t stored
  alike stored is =
      let key : Row → List Datum = λ row. key_values t.columns (row_data pool row) in
      record {
        uses = λ others uses. record {
          cells = All-permutation (λ row. length row ≡ length t.columns) t.rows stored is uses.cells;
          none = sum_by-IsPermutation (λ row. row_uses row 0) t.rows stored is ∙ uses.none;
          counts = λ n at. uses.counts n at ∙ ap (λ m. m + others n) (sym (sum_by-IsPermutation (λ row. row_uses row n) t.rows stored is));
        };
        distinct = λ distinct. distinct_again (map key stored)
            (IsDistinct-IsPermutation is_one (λ x y. one_key y x) (map key t.rows) (map key stored) (IsPermutation-map key t.rows stored is) (all_apart (map key t.rows) distinct));
      }

  abbrev stored_less : Row → Row → Bool
  stored_less x y = is_lt (row_cmp t.columns x y)

  pub stored_alike : (stored : List Row) → IsStored t.columns t.rows stored → StoredAlike pool t stored
  stored_alike stored is = alike stored (moved stored_less (stored_order t.columns) (length t.rows) t.rows stored (omega arith) is.stable)

  pub by_keys_alike : (stored : List Row) → IsStoredByKeys pool t.columns t.rows stored → StoredAlike pool t stored
  by_keys_alike stored is =
      let first : IsPermutation t.rows is.0 = moved (λ x y. is_lt (row_key_cmp pool t.columns x y)) (key_order pool t.columns) (length t.rows) t.rows is.0 (omega arith) is.1.stable in
      let then_stored : IsPermutation is.0 stored = moved stored_less (stored_order t.columns) (length is.0) is.0 stored (omega arith) is.2.stable in
      alike stored (IsPermutation-trans t.rows is.0 stored first then_stored)
