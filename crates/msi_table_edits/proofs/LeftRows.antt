-- Rows as values, without those that speak of a table.
use Rattle.std.proofs.Common.{◌≡◌, ◌∙◌, ℕ, zero, suc, Bool, true, false, cond, List, [], ◌∷◌, map, Some, None, Option, inl, inr, refl, sym, ap, subst, arith}
use Rattle.std.specs.Prelude.{◌⊎◌, ◌||◌, bytes_eq, filter, not, option_map, unwrap_or, Contains, IsPermutation}
use Rattle.std.specs.List.{list_any}
use Rattle.std.proofs.lemmas.List.Elements.{All-contains, All-contains_itself, All-filter, filter_passes}
use Rattle.std.proofs.lemmas.List.Sorted.{IsPermutation-map}
use Rattle.msi_columns.specs.Column.{Column}
use Rattle.msi_pool.specs.Pool.{Pool}
use Rattle.msi_tables.specs.Rows.{IsStored, Row}
use Rattle.msi_tables.specs.Schema.{begins_with}
use Rattle.msi_tables.specs.Table.{data_rows, row_data, Table}
use Rattle.msi_tables.proofs.Writable.{stored_rows_move}
use Rattle.msi_values.specs.Datum.{Datum}
use Rattle.msi_schema.proofs.Beside.{begins_once}

-- ---- members that a filter keeps

module _ {A : Type 0} (p : A → Bool) where
  pub kept_in : (xs : List A) (y : A) → Contains (filter p xs) y → Contains xs y × (p y ≡ true)
  kept_in xs y h =
      (All-contains (Contains xs) (filter p xs) y (All-filter p (Contains xs) xs (All-contains_itself xs)) h, All-contains (λ y. p y ≡ true) (filter p xs) y (filter_passes p xs) h)

  pub in_kept : (xs : List A) (y : A) → Contains xs y → p y ≡ true → Contains (filter p xs) y
  in_kept [] y h e = let below = h.1 in absurd (omega (arith, below))
  in_kept (x ∷ xs) y h e = by (p x) refl (cases h) (λ later. in_kept xs y later e)
    where
      cases : Contains (x ∷ xs) y → (x ≡ y) ⊎ Contains xs y
      cases (zero, below, is) = inl is
      cases (suc k, below, is) = inr (k, omega (arith, below), is)

      by : (b : Bool) → p x ≡ b → (x ≡ y) ⊎ Contains xs y → (Contains xs y → Contains (filter p xs) y) → Contains (cond b (x ∷ filter p xs) (filter p xs)) y
      by true is (inl same) rest = (0, omega arith, same)
      by true is (inr later) rest = let h = rest later in (suc h.0, (let below = h.1 in omega (arith, below)), h.2)
      by false is (inl same) rest = let never : false ≡ true = sym is ∙ ap p same ∙ e in absurd (cc)
      by false is (inr later) rest = rest later

-- ---- rows beside those of a table

module _ (name : List ℕ) where
  abbrev pub beside : List (List Datum) → List (List Datum)
  beside rows = filter (λ row. not (begins_with name row)) rows

  -- a row of another table is among them as before, and none of this one is
  pub any_beside : (m : List ℕ) → bytes_eq m name ≡ false → (rows : List (List Datum)) → list_any (begins_with m) (beside rows) ≡ list_any (begins_with m) rows
  any_beside m apart [] = refl
  any_beside m apart (r ∷ rs) = by (begins_with name r) refl (any_beside m apart rs)
    where
      by : (b : Bool) → begins_with name r ≡ b → list_any (begins_with m) (beside rs) ≡ list_any (begins_with m) rs
          → list_any (begins_with m) (cond (not b) (r ∷ beside rs) (beside rs)) ≡ (begins_with m r || list_any (begins_with m) rs)
      by true is rest = rest ∙ ap (λ b. b || list_any (begins_with m) rs) (sym (begins_once m name apart r is))
      by false is rest = ap (λ b. begins_with m r || b) rest

  pub none_beside : (rows : List (List Datum)) → list_any (begins_with name) (beside rows) ≡ false
  none_beside [] = refl
  none_beside (r ∷ rs) = by (begins_with name r) refl (none_beside rs)
    where
      by : (b : Bool) → begins_with name r ≡ b → list_any (begins_with name) (beside rs) ≡ false → list_any (begins_with name) (cond (not b) (r ∷ beside rs) (beside rs)) ≡ false
      by true is rest = rest
      by false is rest = ap (λ b. b || list_any (begins_with name) (beside rs)) is ∙ rest

  module _ (pool : Pool) where
    -- the same of rows of cells
    data_beside : (rows : List Row) → map (row_data pool) (filter (λ row. not (begins_with name (row_data pool row))) rows) ≡ beside (map (row_data pool) rows)
    data_beside [] = refl
    data_beside (r ∷ rs) = by (begins_with name (row_data pool r)) (data_beside rs)
      where
        left : List Row
        left = filter (λ row. not (begins_with name (row_data pool row))) rs

        by : (b : Bool) → map (row_data pool) left ≡ beside (map (row_data pool) rs)
            → map (row_data pool) (cond (not b) (r ∷ left) left) ≡ cond (not b) (row_data pool r ∷ beside (map (row_data pool) rs)) (beside (map (row_data pool) rs))
        by true rest = rest
        by false rest = ap (λ l. row_data pool r ∷ l) rest

    -- stored they are the same in another order
    pub stored_beside : (columns : List Column) (rows stored : List Row) → IsStored columns (filter (λ row. not (begins_with name (row_data pool row))) rows) stored
        → IsPermutation (beside (map (row_data pool) rows)) (map (row_data pool) stored)
    stored_beside columns rows stored order =
        let left : List Row = filter (λ row. not (begins_with name (row_data pool row))) rows in
        subst (λ l. IsPermutation l (map (row_data pool) stored)) (data_beside rows) (IsPermutation-map (row_data pool) left stored (stored_rows_move columns left stored order))

-- the rows of a table that may be there
pub table_data : (pool : Pool) (found : Option Table) → map (row_data pool) (unwrap_or (option_map (λ t. t.rows) found) []) ≡ data_rows pool found
table_data pool None = refl
table_data pool (Some t) = refl
