-- An insert adds exactly its rows, and keys stay distinct.
use Rattle.std.proofs.Common.{◌≡◌, ◌∙◌, ◌+◌, Bool, true, false, List, [], ◌∷◌, ◌++◌, map, length, refl, sym, ap, Result, Ok, Err}
use Rattle.std.specs.Prelude.{nat_le, IfOk}
use Rattle.std.specs.List.{list_all}
use Rattle.std.proofs.lemmas.List.{map-append}
use Rattle.cfb_medium.specs.declared.error.Error.{Error}
use Rattle.cfb_medium.specs.declared.error.Error.TheVariants.{InvalidData, InvalidInput}
use Rattle.msi_texts.specs.Results.{◌>>=◌, unless_not}
use Rattle.msi_values.specs.Datum.{Datum}
use Rattle.msi_pool.specs.Pool.{Pool}
use Rattle.msi_columns.specs.Column.{Column, are_valid}
use Rattle.msi_tables.specs.Rows.{Row, max_rows}
use Rattle.msi_tables.specs.Table.{Table, are_distinct, key_values, keys_of, row_data}
use Rattle.msi_changes.specs.Laws.{RowsAreCounted, AddsRows}
use Rattle.msi_changes.specs.Changes.{inserted, new_keys, rows_counted}
use Rattle.msi_changes.proofs.DistinctKeys.{passed, distinct_behind}
use Rattle.msi_changes.proofs.InsertedRows.{Keeps, row_ok, rows_given, rows_stay}

pub keys_are : (columns : List Column) (p : Pool) (rows : List Row) → map (λ row. key_values columns (row_data p row)) rows ≡ map (key_values columns) (map (row_data p) rows)
keys_are columns p [] = refl
keys_are columns p (r ∷ rs) = ap (λ ks. key_values columns (row_data p r) ∷ ks) (keys_are columns p rs)

module _ (may : Bool) (pool : Pool) (t : Table) (new_rows : List (List Datum)) (is_counted : RowsAreCounted pool t.rows) where
  -- what is known of the new cells
  abbrev Given : List Row × Pool → Type 0
  Given r = Keeps pool r.1 × (map (row_data r.1) r.0 ≡ new_rows) × (list_all (row_ok r.1) r.0 ≡ true)

  values_after : (r : List Row × Pool) → Given r → map (row_data r.1) (t.rows ++ r.0) ≡ map (row_data pool) t.rows ++ new_rows
  values_after r given = map-append (row_data r.1) t.rows r.0 ∙ rw ((rows_stay pool r.1 given.0 t.rows is_counted).0, given.1) refl

  keys_after_insert : (r : List Row × Pool) → Given r → keys_of r.1 (record t { rows = t.rows ++ r.0 }) ≡ keys_of pool t ++ map (key_values t.columns) new_rows
  keys_after_insert r given =
      keys_are t.columns r.1 (t.rows ++ r.0) ∙ ap (map (key_values t.columns)) (values_after r given) ∙ map-append (key_values t.columns) (map (row_data pool) t.rows) new_rows
      ∙ ap (λ ks. ks ++ map (key_values t.columns) new_rows) (sym (keys_are t.columns pool t.rows))

  added : are_distinct (keys_of pool t) ≡ true → new_keys (keys_of pool t) [] (map (key_values t.columns) new_rows) ≡ Ok tt
      → (c : Result (List Row × Pool) Error) → IfOk c Given → IfOk c (λ r. AddsRows pool t new_rows (t.rows ++ r.0, r.1))
  added d k (Ok r) given =
      let new = passed (keys_of pool t) [] (map (key_values t.columns) new_rows) k in
      record { rows = values_after r given; distinct = rw (keys_after_insert r given) (distinct_behind (keys_of pool t) (map (key_values t.columns) new_rows) d new.0 new.2) }
  added d k (Err e) given = tt

  judged : (v d m few : Bool) (k : Result (Unit {0}) Error) (c : Result (List Row × Pool) Error) → (d ≡ true → k ≡ Ok tt → IfOk c (λ r. AddsRows pool t new_rows (t.rows ++ r.0, r.1)))
      → IfOk (unless_not v InvalidInput >>= λ _. unless_not d InvalidData >>= λ _. k >>= λ _. unless_not m InvalidInput >>= λ _. unless_not few InvalidInput >>= λ _. c >>= λ r. Ok (t.rows ++ r.0, r.1)) (AddsRows pool t new_rows)
  judged false d m few k c go = tt
  judged true false m few k c go = tt
  judged true true m few (Err e) c go = tt
  judged true true false few (Ok u) c go = tt
  judged true true true false (Ok u) c go = tt
  judged true true true true (Ok u) (Err e) go = tt
  judged true true true true (Ok u) (Ok r) go = go refl refl

  pub adds_rows : IfOk (inserted may pool t new_rows) (AddsRows pool t new_rows)
  adds_rows =
      judged (list_all (are_valid t.columns) new_rows) (are_distinct (keys_of pool t)) may (nat_le (length t.rows + length new_rows) max_rows)
      (new_keys (keys_of pool t) [] (map (key_values t.columns) new_rows)) (rows_counted pool new_rows) (λ d k. added d k (rows_counted pool new_rows) (rows_given pool new_rows))
