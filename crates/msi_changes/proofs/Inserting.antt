-- What an insert answers, once its tests are known.
use Rattle.std.proofs.Common.{◌≡◌, ◌+◌, Bool, true, false, List, [], ◌++◌, map, length, refl, Result, Ok, Err}
use Rattle.std.specs.Prelude.{nat_le}
use Rattle.std.specs.List.{list_all}
use Rattle.cfb_medium.specs.declared.error.Error.{Error}
use Rattle.cfb_medium.specs.declared.error.Error.TheVariants.{InvalidData, InvalidInput}
use Rattle.msi_texts.specs.Results.{◌>>=◌}
use Rattle.std.proofs.Common.{sym, ◌∙◌, Vec}
use Rattle.std.proofs.lemmas.List.{length-map}
use Rattle.msi_pool.specs.declared.stringref.ValueRef.{ValueRef}
use Rattle.std.proofs.lemmas.List.Folds.{list_all-map}
use Rattle.std.specs.declared.alloc.Global.{Global}
use Rattle.msi_values.specs.Datum.{Datum, data_of}
use Rattle.msi_values.specs.declared.borrowed.BorrowedValue.{BorrowedValue}
use Rattle.msi_values.specs.declared.value.Value.{Value}
use Rattle.msi_columns.specs.Held.{columns_of}
use Rattle.msi_tables.specs.Held.{rows_held}
use Rattle.msi_columns.specs.declared.column.Column.{Column as HeldColumn}
use Rattle.msi_pool.specs.Pool.{Pool}
use Rattle.msi_columns.specs.Column.{Column, are_valid}
use Rattle.msi_tables.specs.Rows.{Row, max_rows}
use Rattle.msi_tables.specs.Table.{Table, are_distinct, key_values, keys_of}
use Rattle.msi_changes.specs.Keys.{HaveSameKeys, keys_said}
use Rattle.msi_changes.proofs.NewKeys.{stored_same}
use Rattle.msi_changes.specs.Applied.{IsInsertAccepted}
use Rattle.msi_changes.specs.Changes.{inserted, new_keys, rows_counted}

module _ (pool : Pool) (t : Table) (new_rows : List (List Datum)) where
  pub invalid : list_all (are_valid t.columns) new_rows ≡ false → inserted true pool t new_rows ≡ Err InvalidInput
  invalid v = rw v refl

  pub broken : list_all (are_valid t.columns) new_rows ≡ true → are_distinct (keys_of pool t) ≡ false → inserted true pool t new_rows ≡ Err InvalidData
  broken v d = rw (v, d) refl

  pub repeated : (e : Error) → list_all (are_valid t.columns) new_rows ≡ true → are_distinct (keys_of pool t) ≡ true
      → new_keys (keys_of pool t) [] (map (key_values t.columns) new_rows) ≡ Err e → inserted true pool t new_rows ≡ Err e
  repeated e v d k = rw (v, d, k) refl

  pub many : list_all (are_valid t.columns) new_rows ≡ true → are_distinct (keys_of pool t) ≡ true
      → new_keys (keys_of pool t) [] (map (key_values t.columns) new_rows) ≡ Ok tt → nat_le (length t.rows + length new_rows) max_rows ≡ false
      → inserted true pool t new_rows ≡ Err InvalidInput
  many v d k m = rw (v, d, k, m) refl

  pub accepted : IsInsertAccepted pool t new_rows → inserted true pool t new_rows ≡ (rows_counted pool new_rows >>= λ r. Ok (t.rows ++ r.0, r.1))
  accepted a = rw (a.valid, a.distinct, a.new, a.few) refl

-- the tests, made on rows as they are kept
pub rows_valid : (columns : List HeldColumn) (said : List Column) (rows : List (Vec Value Global)) (b : Bool) → columns_of columns ≡ said
    → b ≡ list_all (λ row. are_valid (columns_of columns) (data_of row.items)) rows → list_all (are_valid said) (map (λ row. data_of row.items) rows) ≡ b
rows_valid columns said rows b same is = list_all-map (are_valid said) (λ row. data_of row.items) rows ∙ sym (rw same at is)

-- which new keys are there, by a set that has just the keys of the rows
pub keys_judged : (columns : List HeldColumn) (said : List Column) (keys : List (List Datum)) (stored : List (Vec BorrowedValue Global)) (new_rows : List (Vec Value Global))
    (new : List (Vec BorrowedValue Global)) (r : Result (Unit {0}) Error) → columns_of columns ≡ said → HaveSameKeys keys (keys_said stored)
    → keys_said new ≡ map (key_values (columns_of columns)) (map (λ row. data_of row.items) new_rows) → new_keys (keys_said stored) [] (keys_said new) ≡ r
    → new_keys keys [] (map (key_values said) (map (λ row. data_of row.items) new_rows)) ≡ r
keys_judged columns said keys stored new_rows new r same held are_new is =
    let known : keys_said new ≡ map (key_values said) (map (λ row. data_of row.items) new_rows) = rw same at are_new in
    let judged : new_keys keys [] (keys_said new) ≡ r = sym (stored_same keys (keys_said stored) [] (keys_said new) held) ∙ is in
    rw known at judged

-- how many rows there would be
pub count_known : (rows : List (Vec ValueRef Global)) (said : List Row) (new_rows : List (Vec Value Global)) (b : Bool) → rows_held rows ≡ said → nat_le (length rows + length new_rows) 65536 ≡ b
    → nat_le (length said + length (map (λ row. data_of row.items) new_rows)) max_rows ≡ b
count_known rows said new_rows b same is = rw (sym same, length-map rows (λ row. row.items), length-map new_rows (λ row. data_of row.items)) is
