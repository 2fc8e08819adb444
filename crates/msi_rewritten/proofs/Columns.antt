-- Each table that the system tables describe has a column, and an insert leaves it not too many rows.
use Rattle.std.proofs.Common.{◌≡◌, ◌∙◌, ℕ, zero, suc, ◌+◌, ◌<◌, ◌≤◌, Bool, true, false, cond, List, [], ◌∷◌, ◌++◌, length, map, refl, sym, ap, arith, Some, None, Result, Ok, Err}
use Rattle.std.specs.Prelude.{◌==◌, bytes_eq, filter, find, nat_le, option_and_then, option_map, Option, IfOk}
use Rattle.std.specs.List.{list_all}
use Rattle.std.proofs.lemmas.Bool.Decides.{nat_tests}
use Rattle.std.proofs.lemmas.List.{length-append, length-map}
use Rattle.cfb_medium.specs.declared.error.Error.{Error}
use Rattle.cfb_medium.specs.declared.error.Error.TheVariants.{InvalidData, InvalidInput}
use Rattle.msi_changes.specs.Changes.{inserted, new_keys, rows_counted}
use Rattle.msi_changes.proofs.InsertedRows.{row_ok, rows_given, Keeps}
use Rattle.msi_columns.specs.Column.{are_valid, Column}
use Rattle.msi_pool.specs.Pool.{Pool}
use Rattle.msi_tables.specs.Rows.{max_rows, Row}
use Rattle.msi_tables.specs.Schema.{begins_with, column_read, columns_columns, columns_in, columns_name, columns_read, is_number, schema_of, tables_columns, tables_name}
use Rattle.msi_tables.specs.Table.{are_distinct, key_values, keys_of, row_data, Table}
use Rattle.msi_texts.specs.Results.{◌>>=◌, unless_not}
use Rattle.msi_values.specs.Datum.{Datum}

read_some : (validation own : List (List Datum)) (left n : ℕ) (cs : List Column) → columns_read validation own (suc left) n ≡ Some cs → 0 < length cs
read_some validation own left n cs is = on (option_and_then (column_read validation) (find (is_number n) own)) (columns_read validation own left (suc n)) is
  where
    on : (c : Option Column) (rest : Option (List Column)) → option_and_then (λ c. option_map (λ cs. c ∷ cs) rest) c ≡ Some cs → 0 < length cs
    on None rest e = (let never : None ≡ Some cs = e in absurd (cc))
    on (Some c) None e = (let never : None ≡ Some cs = e in absurd (cc))
    on (Some c) (Some later) e = (let here : Some (c ∷ later) ≡ Some cs = e in let same : c ∷ later ≡ cs = grind (arith, here) in let long = ap length same in omega (arith, long))

schema_some : (columns validation : List (List Datum)) (name : List ℕ) (cs : List Column) → schema_of columns validation name ≡ Some cs → 0 < length cs
schema_some columns validation name cs is = on (length (filter (begins_with name) columns)) is
  where
    on : (n : ℕ) → cond (n == 0) None (columns_read validation (filter (begins_with name) columns) n 1) ≡ Some cs → 0 < length cs
    on zero e = (let never : None ≡ Some cs = e in absurd (cc))
    on (suc n) e =
        let other : (suc n == 0) ≡ false = grind (arith, nat_tests) in
        read_some validation (filter (begins_with name) columns) n 1 cs (sym (ap (λ b. cond b None (columns_read validation (filter (begins_with name) columns) (suc n) 1)) other) ∙ e)

abbrev columns_count : Option (List Column) → ℕ
columns_count None = 0
columns_count (Some cs) = length cs

pub have_columns : (columns validation : List (List Datum)) (t : Table) → columns_in columns validation t.name ≡ Some t.columns → 0 < length t.columns
have_columns columns validation t is =
    on (bytes_eq t.name tables_name) (bytes_eq t.name columns_name) (schema_of columns validation t.name) is (schema_some columns validation t.name t.columns)
  where
    on : (a b : Bool) (o : Option (List Column)) → cond a (Some tables_columns) (cond b (Some columns_columns) o) ≡ Some t.columns → (o ≡ Some t.columns → 0 < length t.columns) → 0 < length t.columns
    on true b o e some = (let one : 1 ≡ length t.columns = ap columns_count e in omega (arith, one))
    on false true o e some = (let four : 4 ≡ length t.columns = ap columns_count e in omega (arith, four))
    on false false o e some = some e

-- ---- not too many rows

given_length : (pool : Pool) (new_rows : List (List Datum)) → IfOk (rows_counted pool new_rows) (λ r. length r.0 ≡ length new_rows)
given_length pool new_rows = on (rows_counted pool new_rows) (rows_given pool new_rows)
  where
    on : (c : Result (List Row × Pool) Error) → IfOk c (λ r. Keeps pool r.1 × (map (row_data r.1) r.0 ≡ new_rows) × (list_all (row_ok r.1) r.0 ≡ true)) → IfOk c (λ r. length r.0 ≡ length new_rows)
    on (Ok r) given = sym (length-map r.0 (row_data r.1)) ∙ ap length given.1
    on (Err e) given = tt

module _ (may : Bool) (pool : Pool) (t : Table) (new_rows : List (List Datum)) where
  pub few_after : IfOk (inserted may pool t new_rows) (λ after. length after.0 ≤ max_rows)
  few_after =
      judged (list_all (are_valid t.columns) new_rows) (are_distinct (keys_of pool t)) may (nat_le (length t.rows + length new_rows) max_rows) refl
      (new_keys (keys_of pool t) [] (map (key_values t.columns) new_rows)) (rows_counted pool new_rows) (given_length pool new_rows)
    where
      judged : (v d m few : Bool) → nat_le (length t.rows + length new_rows) max_rows ≡ few → (k : Result (Unit {0}) Error) (c : Result (List Row × Pool) Error) → IfOk c (λ r. length r.0 ≡ length new_rows)
          → IfOk {T = List Row × Pool} (unless_not v InvalidInput >>= λ _. unless_not d InvalidData >>= λ _. k >>= λ _. unless_not m InvalidInput >>= λ _. unless_not few InvalidInput >>= λ _. c >>= λ r. Ok (t.rows ++ r.0, r.1)) (λ after. length after.0 ≤ max_rows)
      judged false d m few is k c given = tt
      judged true false m few is k c given = tt
      judged true true m few is (Err e) c given = tt
      judged true true false few is (Ok u) c given = tt
      judged true true true false is (Ok u) c given = tt
      judged true true true true is (Ok u) (Err e) given = tt
      judged true true true true is (Ok u) (Ok r) given =
          let most : length t.rows + length new_rows ≤ 65536 = grind (arith, nat_tests, is) in
          omega (arith, length-append t.rows r.0, given, most)
