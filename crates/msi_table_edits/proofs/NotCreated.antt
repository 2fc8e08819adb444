-- A new table that is refused, test by test, and what follows where a test is passed.
use Rattle.std.proofs.Common.{◌≡◌, ◌∙◌, ℕ, Bool, true, false, List, [], ◌∷◌, ◌++◌, map, refl, ap, Some, None, Result, Ok, Err, not}
use Rattle.std.specs.Prelude.{is_some}
use Rattle.cfb_medium.specs.declared.error.Error.{Error}
use Rattle.cfb_medium.specs.declared.error.Error.TheVariants.{AlreadyExists, InvalidInput, NotFound}
use Rattle.msi_changes.specs.Changes.{rows_counted}
use Rattle.msi_columns.specs.Column.{Column}
use Rattle.msi_spec.specs.Calls.{created, described, stored_rows, Rows3}
use Rattle.msi_spec.specs.Package.{PackageContent}
use Rattle.msi_pool.specs.Pool.{Pool}
use Rattle.msi_tables.specs.Rows.{Row}
use Rattle.msi_tables.specs.Schema.{columns_name, columns_rows, tables_name, validation_name, validation_row}
use Rattle.msi_tables.specs.Table.{table_named, Table}
use Rattle.msi_texts.specs.Results.{◌>>=◌, or_refused, unless_not}
use Rattle.msi_values.specs.Datum.{text, Datum}
use Rattle.msi_table_edits.specs.Testing.{may_have_columns, three_counted}
use Rattle.msi_table_edits.proofs.Accepted.{both, first, first_test, fits_rows, second, second_test, third}

abbrev Answer : Type 0
Answer = Result (Rows3 × Pool) Error

module _ (free : Bool) (P : PackageContent) (name : List ℕ) (columns : List Column) where
  -- the name and the columns
  pub unnamed : may_have_columns name columns ≡ false → created free P name columns ≡ Err InvalidInput
  unnamed e = ap (λ b. unless_not b InvalidInput >>= λ _. first_test free P name columns) e

  pub past_name : may_have_columns name columns ≡ true → created free P name columns ≡ first_test free P name columns
  past_name e = ap (λ b. unless_not b InvalidInput >>= λ _. first_test free P name columns) e

  -- a table of the name
  pub there_already : (t : Table) → table_named P.tables name ≡ Some t → first_test free P name columns ≡ Err AlreadyExists
  there_already t e = ap (λ o. unless_not (not (is_some o)) AlreadyExists >>= λ _. second_test free P name columns) e

  pub past_tables : table_named P.tables name ≡ None → first_test free P name columns ≡ second_test free P name columns
  past_tables e = ap (λ o. unless_not (not (is_some o)) AlreadyExists >>= λ _. second_test free P name columns) e

  -- _Validation
  pub unlimited : table_named P.tables validation_name ≡ None → second_test free P name columns ≡ Err NotFound
  unlimited e = ap (λ o. or_refused o NotFound >>= λ validation. third free P name columns validation) e

  pub past_validation : (w : Table) → table_named P.tables validation_name ≡ Some w → second_test free P name columns ≡ third free P name columns w
  past_validation w e = ap (λ o. or_refused o NotFound >>= λ validation. third free P name columns validation) e

-- the rows, and their number
module _ (P : PackageContent) (name : List ℕ) (columns : List Column) where
  pub too_many : fits_rows P name columns ≡ false → described P name columns ≡ Err InvalidInput
  too_many e = ap (λ b. unless_not b InvalidInput >>= λ _. first P name columns) e

  pub past_number : fits_rows P name columns ≡ true → described P name columns ≡ first P name columns
  past_number e = ap (λ b. unless_not b InvalidInput >>= λ _. first P name columns) e

  abbrev said : List (List Datum)
  said = columns_rows name 1 columns

  abbrev named : List (List Datum)
  named = (text name ∷ []) ∷ []

  abbrev limits : List (List Datum)
  limits = map (validation_row name) columns

  abbrev joined : Rows3 × Pool → Answer
  joined r = Ok ((stored_rows P columns_name ++ r.0.0, stored_rows P tables_name ++ r.0.1, stored_rows P validation_name ++ r.0.2), r.1)

  pub as_three : first P name columns ≡ (three_counted P.pool said named limits >>= λ r. joined r)
  as_three = on (rows_counted P.pool said)
    where
      last_on : (c t : List Row × Pool) (r : Result (List Row × Pool) Error) → ◌≡◌ {A = Answer} (r >>= λ v. Ok (both P name columns c t v)) ((r >>= λ v. Ok ((c.0, t.0, v.0), v.1)) >>= λ x. joined x)
      last_on c t (Ok v) = refl
      last_on c t (Err e) = refl

      then_on : (c : List Row × Pool) (r : Result (List Row × Pool) Error)
          → ◌≡◌ {A = Answer} (r >>= λ t. rows_counted t.1 limits >>= λ v. Ok (both P name columns c t v)) ((r >>= λ t. rows_counted t.1 limits >>= λ v. Ok ((c.0, t.0, v.0), v.1)) >>= λ x. joined x)
      then_on c (Ok t) = last_on c t (rows_counted t.1 limits)
      then_on c (Err e) = refl

      on : (r : Result (List Row × Pool) Error)
          → ◌≡◌ {A = Answer} (r >>= λ c. second P name columns c) ((r >>= λ c. rows_counted c.1 named >>= λ t. rows_counted t.1 limits >>= λ v. Ok ((c.0, t.0, v.0), v.1)) >>= λ x. joined x)
      on (Ok c) = then_on c (rows_counted c.1 named)
      on (Err e) = refl

  pub uncounted : (e : Error) → three_counted P.pool said named limits ≡ Err e → first P name columns ≡ Err e
  uncounted e is = as_three ∙ ap (λ (r : Answer). r >>= λ x. joined x) is

  pub counted : (x : Rows3 × Pool) → three_counted P.pool said named limits ≡ Ok x → first P name columns ≡ joined x
  counted x is = as_three ∙ ap (λ (r : Answer). r >>= λ x. joined x) is
