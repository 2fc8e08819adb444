-- What an empty _Validation comes to, test by test.
use Rattle.std.proofs.Common.{◌≡◌, ◌∙◌, ◌⊎◌, inl, inr, subst, ◌++◌, ℕ, Bool, true, false, length, List, [], ◌∷◌, ap, ap₂, refl, sym, Ok, Err, None, Result, Some, not}
use Rattle.std.specs.Prelude.{◌&&◌, ◌+◌, is_none, is_some, nat_le, nat_lt, Vec}
use Rattle.std.specs.declared.alloc.Global.{Global}
use Rattle.cfb_medium.specs.declared.error.Error.{Error}
use Rattle.cfb_medium.specs.declared.error.Error.TheVariants.{AlreadyExists, InvalidData, InvalidInput}
use Rattle.cfb_tree.specs.Names.{CaseTable}
use Rattle.msi_changes.specs.Changes.{rows_counted}
use Rattle.msi_columns.specs.Column.{Column}
use Rattle.msi_row_edits.proofs.Refusals.{IsOwn}
use Rattle.msi_spec.specs.Calls.{stored_rows}
use Rattle.msi_spec.specs.Package.{at_name, stream_name, PackageContent}
use Rattle.msi_pool.specs.Pool.{Pool}
use Rattle.msi_pool.specs.declared.stringref.ValueRef.{ValueRef}
use Rattle.msi_tables.specs.Held.{rows_held}
use Rattle.msi_tables.specs.Rows.{max_rows, Row}
use Rattle.msi_tables.specs.Schema.{columns_name, columns_rows, tables_name, validation_name}
use Rattle.msi_tables.specs.Table.{table_named, Table}
use Rattle.msi_texts.specs.Results.{◌>>=◌, unless_not}
use Rattle.msi_values.specs.Datum.{text}
use Rattle.msi_table_edits.specs.Listing.{answer, counting, fits_listing, two_counted}
use Rattle.msi_table_edits.specs.Validating.{listed_columns, listing}
use Rattle.msi_table_edits.proofs.RowsChecked.{as_held}

abbrev Answer : Type 0
Answer = Result ((List Row × List Row) × Pool) Error

-- ---- the rows that list a table

module _ (P : PackageContent) (name : List ℕ) (columns : List Column) where
  abbrev both : List Row × Pool → List Row × Pool → (List Row × List Row) × Pool
  both c t = ((stored_rows P columns_name ++ c.0, stored_rows P tables_name ++ t.0), t.1)

  abbrev first : Answer
  first = rows_counted P.pool (columns_rows name 1 columns) >>= λ c. rows_counted c.1 ((text name ∷ []) ∷ []) >>= λ t. Ok (both c t)

  abbrev fits : Bool
  fits = nat_le (length (stored_rows P columns_name) + length columns) max_rows && nat_lt (length (stored_rows P tables_name)) max_rows

  pub too_many : fits ≡ false → listing P name columns ≡ Err InvalidInput
  too_many e = ap (λ b. unless_not b InvalidInput >>= λ _. first) e

  abbrev paired : List Row × Pool → Result (List Row × Pool) Error → Answer
  paired c r = r >>= λ t. Ok ((c.0, t.0), t.1)

  abbrev behind : Answer → Answer
  behind r = r >>= λ x. Ok ((stored_rows P columns_name ++ x.0.0, stored_rows P tables_name ++ x.0.1), x.1)

  pub past_number : fits ≡ true → listing P name columns ≡ behind (two_counted P.pool (columns_rows name 1 columns) ((text name ∷ []) ∷ []))
  past_number e = ap (λ b. unless_not b InvalidInput >>= λ _. first) e ∙ on (rows_counted P.pool (columns_rows name 1 columns))
    where
      then_on : (c : List Row × Pool) (r : Result (List Row × Pool) Error) → ◌≡◌ {A = Answer} (r >>= λ t. Ok (both c t)) (behind (paired c r))
      then_on c (Ok t) = refl
      then_on c (Err e) = refl

      on : (r : Result (List Row × Pool) Error)
          → ◌≡◌ {A = Answer} (r >>= λ c. rows_counted c.1 ((text name ∷ []) ∷ []) >>= λ t. Ok (both c t)) (behind (r >>= λ c. paired c (rows_counted c.1 ((text name ∷ []) ∷ []))))
      on (Ok c) = then_on c (rows_counted c.1 ((text name ∷ []) ∷ []))
      on (Err e) = refl

-- ---- the tests in turn

module _ (letters : CaseTable) (P : PackageContent) where
  abbrev free : Bool
  free = is_none (at_name letters P.storages (stream_name validation_name))

  abbrev tested : Bool → Bool → Answer
  tested there f = unless_not (not there && f) AlreadyExists >>= λ _. listing P validation_name listed_columns

  pub there_already : (t : Table) → table_named P.tables validation_name ≡ Some t → answer letters P ≡ Err AlreadyExists
  there_already t e = ap (λ o. tested (is_some o) free) e

  module _ (none : table_named P.tables validation_name ≡ None) where
    pub storage_there : free ≡ false → answer letters P ≡ Err AlreadyExists
    storage_there f = ap₂ (λ o f. tested (is_some o) f) none f

    past_others : free ≡ true → answer letters P ≡ listing P validation_name listed_columns
    past_others f = ap₂ (λ o f. tested (is_some o) f) none f

    pub full_tables : free ≡ true → fits_listing P ≡ false → answer letters P ≡ Err InvalidInput
    full_tables f e = past_others f ∙ too_many P validation_name listed_columns e

    pub is_counting : free ≡ true → fits_listing P ≡ true → answer letters P ≡ counting letters P
    is_counting f e = past_others f ∙ past_number P validation_name listed_columns e

-- ---- their number

pub room_so : (P : PackageContent) (cs ts : List (Vec ValueRef Global)) → rows_held cs ≡ stored_rows P columns_name → rows_held ts ≡ stored_rows P tables_name
    → (nat_le (length cs + 10) max_rows && nat_lt (length ts) max_rows) ≡ fits_listing P
room_so P cs ts c t = λ i. nat_le (as_held P cs columns_name c i + 10) max_rows && nat_lt (as_held P ts tables_name t i) max_rows

-- an error of one's own
pub own_two : (e : Error) → (e ≡ InvalidInput) ⊎ (e ≡ InvalidData) → IsOwn e
own_two e (inl is) = subst IsOwn (sym is) tt
own_two e (inr is) = subst IsOwn (sym is) tt
