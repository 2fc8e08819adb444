-- What a new table comes to, from what its steps told.
use Rattle.std.proofs.Common.{◌≡◌, ◌∙◌, ◌⊎◌, ℕ, Bool, true, false, List, [], ◌∷◌, map, refl, sym, ap, ap₂, subst, inl, inr, ⊎_elim, Some, None, Ok, Err, Result, not}
use Rattle.std.specs.Prelude.{◌&&◌, ◌||◌, ◌==◌, bytes_eq, is_none, length, nat_le, IfErr}
use Rattle.std.specs.List.{list_all, list_any}
use Rattle.std.proofs.lemmas.Bool.{and_parts}
use Rattle.cfb_medium.specs.declared.error.Error.{Error}
use Rattle.cfb_medium.specs.declared.error.Error.TheVariants.{AlreadyExists, InvalidInput, Memory, NotFound}
use Rattle.cfb_tree.specs.Names.{CaseTable}
use Rattle.msi_columns.specs.Column.{are_valid, is_binary, length_kept, Column}
use Rattle.msi_row_edits.proofs.Refusals.{IsOwn}
use Rattle.msi_spec.specs.Calls.{is_kept, names_distinct}
use Rattle.msi_spec.specs.Package.{at_name, data_name, pool_name, stream_name, PackageContent}
use Rattle.msi_pool.specs.PoolState.{PoolState}
use Rattle.msi_tables.specs.Schema.{columns_columns, columns_rows, tables_columns, validation_name, validation_row}
use Rattle.msi_tables.specs.Table.{is_valid_table_name, table_named, Table}
use Rattle.msi_texts.specs.Category.{is_identifier}
use Rattle.msi_texts.specs.Results.{◌>>=◌, unless_not}
use Rattle.msi_values.specs.Datum.{text}
use Rattle.msi_table_edits.specs.Describing.{answer, counting, third_test, Describes, TellsNew}
use Rattle.msi_table_edits.specs.Testing.{can_be_kept, may_have_columns}
use Rattle.msi_table_edits.specs.declared.describing.NewTable.{NewTable}
use Rattle.msi_table_edits.proofs.Accepted.{fourth}
use Rattle.msi_table_edits.proofs.NotCreated.{past_name, past_tables, past_validation, there_already, unlimited, unnamed}

-- an error of one's own
pub own_of : (e : Error) → (e ≡ Memory) ⊎ (e ≡ InvalidInput) → IsOwn e
own_of e (inl is) = subst IsOwn (sym is) tt
own_of e (inr is) = subst IsOwn (sym is) tt

pub own_all : {T : Type 0} (r : Result T Error) → IfErr r (λ e. (e ≡ Memory) ⊎ (e ≡ InvalidInput)) → IfErr r IsOwn
own_all (Ok x) own = tt
own_all (Err e) own = own_of e own

module _ (name : List ℕ) (columns : List Column) where
  -- the name and the number of columns are those that the tests ask for
  pub valid_of : may_have_columns name columns ≡ true → is_valid_table_name name ≡ true
  valid_of may = first_of (is_valid_table_name name) (not (length columns == 0)) (nat_le (length columns) 32) (list_any (λ c. c.key) columns) (list_all (λ c. is_identifier c.name) columns) (names_distinct columns) may
    where
      first_of : (a b c d e f : Bool) → (a && b && c && d && e && f) ≡ true → a ≡ true
      first_of true b c d e f is = refl
      first_of false b c d e f is = is

  pub few_of : may_have_columns name columns ≡ true → nat_le (length columns) 32 ≡ true
  few_of may = third_of (is_valid_table_name name) (not (length columns == 0)) (nat_le (length columns) 32) (list_any (λ c. c.key) columns) (list_all (λ c. is_identifier c.name) columns) (names_distinct columns) may
    where
      third_of : (a b c d e f : Bool) → (a && b && c && d && e && f) ≡ true → c ≡ true
      third_of a b c d e f is = (and_parts (a && b) c (and_parts (a && b && c) d (and_parts (a && b && c && d) e (and_parts (a && b && c && d && e) f is).0).0).0).1

  pub lengths_of : can_be_kept name columns ≡ true → list_all (λ c. length_kept c.kind) columns ≡ true
  lengths_of kept = all_less columns (and_parts (not (bytes_eq name pool_name) && not (bytes_eq name data_name)) (list_all is_kept columns) kept).1
    where
      one : (c : Column) → is_kept c ≡ true → length_kept c.kind ≡ true
      one c is =
          let cut = not (list_any (list_any (λ b. b == 59)) c.choices) in
          let whole = not (is_binary c.kind && (c.key || c.localizable)) in
          (and_parts (length_kept c.kind) cut (and_parts (length_kept c.kind && cut) whole is).0).0

      all_less : (cs : List Column) → list_all is_kept cs ≡ true → list_all (λ c. length_kept c.kind) cs ≡ true
      all_less [] is = refl
      all_less (c ∷ cs) is = (let both = and_parts (is_kept c) (list_all is_kept cs) is in ap₂ (λ a b. a && b) (one c both.0) (all_less cs both.1))

module _ (letters : CaseTable) (P : PackageContent) (name : List ℕ) (columns : List Column) where
  abbrev free : Bool
  free = is_none (at_name letters P.storages (stream_name name))

  pub refused_name : may_have_columns name columns ≡ false → answer letters P name columns ≡ Err InvalidInput
  refused_name e = unnamed free P name columns e

  module _ (may : may_have_columns name columns ≡ true) where
    pub refused_table : (t : Table) → table_named P.tables name ≡ Some t → answer letters P name columns ≡ Err AlreadyExists
    refused_table t there = past_name free P name columns may ∙ there_already free P name columns t there

    module _ (none : table_named P.tables name ≡ None) where
      pub refused_validation : (e : Error) → (e ≡ NotFound) × (table_named P.tables validation_name ≡ None) → answer letters P name columns ≡ Err e
      refused_validation e is = past_name free P name columns may ∙ past_tables free P name columns none ∙ unlimited free P name columns is.1 ∙ ap (λ e. Err e) (sym is.0)

      pub to_third : (w : Table) → table_named P.tables validation_name ≡ Some w → answer letters P name columns ≡ third_test letters P name columns w
      to_third w found = past_name free P name columns may ∙ past_tables free P name columns none ∙ past_validation free P name columns w found

      pub refused_keeping : (w : Table) → table_named P.tables validation_name ≡ Some w → can_be_kept name columns ≡ false → answer letters P name columns ≡ Err InvalidInput
      refused_keeping w found e = to_third w found ∙ ap (λ b. unless_not b InvalidInput >>= λ _. fourth free P name columns w)
          (none_kept (list_all (are_valid columns_columns) (columns_rows name 1 columns) && are_valid tables_columns (text name ∷ []) && list_all (are_valid w.columns) (map (validation_row name) columns))
          (not (bytes_eq name pool_name)) (not (bytes_eq name data_name)) (list_all is_kept columns) e)
        where
          none_kept : (b p d k : Bool) → (p && d && k) ≡ false → (b && p && d && k) ≡ false
          none_kept true p d k e = e
          none_kept false p d k e = refl

  -- the last step
  pub tells_all : (state : PoolState) (r : Result NewTable Error) → answer letters P name columns ≡ counting letters P name columns → Describes letters P name columns state r → TellsNew letters P name columns state r
  tells_all state (Ok it) all d = d all
  tells_all state (Err e) all d = ⊎_elim (λ fault. inl fault) (λ is. inr (all ∙ is)) d
