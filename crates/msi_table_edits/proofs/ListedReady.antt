-- An empty _Validation is ready to be stored where the bytes of _Columns and _Tables with the new rows are laid.
use Rattle.std.proofs.Common.{◌≡◌, ◌∙◌, ◌++◌, ℕ, length, List, [], ◌∷◌, ap, subst, Ok, Result, Some, All}
use Rattle.std.proofs.lemmas.List.Elements.{All-nil}
use Rattle.cfb_medium.specs.declared.error.Error.{Error}
use Rattle.cfb_tree.specs.Names.{CaseTable}
use Rattle.cfb_tree.specs.Tree.{Tree}
use Rattle.msi_columns.specs.Column.{Column}
use Rattle.msi_row_edits.specs.Asked.{IsWrittenByKeys}
use Rattle.msi_spec.specs.Calls.{stored_rows, Rows3}
use Rattle.msi_spec.specs.Package.{PackageContent}
use Rattle.msi_pool.specs.Pool.{Pool}
use Rattle.msi_stored.specs.Changing.{StoresSoundPackage}
use Rattle.msi_tables.specs.Rows.{kinds_of, rows_bytes, Row}
use Rattle.msi_tables.specs.Schema.{columns_columns, columns_name, columns_rows, tables_columns, tables_name, validation_name}
use Rattle.msi_tables.specs.Table.{Heading}
use Rattle.msi_texts.specs.Results.{◌>>=◌}
use Rattle.msi_values.specs.Datum.{text, Datum}
use Rattle.msi_table_edits.specs.Listing.{answer, counting, two_counted}
use Rattle.msi_table_edits.specs.Validating.{listed_columns, AreReadTwo, CanBeStoredTwo, ComeBackTwo, IsValidated}
use Rattle.msi_table_edits.proofs.Accepted.{AreCounted}
use Rattle.msi_table_edits.proofs.Ready.{c_data, read_so, t_data}
use Rattle.msi_table_edits.proofs.ReadyFrom.{IsLaidWith}
use Rattle.msi_table_edits.proofs.ThreeCounted.{are_three}
use Rattle.msi_table_edits.proofs.TwoCounted.{three_of}
use Rattle.msi_table_edits.proofs.ValidatedStored.{come_back_two}

module _ (letters : CaseTable) (tree : Tree) (P : PackageContent) (sound : StoresSoundPackage letters tree P) where
  abbrev cs : List (List Datum)
  cs = columns_rows validation_name 1 listed_columns

  abbrev ts : List (List Datum)
  ts = (text validation_name ∷ []) ∷ []

  abbrev headed : List ℕ → List Column → Heading
  headed n columns = record { name = n; columns = columns; long = P.pool.long }

  abbrev Laid : List Row → List Row → Pool → List ℕ → List ℕ → Type 0
  Laid c t next bc bt =
      IsLaidWith P.pool next (headed columns_name columns_columns) (stored_rows P columns_name) c cs bc
      × IsLaidWith P.pool next (headed tables_name tables_columns) (stored_rows P tables_name) t ts bt

  abbrev Written : Pool → List ℕ → List ℕ → Type 0
  Written next bc bt = (c : List Row) × (t : List Row) × IsValidated letters P next c t × AreReadTwo P bc bt c t × (rows_bytes P.pool.long (kinds_of columns_columns) c ≡ Some bc)

  abbrev joined : List Row → List Row → List Row × List Row
  joined c t = (stored_rows P columns_name ++ c, stored_rows P tables_name ++ t)

  abbrev From : Rows3 × Pool → Type 0
  From z = answer letters P ≡ Ok (joined z.0.0 z.0.1, z.1) → (bc bt : List ℕ) → Laid z.0.0 z.0.1 z.1 bc bt → Written z.1 bc bt

  none_wide : All (λ (ds : List Datum). length ds ≡ 10) []
  none_wide = All-nil (λ (ds : List Datum). length ds ≡ 10)

  counted_from : (cells : AreCounted P.pool validation_name listed_columns []) → From ((cells.c.0, cells.t.0, cells.v.0), cells.v.1)
  counted_from cells told bc bt laid =
      let next = cells.v.1 in
      let rows = joined cells.c.0 cells.t.0 in
      let c : IsWrittenByKeys next P.pool.long columns_columns rows.0 bc = laid.0.written (c_data letters tree P sound validation_name listed_columns [] none_wide cells) in
      let t : IsWrittenByKeys next P.pool.long tables_columns rows.1 bt = laid.1.written (t_data letters tree P sound validation_name listed_columns [] none_wide cells) in
      let can : CanBeStoredTwo P rows = record { columns = laid.0.writable; tables = laid.1.writable; columns_places = laid.0.places; tables_places = laid.1.places } in
      let accepted : IsValidated letters P next c.stored t.stored = record { rows = rows; told = told; columns_stored = c.by_keys; tables_stored = t.by_keys } in
      let back : ComeBackTwo P c.stored t.stored = come_back_two letters tree tree P sound next c.stored t.stored accepted can in (
        c.stored,
        t.stored,
        accepted,
        record { columns = read_so P.pool.long columns_columns c.stored bc back.columns c.written; tables = read_so P.pool.long tables_columns t.stored bt back.tables t.written },
        c.written,
      )

  pub listed_from : (y : (List Row × List Row) × Pool) → two_counted P.pool cs ts ≡ Ok y → answer letters P ≡ counting letters P → (bc bt : List ℕ) → Laid y.0.0 y.0.1 y.1 bc bt → Written y.1 bc bt
  listed_from y is all =
      let d = are_three P.pool cs ts [] ((y.0.0, y.0.1, []), y.1) (three_of P.pool cs ts (Ok y) is) in
      subst From d.is (counted_from (record { c = d.c; t = d.t; v = d.v; c_is = d.c_is; t_is = d.t_is; v_is = d.v_is }))
      (all ∙ ap (λ (r : Result ((List Row × List Row) × Pool) Error). r >>= λ x. Ok (joined x.0.0 x.0.1, x.1)) is)
