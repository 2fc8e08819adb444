-- A new table is ready where the bytes of the three tables with the new rows are laid.
use Rattle.std.proofs.Common.{◌≡◌, ◌∙◌, ◌++◌, ℕ, List, [], ◌∷◌, map, ap, refl, subst, Ok, Result, Some, None, All, IsSome, IsTrue}
use Rattle.std.specs.Prelude.{Option}
use Rattle.std.specs.List.{list_all}
use Rattle.cfb_medium.specs.declared.error.Error.{Error}
use Rattle.cfb_tree.specs.Names.{CaseTable}
use Rattle.cfb_tree.specs.Tree.{Tree}
use Rattle.msi_columns.specs.Column.{Column}
use Rattle.msi_row_edits.specs.Asked.{IsWrittenByKeys}
use Rattle.msi_spec.specs.Calls.{own_columns, stored_rows, Rows3}
use Rattle.msi_spec.specs.Package.{PackageContent}
use Rattle.msi_pool.specs.Pool.{Pool}
use Rattle.msi_stored.specs.Changing.{StoresSoundPackage}
use Rattle.msi_tables.specs.Rows.{has_place, kinds_of, rows_bytes, AreRowsWritable, Row}
use Rattle.msi_tables.specs.Schema.{columns_columns, columns_name, columns_rows, tables_columns, tables_name, validation_name, validation_row}
use Rattle.msi_tables.specs.Table.{row_data, table_named, Heading, Table}
use Rattle.msi_texts.specs.Results.{◌>>=◌}
use Rattle.msi_values.specs.Datum.{text, Datum}
use Rattle.msi_table_edits.specs.Created.{AreReadThree, CanBeStoredThree, IsNewTableAccepted}
use Rattle.msi_table_edits.specs.Describing.{answer, counting}
use Rattle.msi_table_edits.specs.Testing.{three_counted}
use Rattle.msi_table_edits.proofs.Accepted.{AreCounted}
use Rattle.msi_table_edits.proofs.Given.{validation_wide}
use Rattle.msi_table_edits.proofs.Ready.{c_data, t_data, v_data, written_three}
use Rattle.msi_table_edits.proofs.ThreeCounted.{are_three}

-- the bytes of a table's rows and of new ones behind them, whatever pool reads them so
pub record IsLaidWith (before next : Pool) (h : Heading) (old cells : List Row) (said : List (List Datum)) (bytes : List ℕ) : Type 0 where
  pub written : map (row_data next) (old ++ cells) ≡ map (row_data before) old ++ said → IsWrittenByKeys next h.long h.columns (old ++ cells) bytes
  pub writable : AreRowsWritable h.long h.columns (old ++ cells)
  pub places : All (λ row. IsTrue (list_all has_place row)) (old ++ cells)

pub laid_as : {before before2 next : Pool} {h h2 : Heading} {old old2 cells : List Row} {said said2 : List (List Datum)} {bytes : List ℕ}
    → before ≡ before2 → h ≡ h2 → old ≡ old2 → said ≡ said2 → IsLaidWith before next h old cells said bytes → IsLaidWith before2 next h2 old2 cells said2 bytes
laid_as {before} {before2} {next} {h} {h2} {old} {old2} {cells} {said} {said2} {bytes} p q r s it =
    subst (λ b. IsLaidWith b next h2 old2 cells said2 bytes) p
    (subst (λ g. IsLaidWith before next g old2 cells said2 bytes) q
    (subst (λ o. IsLaidWith before next h o cells said2 bytes) r (subst (λ d. IsLaidWith before next h old cells d bytes) s it)))

module _ (letters : CaseTable) (tree : Tree) (P : PackageContent) (sound : StoresSoundPackage letters tree P) (name : List ℕ) (columns : List Column) (w : Table) (found : table_named P.tables validation_name ≡ Some w) where
  abbrev headed : List ℕ → List Column → Heading
  headed n cs = record { name = n; columns = cs; long = P.pool.long }

  abbrev Laid : Rows3 × Pool → List ℕ → List ℕ → List ℕ → Type 0
  Laid y bc bt bv =
      IsLaidWith P.pool y.1 (headed columns_name columns_columns) (stored_rows P columns_name) y.0.0 (columns_rows name 1 columns) bc
      × IsLaidWith P.pool y.1 (headed tables_name tables_columns) (stored_rows P tables_name) y.0.1 ((text name ∷ []) ∷ []) bt
      × IsLaidWith P.pool y.1 (headed validation_name (own_columns P)) (stored_rows P validation_name) y.0.2 (map (validation_row name) columns) bv

  abbrev Written : Pool → List ℕ → List ℕ → List ℕ → Type 0
  Written next bc bt bv = (c : List Row) × (t : List Row) × (v : List Row) × IsNewTableAccepted letters P name columns next c t v × AreReadThree P bc bt bv c t v × (rows_bytes P.pool.long (kinds_of columns_columns) c ≡ Some bc)

  abbrev joined : Rows3 × Pool → Rows3
  joined y = (stored_rows P columns_name ++ y.0.0, stored_rows P tables_name ++ y.0.1, stored_rows P validation_name ++ y.0.2)

  abbrev From : Rows3 × Pool → Type 0
  From y = answer letters P name columns ≡ Ok (joined y, y.1) → (bc bt bv : List ℕ) → Laid y bc bt bv → Written y.1 bc bt bv

  pub written_from : (y : Rows3 × Pool) → three_counted P.pool (columns_rows name 1 columns) ((text name ∷ []) ∷ []) (map (validation_row name) columns) ≡ Ok y → answer letters P name columns ≡ counting letters P name columns
      → (bc bt bv : List ℕ) → Laid y bc bt bv → Written y.1 bc bt bv
  written_from y is all =
      let d = are_three P.pool (columns_rows name 1 columns) ((text name ∷ []) ∷ []) (map (validation_row name) columns) y is in
      let limits = map (validation_row name) columns in
      let wide = validation_wide name columns in
      let cells : AreCounted P.pool name columns limits = record { c = d.c; t = d.t; v = d.v; c_is = d.c_is; t_is = d.t_is; v_is = d.v_is } in
      let from : From ((d.c.0, d.t.0, d.v.0), d.v.1) = λ told bc bt bv laid.
      let can : CanBeStoredThree P (joined ((d.c.0, d.t.0, d.v.0), d.v.1)) =
      record { columns = laid.0.writable; tables = laid.1.writable; validation = laid.2.writable; columns_places = laid.0.places; tables_places = laid.1.places; validation_places = laid.2.places } in
      let w3 = written_three letters tree P sound name columns w found cells told can bc bt bv
      (laid.0.written (c_data letters tree P sound name columns limits wide cells)) (laid.1.written (t_data letters tree P sound name columns limits wide cells)) (laid.2.written (v_data letters tree P sound name columns w found cells)) in
      (w3.c, w3.t, w3.v, w3.accepted, w3.read, w3.written) in
      subst From d.is from (all ∙ ap (λ (r : Result (Rows3 × Pool) Error). r >>= λ x. Ok (joined x, x.1)) is)

pub there_of : (o : Option Table) → IsSome o → (t : Table) × (o ≡ Some t)
there_of (Some t) is = (t, refl)
there_of None is = absurd (cc)
