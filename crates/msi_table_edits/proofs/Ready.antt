-- A new table whose rows are written is ready to be stored.
use Rattle.std.proofs.Common.{◌≡◌, ◌∙◌, ◌++◌, ℕ, Bool, length, List, [], ◌∷◌, map, Some, Ok, ap, ap₂, subst, sym}
use Rattle.std.specs.Prelude.{is_none, option_map, unwrap_or, All, Option}
use Rattle.std.proofs.lemmas.List.{map-append}
use Rattle.cfb_tree.specs.Names.{CaseTable}
use Rattle.cfb_tree.specs.Tree.{Tree}
use Rattle.cfb_tree.proofs.OneContent.{Some_same}
use Rattle.msi_columns.specs.Column.{Column}
use Rattle.msi_row_edits.specs.Asked.{IsWrittenByKeys}
use Rattle.msi_spec.specs.RoundTrips.{RowsRoundTrip}
use Rattle.msi_spec.specs.Calls.{created, own_columns, stored_rows, Rows3}
use Rattle.msi_spec.specs.Package.{at_name, stream_name, PackageContent}
use Rattle.msi_spec.specs.Sound.{refcounts_of}
use Rattle.msi_pool.specs.Pool.{Pool}
use Rattle.msi_rewritten.proofs.Stored.{found_at}
use Rattle.msi_stored.specs.Changing.{StoresSoundPackage}
use Rattle.msi_tables.specs.Rows.{kinds_of, rows_bytes, rows_of, Row}
use Rattle.msi_tables.specs.Schema.{columns_columns, columns_name, columns_rows, tables_columns, tables_name, validation_name, validation_row}
use Rattle.msi_tables.specs.Table.{row_data, table_named, Table}
use Rattle.msi_values.specs.Datum.{text, Datum}
use Rattle.msi_table_edits.specs.Created.{AreReadThree, CanBeStoredThree, ComeBackThree, IsNewTableAccepted}
use Rattle.msi_table_edits.proofs.Accepted.{AreCounted}
use Rattle.msi_table_edits.proofs.CreatedFrom.{of_columns, of_tables, stored_c, stored_t}
use Rattle.msi_table_edits.proofs.Given.{are_given, counted_before, said_still, validation_wide, AreGiven}
use Rattle.msi_table_edits.proofs.Holding.{holding, is_there, IsThere}
use Rattle.msi_table_edits.proofs.NewStored.{come_back_three}

-- rows that come back are read from their bytes
pub read_so : (long : Bool) (columns : List Column) (stored : List Row) (bytes : List ℕ) → RowsRoundTrip long columns stored → rows_bytes long (kinds_of columns) stored ≡ Some bytes → rows_of long (kinds_of columns) bytes ≡ Some stored
read_so long columns stored bytes back written = ap (rows_of long (kinds_of columns)) (Some_same (sym written ∙ back.written)) ∙ back.read

-- what _Columns and _Tables say with the new rows
module _ (letters : CaseTable) (tree : Tree) (P : PackageContent) (sound : StoresSoundPackage letters tree P) (name : List ℕ) (columns : List Column) (limits : List (List Datum)) (wide : All (λ ds. length ds ≡ 10) limits)
    (cells : AreCounted P.pool name columns limits) where
  abbrev pub next : Pool
  next = cells.v.1

  pub given : AreGiven P.pool (refcounts_of P.tables) name columns limits next cells.c.0 cells.t.0 cells.v.0
  given =
      let has = of_columns letters tree P sound in
      are_given P.pool name columns limits cells wide (refcounts_of P.tables) (counted_before letters tree P sound.stores sound.counted (holding columns_name columns_columns has.rows) has.there)

  module _ (u : Table) (there : IsThere P.tables u) (old : List Row) (same : old ≡ u.rows) (new : List Row) (said : List (List Datum)) (says : map (row_data next) new ≡ said) where
    pub joined_said : map (row_data next) (old ++ new) ≡ map (row_data P.pool) old ++ said
    joined_said =
        map-append (row_data next) old new
        ∙ ap₂ (λ a b. a ++ b) (subst (λ rows. map (row_data next) rows ≡ map (row_data P.pool) rows) (sym same) (said_still letters tree P sound.stores next given.stays u there)) says

  pub c_data : map (row_data next) (stored_rows P columns_name ++ cells.c.0) ≡ map (row_data P.pool) (stored_rows P columns_name) ++ columns_rows name 1 columns
  c_data =
      let has = of_columns letters tree P sound in
      joined_said (holding columns_name columns_columns has.rows) has.there (stored_rows P columns_name) (stored_c letters tree P sound) cells.c.0 (columns_rows name 1 columns) given.c_says

  pub t_data : map (row_data next) (stored_rows P tables_name ++ cells.t.0) ≡ map (row_data P.pool) (stored_rows P tables_name) ++ (text name ∷ []) ∷ []
  t_data =
      let has = of_tables letters tree P sound in
      joined_said (holding tables_name tables_columns has.rows) has.there (stored_rows P tables_name) (stored_t letters tree P sound) cells.t.0 ((text name ∷ []) ∷ []) given.t_says

module _ (letters : CaseTable) (tree : Tree) (P : PackageContent) (sound : StoresSoundPackage letters tree P) (name : List ℕ) (columns : List Column) (w : Table) (found : table_named P.tables validation_name ≡ Some w)
    (cells : AreCounted P.pool name columns (map (validation_row name) columns)) where
  abbrev after : Pool
  after = cells.v.1

  w_there : IsThere P.tables (holding validation_name w.columns w.rows)
  w_there =
      let at = found_at P.tables validation_name w found in
      let same : w ≡ holding validation_name w.columns w.rows = ap (λ n. holding n w.columns w.rows) at.3 in
      is_there P.tables (holding validation_name w.columns w.rows) (found ∙ ap (λ (u : Table). Some u) same)

  stored_v : stored_rows P validation_name ≡ w.rows
  stored_v = ap (λ (o : Option Table). unwrap_or (option_map (λ t. t.rows) o) []) found

  pub v_data : map (row_data after) (stored_rows P validation_name ++ cells.v.0) ≡ map (row_data P.pool) (stored_rows P validation_name) ++ map (validation_row name) columns
  v_data =
      let limits = map (validation_row name) columns in
      let wide = validation_wide name columns in
      joined_said letters tree P sound name columns limits wide cells (holding validation_name w.columns w.rows) w_there (stored_rows P validation_name) stored_v cells.v.0 limits (given letters tree P sound name columns limits wide cells).v_says

  abbrev pub rows_after : Rows3
  rows_after = (stored_rows P columns_name ++ cells.c.0, stored_rows P tables_name ++ cells.t.0, stored_rows P validation_name ++ cells.v.0)

  -- accepted, and read from the bytes
  pub record IsWrittenThree (bc bt bv : List ℕ) : Type 0 where
    pub c : List Row
    pub t : List Row
    pub v : List Row
    pub accepted : IsNewTableAccepted letters P name columns after c t v
    pub read : AreReadThree P bc bt bv c t v
    pub written : rows_bytes P.pool.long (kinds_of columns_columns) c ≡ Some bc

  pub written_three : created (is_none (at_name letters P.storages (stream_name name))) P name columns ≡ Ok (rows_after, after) → CanBeStoredThree P rows_after → (bc bt bv : List ℕ)
      → IsWrittenByKeys after P.pool.long columns_columns rows_after.0 bc → IsWrittenByKeys after P.pool.long tables_columns rows_after.1 bt → IsWrittenByKeys after P.pool.long (own_columns P) rows_after.2 bv
      → IsWrittenThree bc bt bv
  written_three told can bc bt bv c t v =
      let accepted : IsNewTableAccepted letters P name columns after c.stored t.stored v.stored =
      record { rows = rows_after; told = told; columns_stored = c.by_keys; tables_stored = t.by_keys; validation_stored = v.by_keys } in
      let back : ComeBackThree P c.stored t.stored v.stored = come_back_three letters tree tree P sound name columns after c.stored t.stored v.stored accepted can in
      record {
        c = c.stored;
        t = t.stored;
        v = v.stored;
        accepted = accepted;
        read = record {
          columns = read_so P.pool.long columns_columns c.stored bc back.columns c.written;
          tables = read_so P.pool.long tables_columns t.stored bt back.tables t.written;
          validation = read_so P.pool.long (own_columns P) v.stored bv back.validation v.written;
        };
        written = c.written;
      }
