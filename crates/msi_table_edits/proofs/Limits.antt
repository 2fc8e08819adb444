-- What _Validation comes to beside a new table: it gets the rows that limit its columns; or it is the new table, which no row limits.
use Rattle.std.proofs.Common.{◌≡◌, ◌∙◌, ℕ, ◌+◌, true, false, cond, List, [], ◌++◌, length, map, refl, sym, ap, subst, arith, Some, None, not}
use Rattle.std.specs.Prelude.{◌==◌, bytes_eq, filter, find, is_none, unwrap_or, IfSome}
use Rattle.std.specs.List.{list_all, list_any}
use Rattle.std.specs.List.Sorted.{IsPermutation, IsStrictlySortedBy}
use Rattle.std.proofs.lemmas.List.Elements.{filter-append}
use Rattle.std.proofs.lemmas.List.Sorted.{IsPermutation-refl}
use Rattle.cfb_tree.specs.Names.{CaseTable}
use Rattle.cfb_tree.specs.Tree.{Tree}
use Rattle.cfb_tree.proofs.OneContent.{Some_same}
use Rattle.msi_changes.specs.Laws.{uses_in}
use Rattle.msi_changes.proofs.CellUses.{Stays}
use Rattle.msi_columns.specs.Column.{Column}
use Rattle.msi_new_package.proofs.Laid.{names_free}
use Rattle.msi_spec.specs.Calls.{is_kept, names_distinct, new_table, rows_put, table_put}
use Rattle.msi_spec.specs.Opening.{keeps_encoded_names}
use Rattle.msi_spec.specs.Package.{at_name, objects, stream_name, table_name_cmp, table_stream, PackageContent}
use Rattle.msi_spec.specs.Sound.{refcounts_of}
use Rattle.msi_spec.specs.SoundParts.{HasSoundNames}
use Rattle.msi_spec.specs.Split.{TreeStoresRest}
use Rattle.msi_spec.proofs.NewColumns.{new_columns, none_pass}
use Rattle.msi_spec.proofs.NewRows.{keys_apart, validation_begins, validation_keys}
use Rattle.msi_pool.specs.Pool.{Pool}
use Rattle.msi_tables.specs.Rows.{kinds_of, rows_of, Row}
use Rattle.msi_tables.specs.Schema.{begins_with, columns_read, columns_rows, is_for, schema_of, validation_columns, validation_name, validation_row}
use Rattle.msi_tables.specs.Table.{row_data, table_named, Table}
use Rattle.msi_values.specs.Datum.{Datum}
use Rattle.msi_table_edits.specs.Validating.{listed_columns}
use Rattle.msi_table_edits.proofs.Among.{put_found, rises_put}
use Rattle.msi_table_edits.proofs.Holding.{holding, is_there, there_has, there_own, there_put, uses_swapped, IsThere}
use Rattle.msi_table_edits.proofs.NewTable.{is_apart, said_moved, uses_stored, IsLimited}
use Rattle.msi_table_edits.proofs.NoStream.{no_rows, no_table_stream}

abbrev bytes_at : CaseTable → Tree → List ℕ → List ℕ
bytes_at letters tree m = unwrap_or (table_stream letters (objects tree.content) m) []

-- ---- it is there

module _ (letters : CaseTable) (old : Tree) (P : PackageContent) (stores : TreeStoresRest letters old P) (named : HasSoundNames letters P) (name : List ℕ) (columns : List Column) (none : table_named P.tables name ≡ None)
    (own : List Column) (old_v : List Row) (there : IsThere P.tables (holding validation_name own old_v)) where
  abbrev N : Table
  N = new_table name columns

  abbrev V : Table
  V = holding validation_name own old_v

  differs : bytes_eq name validation_name ≡ false
  differs = is_apart P.tables name none V there

  own_kinds : kinds_of own ≡ kinds_of validation_columns
  own_kinds = subst (λ o. IfSome o (λ u. kinds_of u.columns ≡ kinds_of validation_columns)) there.found named.validation_kinds

  read_same : (tree : Tree) (s : TreeStoresRest letters tree P) → s.validation ≡ old_v
  read_same tree s =
      let read : rows_of P.pool.long (kinds_of own) (bytes_at letters tree validation_name) ≡ Some old_v =
      there_has (λ u. rows_of P.pool.long (kinds_of u.columns) (bytes_at letters tree u.name) ≡ Some u.rows) P.tables V there s.rows in
      Some_same (sym s.validation_is ∙ ap (λ ks. rows_of P.pool.long ks (bytes_at letters tree validation_name)) (sym own_kinds) ∙ read)

  module _ (pool : Pool) (stays : Stays (refcounts_of P.tables) P.pool pool) (new_v v : List Row) (moved : IsPermutation (old_v ++ new_v) v) (says : map (row_data pool) new_v ≡ map (validation_row name) columns)
      (some : not (length columns == 0) ≡ true) (distinct : names_distinct columns ≡ true) (can_keep : list_all is_kept columns ≡ true)
      (unsaid : list_all (λ c. is_none (find (is_for name c.name) (map (row_data P.pool) old_v))) columns ≡ true) where
    uses_more : (n : ℕ) → refcounts_of (rows_put validation_name v (table_put N P.tables)) n ≡ uses_in new_v n + refcounts_of (table_put N P.tables) n
    uses_more n =
        let rises : IsStrictlySortedBy table_name_cmp (map (λ u. u.name) (table_put N P.tables)) = rises_put N P.tables none stores.rising in
        let swapped : refcounts_of (rows_put validation_name v (table_put N P.tables)) n + uses_in old_v n ≡ uses_in v n + refcounts_of (table_put N P.tables) n =
        uses_swapped validation_name v (table_put N P.tables) V (there_put N P.tables V there differs) refl rises n in
        let all = uses_stored old_v new_v v moved n in
        omega (arith, swapped, all)

    pub limited_more : IsLimited letters P name columns (map (validation_row name) columns) pool own old_v new_v v
    limited_more = record {
      now = there_own validation_name v (table_put N P.tables) V (there_put N P.tables V there differs) refl;
      there = λ e. there;
      own_new = λ e. (let never : true ≡ false = sym e ∙ differs in absurd (cc));
      read = read_same;
      said = said_moved letters old P stores pool stays V there new_v v (map (validation_row name) columns) says moved;
      uses = uses_more;
      kinds = own_kinds;
      keys = subst (λ o. IfSome o (λ u. map (λ c. c.key) u.columns ≡ map (λ c. c.key) validation_columns)) there.found named.validation_keys;
      no_storage = there_has (λ u. at_name letters P.storages (stream_name u.name) ≡ None) P.tables V there named.no_storage;
      described = λ cs unspoken. new_columns cs (map (row_data P.pool) old_v) name columns some unspoken unsaid can_keep distinct;
      whole = validation_keys name columns distinct;
      begin = validation_begins name columns;
      apart = keys_apart name (map (row_data P.pool) old_v) columns unsaid;
    }

-- ---- it is new

-- its columns are read from its rows of _Columns alone
pub read_listed : (cs : List (List Datum)) → list_any (begins_with validation_name) cs ≡ false → schema_of (cs ++ columns_rows validation_name 1 listed_columns) [] validation_name ≡ Some listed_columns
read_listed cs none =
    let rows = columns_rows validation_name 1 listed_columns in
    let own : filter (begins_with validation_name) (cs ++ rows) ≡ rows = filter-append (begins_with validation_name) cs rows ∙ ap (λ xs. xs ++ filter (begins_with validation_name) rows) (none_pass (begins_with validation_name) cs none) in
    ap (λ xs. cond (length xs == 0) None (columns_read [] xs (length xs) 1)) own

module _ (letters : CaseTable) (P : PackageContent) (usable : keeps_encoded_names letters ≡ true) (named : HasSoundNames letters P) (none : table_named P.tables validation_name ≡ None)
    (rising : IsStrictlySortedBy table_name_cmp (map (λ u. u.name) P.tables)) (free : at_name letters P.storages (stream_name validation_name) ≡ None) (pool : Pool) where
  abbrev W : Table
  W = new_table validation_name listed_columns

  w_there : IsThere (table_put W P.tables) W
  w_there = is_there (table_put W P.tables) W (put_found W P.tables none)

  pub limited_none : IsLimited letters P validation_name listed_columns [] pool listed_columns [] [] []
  limited_none = record {
    now = there_own validation_name [] (table_put W P.tables) W w_there refl;
    there = λ e. absurd (cc);
    own_new = λ e. refl;
    read = λ tree s. Some_same (sym s.validation_is ∙ ap (λ o. rows_of P.pool.long (kinds_of validation_columns) (unwrap_or o [])) (no_table_stream letters tree P usable s named validation_name names_free.2 none) ∙ no_rows P.pool.long (kinds_of validation_columns));
    said = IsPermutation-refl [];
    uses = λ n.
        let rises : IsStrictlySortedBy table_name_cmp (map (λ u. u.name) (table_put W P.tables)) = rises_put W P.tables none rising in
        let swapped : refcounts_of (rows_put validation_name [] (table_put W P.tables)) n + uses_in [] n ≡ uses_in [] n + refcounts_of (table_put W P.tables) n = uses_swapped validation_name [] (table_put W P.tables) W w_there refl rises n in
        omega (arith, swapped);
    kinds = refl;
    keys = refl;
    no_storage = free;
    described = read_listed;
    whole = refl;
    begin = refl;
    apart = refl;
  }
