-- What is left where a table of a package is dropped, by the rows that its file has.
use Rattle.std.proofs.Common.{◌≡◌, ◌∙◌, ◌⊎◌, ℕ, ◌<◌, Bool, true, List, [], ◌++◌, length, get_or, map, refl, sym, ap, subst, arith, inl, inr, ⊎_elim, Some, None, Option, Result, Ok, Err}
use Rattle.std.specs.Prelude.{filter, not, option_map, unwrap_or}
use Rattle.cfb_medium.specs.declared.error.Error.{Error}
use Rattle.cfb_medium.specs.declared.error.Error.TheVariants.{InvalidInput, NotFound}
use Rattle.cfb_tree.specs.Names.{CaseTable}
use Rattle.cfb_tree.specs.Tree.{Tree}
use Rattle.msi_changes.specs.Changes.{all_taken_back}
use Rattle.msi_columns.specs.Column.{Column}
use Rattle.msi_row_edits.proofs.Exits.{found_of, none_of}
use Rattle.msi_row_edits.proofs.Refusals.{IsOwn}
use Rattle.msi_spec.specs.Calls.{dropped, own_columns, rows_about, rows_beside, speaks_of}
use Rattle.msi_spec.specs.Package.{objects, rows_named, table_stream, PackageContent}
use Rattle.msi_parts.specs.Judged.{heading_named}
use Rattle.msi_parts.specs.Parts.{heading}
use Rattle.msi_parts.proofs.Judging.{named_heading}
use Rattle.msi_changes.specs.Prepared.{pool_after}
use Rattle.msi_pool.specs.Pool.{Pool}
use Rattle.msi_pool.specs.PoolState.{PoolState}
use Rattle.msi_pool.specs.declared.draft.PoolChanges.{PoolChanges}
use Rattle.msi_stored.specs.Changing.{StoresSoundPackage}
use Rattle.msi_stored.specs.StoredPackages.{rows_in}
use Rattle.msi_tables.specs.Rows.{kinds_of, rows_of, Row}
use Rattle.msi_tables.specs.Schema.{columns_columns, columns_in, columns_name, tables_columns, tables_name, validation_name}
use Rattle.msi_tables.specs.Table.{row_data, table_named, Heading, Table}
use Rattle.msi_texts.specs.Results.{◌>>=◌, or_refused, unless_not}
use Rattle.msi_rewritten.proofs.Columns.{have_columns}
use Rattle.msi_rewritten.proofs.Stored.{found_at}
use Rattle.msi_table_edits.specs.Remains.{taken_rows, AreDropTablesFound, MemoryLacksDropped, AreLaid, AreMissing, AreRemains, IsLaid, TellsBytes, TellsRemains}
use Rattle.msi_table_edits.specs.declared.remaining.SystemBytes.{SystemBytes}
use Rattle.msi_table_edits.proofs.LeftTables.{held, named_of}
use Rattle.msi_table_edits.proofs.TakenRows.{laid_back}
use Rattle.msi_table_edits.proofs.TakenUses.{cells_in}

module _ (P : PackageContent) (name : List ℕ) where
  -- all rows of which the uses are taken back, where the table has these
  abbrev pub gone_with : List Row → List Row
  gone_with rows = rows ++ rows_about P validation_name name ++ rows_about P columns_name name ++ rows_about P tables_name name

  -- the rule by its tests
  abbrev tested : Bool → Option Table → Option Table → Result (Table × Pool) Error
  tested a o w = unless_not a InvalidInput >>= λ _. or_refused o NotFound >>= λ t. or_refused w NotFound >>= λ _. all_taken_back P.pool (cells_in (gone_with t.rows)) >>= λ pool. Ok (t, pool)

  missing_by : (o : Option Table) → (o ≡ None) ⊎ (table_named P.tables validation_name ≡ None) → tested true o (table_named P.tables validation_name) ≡ Err NotFound
  missing_by None m = refl
  missing_by (Some t) (inl never) = absurd (cc)
  missing_by (Some t) (inr none) = ap (tested true (Some t)) none

  module _ (hs : List Heading) (pool : Pool) (memory : MemoryLacksDropped hs pool P) where
    named_so : (m : List ℕ) → heading_named hs m ≡ option_map (heading P.pool.long) (table_named P.tables m)
    named_so m = ap (λ hs. heading_named hs m) memory.tables ∙ named_heading P.pool.long P.tables m

    no_table : (m : List ℕ) → heading_named hs m ≡ None → table_named P.tables m ≡ None
    no_table m none = none_of P.pool.long (table_named P.tables m) (sym (named_so m) ∙ none)

    pub refused_so : (e : Error) → AreMissing hs name e → dropped P name ≡ Err e
    refused_so e (inl input) = ap (λ a. tested a (table_named P.tables name) (table_named P.tables validation_name)) input.1 ∙ ap (λ k. Err k) (sym input.0)
    refused_so e (inr missing) =
        ap (λ a. tested a (table_named P.tables name) (table_named P.tables validation_name)) missing.1
        ∙ missing_by (table_named P.tables name) (⊎_elim (λ none. inl (no_table name none)) (λ none. inr (no_table validation_name none)) missing.2)
        ∙ ap (λ k. Err k) (sym missing.0)

    module _ (own validation : Heading) (found : AreDropTablesFound hs name own validation) where
      pub own_of : (t : Table) × (table_named P.tables name ≡ Some t) × (own ≡ heading P.pool.long t)
      own_of = found_of P.pool.long (table_named P.tables name) own (sym (named_so name) ∙ found.own_is)

      pub validation_of : (t : Table) × (table_named P.tables validation_name ≡ Some t) × (validation ≡ heading P.pool.long t)
      validation_of = found_of P.pool.long (table_named P.tables validation_name) validation (sym (named_so validation_name) ∙ found.validation_is)

      pub dropped_is : dropped P name ≡ (all_taken_back P.pool (cells_in (gone_with own_of.0.rows)) >>= λ pool. Ok (own_of.0, pool))
      dropped_is =
          ap (λ a. tested a (table_named P.tables name) (table_named P.tables validation_name)) found.allowed
          ∙ ap (λ o. tested true o (table_named P.tables validation_name)) own_of.1
          ∙ ap (tested true (Some own_of.0)) validation_of.1

      pub uncounted : (e : Error) → all_taken_back P.pool (cells_in (gone_with own_of.0.rows)) ≡ Err e → dropped P name ≡ Err e
      uncounted e is = dropped_is ∙ ap (λ r. r >>= λ pool. Ok (own_of.0, pool)) is

      -- ---- their rows in the tree

      module _ (letters : CaseTable) (tree : Tree) (s : StoresSoundPackage letters tree P) where
        rows_there : (m : List ℕ) (u : Table) → table_named P.tables m ≡ Some u → rows_in letters tree (heading P.pool.long u) ≡ Some u.rows
        rows_there m u at = held (λ u. rows_of P.pool.long (kinds_of u.columns) (unwrap_or (table_stream letters (objects tree.content) u.name) []) ≡ Some u.rows) P.tables s.stores.rows m u at

        pub own_rows : rows_in letters tree own ≡ Some own_of.0.rows
        own_rows = ap (rows_in letters tree) own_of.2 ∙ rows_there name own_of.0 own_of.1

        pub validation_rows : rows_in letters tree validation ≡ Some validation_of.0.rows
        validation_rows = ap (rows_in letters tree) validation_of.2 ∙ rows_there validation_name validation_of.0 validation_of.1

        -- the two with fixed columns
        pub of_columns : (u : Table) × (table_named P.tables columns_name ≡ Some u)
        of_columns = named_of columns_name P.tables ((s.stores.names columns_name).0 refl)

        pub of_tables : (u : Table) × (table_named P.tables tables_name ≡ Some u)
        of_tables = named_of tables_name P.tables ((s.stores.names tables_name).0 refl)

        abbrev columns_told : List ℕ → Option (List Column)
        columns_told m = columns_in (rows_named P columns_name) (map (row_data P.pool) s.stores.validation) m

        fixed_rows : (m : List ℕ) (columns : List Column) (u : Table) → table_named P.tables m ≡ Some u → columns_told m ≡ Some columns → (h : Heading) → h ≡ record { name = m; columns = columns; long = pool.long }
            → rows_in letters tree h ≡ Some u.rows
        fixed_rows m columns u at told h is =
            let same : u.name ≡ m = (found_at P.tables m u at).3 in
            let both : Some columns ≡ Some u.columns = sym told ∙ ap columns_told (sym same) ∙ held (λ u. columns_told u.name ≡ Some u.columns) P.tables s.stores.columns m u at in
            let cs : columns ≡ u.columns = ap (λ o. unwrap_or o []) both in
            ap (rows_in letters tree) is
            ∙ ap (λ l. rows_of l (kinds_of columns) (unwrap_or (table_stream letters (objects tree.content) m) [])) (ap (λ (p : Pool). p.long) memory.pool)
            ∙ ap (λ cs. rows_of P.pool.long (kinds_of cs) (unwrap_or (table_stream letters (objects tree.content) m) [])) cs
            ∙ ap (λ n. rows_of P.pool.long (kinds_of u.columns) (unwrap_or (table_stream letters (objects tree.content) n) [])) (sym same)
            ∙ rows_there m u at

        pub columns_rows : (h : Heading) → h ≡ record { name = columns_name; columns = columns_columns; long = pool.long } → rows_in letters tree h ≡ Some of_columns.0.rows
        columns_rows h is = fixed_rows columns_name columns_columns of_columns.0 of_columns.1 refl h is

        pub tables_rows : (h : Heading) → h ≡ record { name = tables_name; columns = tables_columns; long = pool.long } → rows_in letters tree h ≡ Some of_tables.0.rows
        tables_rows h is = fixed_rows tables_name tables_columns of_tables.0 of_tables.1 refl h is

        -- ---- the rows that speak of the table, and the others

        about_is : (m : List ℕ) (u : Table) → table_named P.tables m ≡ Some u → filter (speaks_of pool name) u.rows ≡ rows_about P m name
        about_is m u at =
            ap (λ p. filter (speaks_of p name) u.rows) memory.pool
            ∙ ap (λ o. filter (speaks_of P.pool name) (unwrap_or (option_map (λ t. t.rows) o) [])) (sym at)

        beside_is : (m : List ℕ) (u : Table) → table_named P.tables m ≡ Some u → filter (λ row. not (speaks_of pool name row)) u.rows ≡ rows_beside P m name
        beside_is m u at =
            ap (λ p. filter (λ row. not (speaks_of p name row)) u.rows) memory.pool
            ∙ ap (λ o. filter (λ row. not (speaks_of P.pool name row)) (unwrap_or (option_map (λ t. t.rows) o) [])) (sym at)

        gone_is : taken_rows pool name own_of.0.rows validation_of.0.rows of_columns.0.rows of_tables.0.rows ≡ gone_with own_of.0.rows
        gone_is =
            ap (λ rows. own_of.0.rows ++ rows ++ filter (speaks_of pool name) of_columns.0.rows ++ filter (speaks_of pool name) of_tables.0.rows) (about_is validation_name validation_of.0 validation_of.1)
            ∙ ap (λ rows. own_of.0.rows ++ rows_about P validation_name name ++ rows ++ filter (speaks_of pool name) of_tables.0.rows) (about_is columns_name of_columns.0 of_columns.1)
            ∙ ap (λ rows. own_of.0.rows ++ rows_about P validation_name name ++ rows_about P columns_name name ++ rows) (about_is tables_name of_tables.0 of_tables.1)

        taken_is : all_taken_back P.pool (cells_in (gone_with own_of.0.rows)) ≡ all_taken_back pool (cells_in (taken_rows pool name own_of.0.rows validation_of.0.rows of_columns.0.rows of_tables.0.rows))
        taken_is = ap (λ p. all_taken_back p (cells_in (gone_with own_of.0.rows))) (sym memory.pool) ∙ ap (λ rows. all_taken_back pool (cells_in rows)) (sym gone_is)

        module _ (hc ht : Heading) (c_is : hc ≡ record { name = columns_name; columns = columns_columns; long = pool.long }) (t_is : ht ≡ record { name = tables_name; columns = tables_columns; long = pool.long })
            (bytes : SystemBytes) (laid : AreLaid pool name validation hc ht validation_of.0.rows of_columns.0.rows of_tables.0.rows bytes) where
          -- in the words of the package
          told : (m : List ℕ) (columns : List Column) (u : Table) → table_named P.tables m ≡ Some u → (h : Heading) → h.columns ≡ columns → h.long ≡ P.pool.long → (bs : List ℕ)
              → IsLaid h.long h.columns (filter (λ row. not (speaks_of pool name row)) u.rows) bs → IsLaid P.pool.long columns (rows_beside P m name) bs
          told m columns u at h cs long bs laid =
              subst (λ rows. IsLaid P.pool.long columns rows bs) (beside_is m u at)
              (subst (λ cs. IsLaid P.pool.long cs (filter (λ row. not (speaks_of pool name row)) u.rows) bs) cs
              (subst (λ l. IsLaid l h.columns (filter (λ row. not (speaks_of pool name row)) u.rows) bs) long laid))

          own_columns_are : validation.columns ≡ own_columns P
          own_columns_are = ap (λ (h : Heading). h.columns) validation_of.2 ∙ ap (λ o. unwrap_or (option_map (λ t. t.columns) o) []) (sym validation_of.1)

          some_columns : 0 < length (own_columns P)
          some_columns =
              subst (λ cs. 0 < length cs) (sym (ap (λ (h : Heading). h.columns) validation_of.2) ∙ own_columns_are)
              (held (λ u. 0 < length u.columns) P.tables (λ j w within. have_columns (rows_named P columns_name) (map (row_data P.pool) s.stores.validation) (get_or P.tables j w) (s.stores.columns j w within)) validation_name validation_of.0 validation_of.1)

          pub remains_are : (next : Pool) → all_taken_back pool (cells_in (taken_rows pool name own_of.0.rows validation_of.0.rows of_columns.0.rows of_tables.0.rows)) ≡ Ok next
              → AreRemains P name bytes.columns.items bytes.tables.items bytes.validation.items next
          remains_are next back =
              let long : pool.long ≡ P.pool.long = ap (λ (p : Pool). p.long) memory.pool in
              let v = told validation_name (own_columns P) validation_of.0 validation_of.1 validation own_columns_are (ap (λ (h : Heading). h.long) validation_of.2) bytes.validation.items laid.validation in
              let c = told columns_name columns_columns of_columns.0 of_columns.1 hc (ap (λ (h : Heading). h.columns) c_is) (ap (λ (h : Heading). h.long) c_is ∙ long) bytes.columns.items laid.columns in
              let t = told tables_name tables_columns of_tables.0 of_tables.1 ht (ap (λ (h : Heading). h.columns) t_is) (ap (λ (h : Heading). h.long) t_is ∙ long) bytes.tables.items laid.tables in
              record {
                table = own_of.0;
                columns = c.stored;
                tables = t.stored;
                validation = v.stored;
                drops = record {
                  accepted = dropped_is ∙ ap (λ r. r >>= λ pool. Ok (own_of.0, pool)) (taken_is ∙ back);
                  columns = c.is_stored;
                  tables = t.is_stored;
                  validation = v.is_stored;
                };
                read = record {
                  columns = laid_back P.pool.long columns_columns (rows_beside P columns_name name) bytes.columns.items (omega arith) c;
                  tables = laid_back P.pool.long tables_columns (rows_beside P tables_name name) bytes.tables.items (omega arith) t;
                  validation = laid_back P.pool.long (own_columns P) (rows_beside P validation_name name) bytes.validation.items some_columns v;
                };
                written = c.written;
              }

-- what the bytes of rows tell is told of the package
pub remains_told : (P : PackageContent) (name : List ℕ) (hs : List Heading) (state : PoolState) (memory : MemoryLacksDropped hs state.pool P) (own validation : Heading) (found : AreDropTablesFound hs name own validation)
    (letters : CaseTable) (tree : Tree) (s : StoresSoundPackage letters tree P) (hc ht : Heading)
    → hc ≡ record { name = columns_name; columns = columns_columns; long = state.pool.long } → ht ≡ record { name = tables_name; columns = tables_columns; long = state.pool.long }
    → (r : Result (SystemBytes × PoolChanges) Error)
    → ((rows v c t : List Row) → rows_in letters tree own ≡ Some rows → rows_in letters tree validation ≡ Some v → rows_in letters tree hc ≡ Some c → rows_in letters tree ht ≡ Some t
    → TellsBytes state name validation hc ht rows v c t r)
    → TellsRemains P name state r
remains_told P name hs state memory own validation found letters tree s hc ht c_is t_is r told =
    by r
    (told (own_of P name hs state.pool memory own validation found).0.rows (validation_of P name hs state.pool memory own validation found).0.rows
    (of_columns P name hs state.pool memory own validation found letters tree s).0.rows (of_tables P name hs state.pool memory own validation found letters tree s).0.rows
    (own_rows P name hs state.pool memory own validation found letters tree s) (validation_rows P name hs state.pool memory own validation found letters tree s)
    (columns_rows P name hs state.pool memory own validation found letters tree s hc c_is) (tables_rows P name hs state.pool memory own validation found letters tree s ht t_is))
  where
    by : (r : Result (SystemBytes × PoolChanges) Error)
        → TellsBytes state name validation hc ht (own_of P name hs state.pool memory own validation found).0.rows (validation_of P name hs state.pool memory own validation found).0.rows
        (of_columns P name hs state.pool memory own validation found letters tree s).0.rows (of_tables P name hs state.pool memory own validation found letters tree s).0.rows r
        → TellsRemains P name state r
    by (Ok x) both = remains_are P name hs state.pool memory own validation found letters tree s hc ht c_is t_is x.0 both.1 (pool_after state x.1) both.0
    by (Err e) (inl fault) = inl fault
    by (Err e) (inr back) = inr (uncounted P name hs state.pool memory own validation found e (taken_is P name hs state.pool memory own validation found letters tree s ∙ back))

pub missing_own : (hs : List Heading) (name : List ℕ) (e : Error) → AreMissing hs name e → IsOwn e
missing_own hs name e (inl input) = subst IsOwn (sym input.0) tt
missing_own hs name e (inr missing) = subst IsOwn (sym missing.0) tt
