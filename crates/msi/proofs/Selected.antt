-- What a query answers of a package that is held.
use Rattle.std.proofs.Common.{◌≡◌, ◌∙◌, ◌⊎◌, ℕ, Bool, List, [], ◌∷◌, length, map, refl, sym, ap, subst, arith, inl, inr, Some, None}
use Rattle.std.specs.Prelude.{All, Contains, Err, IfErr, IfOk, IfSome, MatchResult, Ok, Option, Result, option_map, unwrap_or}
use Rattle.std.proofs.lemmas.List.Elements.{All-cons, All-head, All-tail}
use Rattle.cfb.specs.Views.{file_case_table, mini_of}
use Rattle.cfb_fat.specs.Tables.{IsJustifiedBySectors}
use Rattle.cfb_mini.specs.Views.{allocator_of}
use Rattle.cfb_medium.specs.Calls.{IsFaultOrInvalidInputIf}
use Rattle.cfb_medium.specs.declared.error.Error.{Error}
use Rattle.cfb_medium.specs.declared.error.Error.TheVariants.{Memory}
use Rattle.cfb_medium.specs.declared.medium.ReadMedium.{Ghosts}
use Rattle.cfb_tree.specs.Names.{CaseTable}
use Rattle.cfb_tree.specs.Tree.{Tree}
use Rattle.msi_spec.specs.Calls.{selected_in}
use Rattle.msi_spec.specs.Package.{PackageContent}
use Rattle.msi_parts.proofs.Shapes.{wide_selected}
use Rattle.msi_parts.specs.Parts.{heading}
use Rattle.msi_parts.specs.Whole.{HasFullRows, Wide}
use Rattle.msi_pool.specs.Pool.{Pool}
use Rattle.msi_query.specs.Query.{Query, selected}
use Rattle.msi_query.specs.Sources.{IsRefusedSelect, TablesByName}
use Rattle.msi_store.specs.Stores.{stored_in}
use Rattle.msi_stored.specs.Reading.{ReturnsOrFault}
use Rattle.msi_stored.specs.StoredPackages.{AreTablesOfTree, HasCause, HasTables, IsUnread, StoredTables, rows_in}
use Rattle.msi_tables.specs.Table.{Heading, Table, table_named}
use Rattle.msi_tables.specs.declared.rows.Rows.{Rows}
use Rattle.msi_texts.specs.Results.{◌>>=◌}
use Rattle.msi_store.proofs.Faults.{memory_cause}
use Rattle.msi_store.proofs.Found.{option_then}
use Rattle.msi_spec.specs.Package.{objects, table_stream}
use Rattle.msi_parts.specs.Judged.{heading_named}
use Rattle.msi_query.specs.Said.{query_of}
use Rattle.msi_query.specs.declared.select.Select.{Select}
use Rattle.msi_tables.specs.Rows.{Row, kinds_of}
use Rattle.std.proofs.lemmas.List.{length-map}
use Rattle.cfb.specs.Streams.{FileHoldsTree}
use Rattle.msi.specs.Selected.{AnswersAt, as_read, selected_by, shown_of, tables_at}
use Rattle.msi.proofs.HeldTables.{are_tables, rows_whole, tables_whole}
use Rattle.msi.specs.Opened.{PackageHasContent, file_in, pool_in, store_in, tables_in}
use Rattle.msi.specs.Rows.{rows_shown}
use Rattle.msi.specs.declared.package.Package.{Package}

-- a table of a list has what all of it have
of_all : {X : Type 0} (P : X → Type 0) (xs : List X) (x : X) → All P xs → Contains xs x → P x
of_all P xs x all there = subst P there.2 (all there.0 x there.1)

-- each heading of a list of tables that are read is read
all_headings : (letters : CaseTable) (tree : Tree) (long : Bool) (ts : List Table) → All (λ t. rows_in letters tree (heading long t) ≡ Some t.rows) ts → All (λ h. rows_in letters tree h ≡ None → ⊥) (map (heading long) ts)
all_headings letters tree long [] all = λ k d l. absurd (omega (arith, l))
all_headings letters tree long (t ∷ ts) all =
    All-cons (λ h. rows_in letters tree h ≡ None → ⊥) (heading long t) (map (heading long) ts)
    (λ none. let unread : Some t.rows ≡ None = sym (All-head (λ t. rows_in letters tree (heading long t) ≡ Some t.rows) t ts all) ∙ none in absurd (cc))
    (all_headings letters tree long ts (All-tail (λ t. rows_in letters tree (heading long t) ≡ Some t.rows) t ts all))

-- the tables of a tree are those that the file has, and their rows are whole
module _ (letters : CaseTable) (tree : Tree) (headings : List Heading) where
  at_rows : (name : List ℕ) (t : Table) (h : Heading) (rows : List Row) → tables_at letters tree headings name ≡ Some t → heading_named headings name ≡ Some h → rows_in letters tree h ≡ Some rows → t.rows ≡ rows
  at_rows name t h rows is found read =
      let same : as_read letters tree h ≡ t = cc (sym (ap (option_map (as_read letters tree)) found) ∙ is) in
      ap (λ (t : Table). t.rows) (sym same) ∙ ap (λ o. unwrap_or o []) read

  pub tables_read : AreTablesOfTree letters tree headings (tables_at letters tree headings)
  tables_read = record {
    names = λ name. sym (option_then (as_read letters tree) (λ t. t.name) (heading_named headings name));
    columns = λ name. sym (option_then (as_read letters tree) (λ t. t.columns) (heading_named headings name));
    rows = at_rows;
  }

  pub tables_at_whole : (name : List ℕ) → IfSome (tables_at letters tree headings name) HasFullRows
  tables_at_whole name = by (heading_named headings name)
    where
      rows : (h : Heading) (o : Option (List Row)) → rows_in letters tree h ≡ o → Wide (length h.columns) (unwrap_or o [])
      rows h None is = tt
      rows h (Some rs) is = subst (λ n. Wide n rs) (length-map h.columns (λ c. c.kind)) (rows_whole h.long (kinds_of h.columns) (unwrap_or (table_stream letters (objects tree.content) h.name) []) rs is)

      by : (o : Option Heading) → IfSome (option_map (as_read letters tree) o) HasFullRows
      by None = tt
      by (Some h) = rows h (rows_in letters tree h) refl

-- a query of tables that the package has, with whole rows
module _ {F : Type 0} {g : Ghosts F} (it : Package F g) (tables : TablesByName) (has : HasTables (stored_in (store_in it)) tables) (whole : (name : List ℕ) → IfSome (tables name) HasFullRows) (asked : Query) where
  pub whole_answer : (t : Table) → selected tables (pool_in it).pool asked ≡ Ok t → HasFullRows t
  whole_answer t is = subst (λ r. IfOk r HasFullRows) is (wide_selected tables (pool_in it).pool whole asked)

  pub rows_by : (t : Table) → selected tables (pool_in it).pool asked ≡ Ok t → (r : Result Rows Error) → IfOk r (λ rows. rows_shown rows ≡ shown_of (pool_in it).pool t) → IfErr r (λ e. e ≡ Memory)
      → MatchResult r (λ rows. selected_by tables (pool_in it).pool asked ≡ Ok (rows_shown rows)) (IsFaultOrInvalidInputIf ⊥)
  rows_by t is (Ok rows) ok err = ap (λ r. r >>= λ t. Ok (shown_of (pool_in it).pool t)) is ∙ ap (λ s. Ok s) (sym ok)
  rows_by t is (Err e) ok err = subst (IsFaultOrInvalidInputIf ⊥) (sym err) tt

  pub refused_by : (new : StoredTables F g) (e : Error)
      → (e ≡ Memory) ⊎ HasCause (stored_in (store_in it)) new e ⊎ (IsRefusedSelect e × ((tables : TablesByName) → HasTables (stored_in (store_in it)) tables → selected tables (pool_in it).pool asked ≡ Err e))
      → IsFaultOrInvalidInputIf ⊥ e ⊎ IsUnread (stored_in (store_in it)) e ⊎ (selected_by tables (pool_in it).pool asked ≡ Err e)
  refused_by new e (inl memory) = inl (subst (IsFaultOrInvalidInputIf ⊥) (sym memory) tt)
  refused_by new e (inr (inl cause)) = by cause.either
    where
      by : IsFaultOrInvalidInputIf ⊥ e ⊎ IsUnread (stored_in (store_in it)) e → IsFaultOrInvalidInputIf ⊥ e ⊎ IsUnread (stored_in (store_in it)) e ⊎ (selected_by tables (pool_in it).pool asked ≡ Err e)
      by (inl fault) = inl fault
      by (inr unread) = inr (inl unread)
  refused_by new e (inr (inr told)) = inr (inr (ap (λ r. r >>= λ t. Ok (shown_of (pool_in it).pool t)) (told.1 tables has)))

-- of a tree that the file holds
module _ {F : Type 0} {g : Ghosts F} (it : Package F g) (tree : Tree) (held : FileHoldsTree (file_in it) tree) where
  pub read_tables : HasTables (stored_in (store_in it)) (tables_at (file_case_table (file_in it)) tree (tables_in it))
  read_tables = (tree, held, tables_read (file_case_table (file_in it)) tree (tables_in it))

  pub read_whole : (name : List ℕ) → IfSome (tables_at (file_case_table (file_in it)) tree (tables_in it) name) HasFullRows
  read_whole = tables_at_whole (file_case_table (file_in it)) tree (tables_in it)

  pub read_answer : (query : Select) (r : Result Rows Error)
      → MatchResult r (λ rows. selected_by (tables_at (file_case_table (file_in it)) tree (tables_in it)) (pool_in it).pool (query_of query) ≡ Ok (rows_shown rows)) (IsFaultOrInvalidInputIf ⊥) → AnswersAt it tree query r
  read_answer query (Ok rows) told = told
  read_answer query (Err e) told = inl told

  pub read_refused : (query : Select) (e : Error)
      → IsFaultOrInvalidInputIf ⊥ e ⊎ IsUnread (stored_in (store_in it)) e ⊎ (selected_by (tables_at (file_case_table (file_in it)) tree (tables_in it)) (pool_in it).pool (query_of query) ≡ Err e)
      → AnswersAt it tree query (Err e)
  read_refused query e (inl fault) = inl fault
  read_refused query e (inr (inl unread)) = inr (inl (unread.0, unread.1 tree held))
  read_refused query e (inr (inr refuses)) = inr (inr refuses)

-- of a package that is held
module _ {F : Type 0} {g : Ghosts F} (it : Package F g) (P : PackageContent) (h : PackageHasContent it P) where
  abbrev long : Bool
  long = (pool_in it).pool.long

  -- all its rows are read
  read : All (λ t. rows_in (file_case_table (file_in it)) h.tree (heading long t) ≡ Some t.rows) P.tables
  read = subst (λ l. All (λ t. rows_in (file_case_table (file_in it)) h.tree (heading l t) ≡ Some t.rows) P.tables) (sym (ap (λ (p : Pool). p.long) h.memory.pool)) h.stores.rows

  pub tables_held : HasTables (stored_in (store_in it)) (table_named P.tables)
  tables_held = (
    h.tree,
    h.file,
    subst (λ (hs : List Heading). AreTablesOfTree (file_case_table (file_in it)) h.tree hs (table_named P.tables)) (sym h.memory.tables) (are_tables (file_case_table (file_in it)) h.tree long P.tables read),
  )

  pub held_whole : (name : List ℕ) → IfSome (table_named P.tables name) HasFullRows
  held_whole = tables_whole (file_case_table (file_in it)) h.tree long P.tables read

  not_unread : (e : Error) → IsUnread (stored_in (store_in it)) e → ⊥
  not_unread e unread =
      let many = unread.1 h.tree h.file in
      of_all (λ k. rows_in (file_case_table (file_in it)) h.tree k ≡ None → ⊥) (map (heading long) P.tables) many.0 (all_headings (file_case_table (file_in it)) h.tree long P.tables read)
      (subst (λ (hs : List Heading). Contains hs many.0) h.memory.tables many.1) many.2

  -- what the rules answer, by the pool in memory
  shown_by : (asked : Query) → selected_in P asked ≡ selected_by (table_named P.tables) (pool_in it).pool asked
  shown_by asked = ap (λ (p : Pool). selected_by (table_named P.tables) p asked) (sym h.memory.pool)

  pub rows_answer : (asked : Query) (r : Result Rows Error) → MatchResult r (λ rows. selected_by (table_named P.tables) (pool_in it).pool asked ≡ Ok (rows_shown rows)) (IsFaultOrInvalidInputIf ⊥)
      → ReturnsOrFault rows_shown (selected_in P asked) r
  rows_answer asked (Ok rows) told = shown_by asked ∙ told
  rows_answer asked (Err e) told = inl told

  pub refused_answer : (asked : Query) (e : Error) → IsFaultOrInvalidInputIf ⊥ e ⊎ IsUnread (stored_in (store_in it)) e ⊎ (selected_by (table_named P.tables) (pool_in it).pool asked ≡ Err e)
      → IsFaultOrInvalidInputIf ⊥ e ⊎ (selected_in P asked ≡ Err e)
  refused_answer asked e (inl fault) = inl fault
  refused_answer asked e (inr (inl unread)) = absurd (not_unread e unread)
  refused_answer asked e (inr (inr refuses)) = inr (shown_by asked ∙ refuses)

-- why a query is refused: by its cause, or by the definition
pub query_cause : {F : Type 0} {g : Ghosts F} (it : Package F g) (new : StoredTables F g) (asked : Query) (e : Error)
    → (e ≡ Memory) ⊎ HasCause (stored_in (store_in it)) new e ⊎ (IsRefusedSelect e × ((tables : TablesByName) → HasTables (stored_in (store_in it)) tables → selected tables (pool_in it).pool asked ≡ Err e))
    → IsJustifiedBySectors (allocator_of (mini_of (file_in it))) (allocator_of (mini_of new.0)) e ⊎ (IsRefusedSelect e × ((tables : TablesByName) → HasTables (stored_in (store_in it)) tables → selected tables (pool_in it).pool asked ≡ Err e))
query_cause it new asked e (inl memory) = inl (memory_cause (allocator_of (mini_of (file_in it))) (allocator_of (mini_of new.0)) e memory)
query_cause it new asked e (inr (inl cause)) = inl cause.below
query_cause it new asked e (inr (inr told)) = inr told
