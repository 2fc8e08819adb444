-- The three tables that describe others, as memory has them.
use Rattle.std.proofs.Common.{◌≡◌, ◌∙◌, ℕ, Bool, true, false, cond, List, [], ◌∷◌, map, refl, sym, ap, Option, Some, None, option_map, ◌⊎◌, inl, inr}
use Rattle.std.specs.Prelude.{bytes_eq, find, unwrap_or}
use Rattle.std.specs.Rc.{rc_value}
use Rattle.std.specs.declared.alloc.Global.{Global}
use Rattle.std.specs.declared.rc.Rc.{Rc}
use Rattle.cfb_tree_edits.specs.LiveTreeRules.{IsFaultOrFull}
use Rattle.cfb_medium.specs.Calls.{IsFaultOrInvalidInputIf}
use Rattle.cfb_medium.specs.declared.error.Error.{Error}
use Rattle.cfb_medium.specs.declared.error.Error.TheVariants.{InvalidData}
use Rattle.cfb_tree.specs.Names.{CaseTable}
use Rattle.cfb_tree.specs.Tree.{Tree}
use Rattle.cfb_tree.proofs.OneContent.{Some_same}
use Rattle.msi_row_edits.proofs.Exits.{none_of}
use Rattle.msi_spec.specs.Calls.{stored_rows}
use Rattle.msi_spec.specs.Package.{objects, table_stream, PackageContent}
use Rattle.msi_parts.specs.Judged.{heading_named}
use Rattle.msi_parts.specs.Parts.{heading}
use Rattle.msi_parts.proofs.Judging.{named_heading}
use Rattle.msi_schema.specs.Headings.{headings_in}
use Rattle.msi_stored.specs.Changing.{StoresSoundPackage}
use Rattle.msi_stored.specs.StoredPackages.{rows_in}
use Rattle.msi_tables.specs.Held.{heading_of}
use Rattle.msi_tables.specs.Rows.{kinds_of, rows_of, Row}
use Rattle.msi_tables.specs.Schema.{columns_columns, columns_name, tables_columns, tables_name, validation_name}
use Rattle.msi_tables.specs.Table.{table_named, Heading, Table}
use Rattle.msi_tables.specs.declared.table.Table.{Table as HeldTable}
use Rattle.msi_table_edits.proofs.CreatedFrom.{of_columns, of_tables}
use Rattle.msi_table_edits.proofs.Holding.{holding, is_there, there_has, IsThere}
use Rattle.msi_rewritten.proofs.Stored.{found_at}

-- a table as it is found in memory
pub found_so : (ts : List (Rc HeldTable Global)) (name : List ℕ) (o : Option (Rc HeldTable Global)) → o ≡ find (λ t. bytes_eq (heading_of (rc_value t)).name name) ts
    → heading_named (headings_in ts) name ≡ option_map (λ t. heading_of (rc_value t)) o
found_so ts name o is = along ts ∙ ap (option_map (λ t. heading_of (rc_value t))) (sym is)
  where
    along : (ts : List (Rc HeldTable Global)) → heading_named (headings_in ts) name ≡ option_map (λ t. heading_of (rc_value t)) (find (λ t. bytes_eq (heading_of (rc_value t)).name name) ts)
    along [] = refl
    along (t ∷ ts) = by (bytes_eq (heading_of (rc_value t)).name name) (along ts)
      where
        by : (b : Bool) → heading_named (headings_in ts) name ≡ option_map (λ t. heading_of (rc_value t)) (find (λ t. bytes_eq (heading_of (rc_value t)).name name) ts)
            → cond b (Some (heading_of (rc_value t))) (heading_named (headings_in ts) name)
            ≡ option_map (λ t. heading_of (rc_value t)) (cond b (Some t) (find (λ t. bytes_eq (heading_of (rc_value t)).name name) ts))
        by true rest = refl
        by false rest = rest

pub held_so : (ts : List (Rc HeldTable Global)) (name : List ℕ) (o : Option (Rc HeldTable Global)) → o ≡ find (λ t. bytes_eq (heading_of (rc_value t)).name name) ts
    → (t : Rc HeldTable Global) → o ≡ Some t → (copy : HeldTable) → copy ≡ rc_value t → heading_named (headings_in ts) name ≡ Some (heading_of copy)
held_so ts name o is t some copy same = found_so ts name o is ∙ ap (option_map (λ t. heading_of (rc_value t))) some ∙ ap (λ (u : HeldTable). Some (heading_of u)) (sym same)

some_of : (long : Bool) (o : Option Table) (h : Heading) → option_map (heading long) o ≡ Some h → (t : Table) × (o ≡ Some t)
some_of long None h is = (let never : None ≡ Some h = is in absurd (cc))
some_of long (Some t) h is = (t, refl)

module _ (letters : CaseTable) (tree : Tree) (P : PackageContent) (sound : StoresSoundPackage letters tree P) (headings : List Heading) (memory : headings ≡ map (heading P.pool.long) P.tables) where
  in_memory : (name : List ℕ) → heading_named headings name ≡ option_map (heading P.pool.long) (table_named P.tables name)
  in_memory name = ap (λ hs. heading_named hs name) memory ∙ named_heading P.pool.long P.tables name

  pub not_there : (name : List ℕ) → heading_named headings name ≡ None → table_named P.tables name ≡ None
  not_there name none = none_of P.pool.long (table_named P.tables name) (sym (in_memory name) ∙ none)

  pub is_one : (name : List ℕ) (h : Heading) → heading_named headings name ≡ Some h → (t : Table) × (table_named P.tables name ≡ Some t)
  is_one name h there = some_of P.pool.long (table_named P.tables name) h (sym (in_memory name) ∙ there)

  -- a table, its heading, and its rows
  module _ (t : Table) (there : IsThere P.tables t) (h : Heading) (is : heading_named headings t.name ≡ Some h) where
    pub heading_is : h ≡ heading P.pool.long t
    heading_is = Some_same (sym is ∙ in_memory t.name ∙ ap (option_map (heading P.pool.long)) there.found)

    pub rows_are : (rows : List Row) → rows_in letters tree h ≡ Some rows → rows ≡ t.rows
    rows_are rows read =
        let stored : rows_of P.pool.long (kinds_of t.columns) (unwrap_or (table_stream letters (objects tree.content) t.name) []) ≡ Some t.rows =
        there_has (λ u. rows_of P.pool.long (kinds_of u.columns) (unwrap_or (table_stream letters (objects tree.content) u.name) []) ≡ Some u.rows) P.tables t there sound.stores.rows in
        Some_same (sym read ∙ ap (rows_in letters tree) heading_is ∙ stored)

    pub are_there : (rows_in letters tree h ≡ None) → ⊥
    are_there none =
        let stored : rows_of P.pool.long (kinds_of t.columns) (unwrap_or (table_stream letters (objects tree.content) t.name) []) ≡ Some t.rows =
        there_has (λ u. rows_of P.pool.long (kinds_of u.columns) (unwrap_or (table_stream letters (objects tree.content) u.name) []) ≡ Some u.rows) P.tables t there sound.stores.rows in
        let never : None ≡ Some t.rows = sym none ∙ ap (rows_in letters tree) heading_is ∙ stored in
        cc

    -- an error of the reading is a fault, and the rows are the package's
    pub unread : {A : Type 0} (l : CaseTable) → l ≡ letters → (e : Error) → IsFaultOrInvalidInputIf ⊥ e ⊎ ((e ≡ InvalidData) × (rows_in l tree h ≡ None)) → IsFaultOrFull e ⊎ A
    unread l same e (inl fault) = inl (inl fault)
    unread l same e (inr none) = absurd (are_there (ap (λ l. rows_in l tree h) (sym same) ∙ none.1))

    pub stored_so : (l : CaseTable) → l ≡ letters → (rows : List Row) → rows_in l tree h ≡ Some rows → rows ≡ stored_rows P t.name
    stored_so l same rows read = rows_are rows (ap (λ l. rows_in l tree h) (sym same) ∙ read) ∙ sym (ap (λ (o : Option Table). unwrap_or (option_map (λ t. t.rows) o) []) there.found)

  -- one that is there isn't missing
  pub not_missing : {A : Type 0} (t : Table) → IsThere P.tables t → heading_named headings t.name ≡ None → A
  not_missing t there none = (let never : None ≡ Some t = sym (not_there t.name none) ∙ there.found in absurd (cc))

  -- the three
  pub columns_table : IsThere P.tables (holding columns_name columns_columns (of_columns letters tree P sound).rows)
  columns_table = (of_columns letters tree P sound).there

  pub tables_table : IsThere P.tables (holding tables_name tables_columns (of_tables letters tree P sound).rows)
  tables_table = (of_tables letters tree P sound).there

  pub validation_table : (w : Table) → table_named P.tables validation_name ≡ Some w → IsThere P.tables (holding validation_name w.columns w.rows)
  validation_table w found =
      let at = found_at P.tables validation_name w found in
      let same : w ≡ holding validation_name w.columns w.rows = ap (λ n. holding n w.columns w.rows) at.3 in
      is_there P.tables (holding validation_name w.columns w.rows) (found ∙ ap (λ (u : Table). Some u) same)

-- a fault, or what can't be
pub only_fault : (e : Error) → IsFaultOrFull e ⊎ ⊥ → IsFaultOrFull e
only_fault e (inl fault) = fault
only_fault e (inr never) = absurd never
