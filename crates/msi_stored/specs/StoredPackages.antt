-- The tables of a package in memory, whose rows lie in its file.
use Rattle.std.specs.Prelude.{◌≡◌, ◌⊎◌, ℕ, List, [], unwrap_or, option_map, Option, Some, None, Contains}
use Rattle.cfb.specs.Streams as file
use Rattle.cfb.specs.Views.{file_case_table, mini_of}
use Rattle.cfb.specs.Views as read
use Rattle.cfb.specs.declared.compound_file.CompoundFile.{CompoundFile}
use Rattle.cfb_fat.specs.Tables.{IsJustifiedBySectors}
use Rattle.cfb_medium.specs.Calls.{IsFaultOrInvalidInputIf}
use Rattle.cfb_medium.specs.declared.error.Error.{Error}
use Rattle.cfb_medium.specs.declared.error.Error.TheVariants.{InvalidData}
use Rattle.cfb_medium.specs.declared.medium.ReadMedium.{Ghosts}
use Rattle.cfb_mini.specs.Views.{allocator_of}
use Rattle.cfb_tree.specs.Names.{CaseTable}
use Rattle.cfb_tree.specs.Tree.{Tree}
use Rattle.msi_query.specs.Sources.{TablesByName}
use Rattle.msi_parts.specs.Judged.{heading_named}
use Rattle.msi_tables.specs.Rows.{Row, rows_of, kinds_of}
use Rattle.msi_tables.specs.Table.{Heading, Table}
use Rattle.msi_spec.specs.Package.{objects, table_stream}

-- the rows that the tree has for it: too many are none
abbrev pub rows_in : CaseTable → Tree → Heading → Option (List Row)
rows_in letters tree h = rows_of h.long (kinds_of h.columns) (unwrap_or (table_stream letters (objects tree.content) h.name) [])

-- these are the tables of the tree by their names; where a table has too many rows nothing is said of them
pub record AreTablesOfTree (letters : CaseTable) (tree : Tree) (headings : List Heading) (tables : TablesByName) : Type 0 where
  pub names : (name : List ℕ) → option_map (λ t. t.name) (tables name) ≡ option_map (λ h. h.name) (heading_named headings name)
  pub columns : (name : List ℕ) → option_map (λ t. t.columns) (tables name) ≡ option_map (λ h. h.columns) (heading_named headings name)
  pub rows : (name : List ℕ) (t : Table) (h : Heading) (rows : List Row) → tables name ≡ Some t → heading_named headings name ≡ Some h
      → rows_in letters tree h ≡ Some rows → t.rows ≡ rows

-- of a table the tree has too many rows
abbrev pub HasTooMany : CaseTable → Tree → List Heading → Type 0
HasTooMany letters tree headings = (h : Heading) × Contains headings h × (rows_in letters tree h ≡ None)

-- a file, and the tables of a package without their rows
abbrev pub StoredTables : (F : Type 0) → Ghosts F → Type 0
StoredTables F g = CompoundFile F g × List Heading

module _ {F : Type 0} {g : Ghosts F} where
  -- it was only read
  pub record OnlyReadsStore (old new : StoredTables F g) : Type 0 where
    pub file : read.OnlyReadsFile old.0 new.0
    pub tables : new.1 ≡ old.1

  -- its tables, with the rows of the tree that the file holds
  abbrev pub HasTables : StoredTables F g → TablesByName → Type 0
  HasTables it tables = (tree : Tree) × file.FileHoldsTree it.0 tree × AreTablesOfTree (file_case_table it.0) tree it.1 tables

  -- a table of each tree that the file holds has too many rows; a file in which the chain of a stream breaks holds none
  abbrev pub IsUnread : StoredTables F g → Error → Type 0
  IsUnread it e = (e ≡ InvalidData) × ((tree : Tree) → file.FileHoldsTree it.0 tree → HasTooMany (file_case_table it.0) tree it.1)

  -- a fault with its cause, or rows that can't be read
  pub record HasCause (old new : StoredTables F g) (e : Error) : Type 0 where
    pub below : IsJustifiedBySectors (allocator_of (mini_of old.0)) (allocator_of (mini_of new.0)) e
    pub either : IsFaultOrInvalidInputIf ⊥ e ⊎ IsUnread old e
