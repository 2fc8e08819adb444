-- Rows that are read table by table: those of _Tables, and the uses that the cells of all make.
use Rattle.std.specs.Prelude.{◌≡◌, ℕ, Bool, true, false, List, [], map, Option, Some, None, All, IsSome, unwrap_or}
use Rattle.cfb_tree.specs.Names.{CaseTable}
use Rattle.cfb_tree.specs.Tree.{Tree}
use Rattle.msi_changes.specs.Laws.{uses_in}
use Rattle.msi_spec.specs.Uses.{RefcountsAreExact, TakesUses}
use Rattle.msi_parts.specs.Judged.{list_system}
use Rattle.msi_pool.specs.Pool.{Pool}
use Rattle.msi_stored.specs.StoredPackages.{rows_in}
use Rattle.msi_tables.specs.Rows.{Row}
use Rattle.msi_tables.specs.Table.{Heading, Table}

module _ (letters : CaseTable) (tree : Tree) where
  -- the tree's rows for a table; none where they can't be read
  abbrev pub rows_at : Heading → List Row
  rows_at h = unwrap_or (rows_in letters tree h) []

  -- the table with these rows
  abbrev pub table_at : Heading → Table
  table_at h = record { name = h.name; columns = h.columns; rows = rows_at h }

  -- the rows can be read: they aren't too many
  abbrev pub TableIsRead : Heading → Type 0
  TableIsRead h = IsSome (rows_in letters tree h)

  -- the rows of _Tables, where there is such a table, can be read and list no system table
  abbrev pub IsUnlistedAt : Pool → Option Heading → Type 0
  IsUnlistedAt pool None = Unit {0}
  IsUnlistedAt pool (Some h) = TableIsRead h × (list_system pool (rows_at h) ≡ false)

  -- the rows of all tables can be read, and the pool counts their texts
  abbrev pub AreCountedAt : Pool → List Heading → Type 0
  AreCountedAt pool hs = All TableIsRead hs × RefcountsAreExact pool (map table_at hs)

  -- The uses that the rows of a table make were taken: at a yes they were read, and at a no, where they can be read, some place
  -- had too few.
  pub record RefcountsTaken (h : Heading) (old new : List ℕ) (result : Bool) : Type 0 where
    pub read : result ≡ true → TableIsRead h
    pub uses : TableIsRead h → TakesUses (uses_in (rows_at h)) old new result
