-- Packages that say the same.
use Rattle.std.specs.Prelude.{◌≡◌, ℕ, All, List, Some, map}
use Rattle.std.specs.List.Sorted.{IsPermutation}
use Rattle.cfb_tree.specs.Names.{CaseTable}
use Rattle.msi_building.specs.Saying.{facts_of}
use Rattle.msi_spec.specs.Calls.{table_names}
use Rattle.msi_spec.specs.Package.{PackageContent}
use Rattle.msi_spec.specs.Streams.{stream_names, stream_read}
use Rattle.msi_tables.specs.Table.{Table, row_data, table_named}

-- A TABLE IS THE SAME IN BOTH: it stands there under this name, with the same columns, and with the same rows in some order
pub record TableAgrees (P Q : PackageContent) (name : List ℕ) : Type 0 where
  pub table : Table
  pub other : Table
  pub named : table_named P.tables name ≡ Some table
  pub other_named : table_named Q.tables name ≡ Some other
  pub columns : map facts_of other.columns ≡ map facts_of table.columns
  pub rows : IsPermutation (map (row_data Q.pool) other.rows) (map (row_data P.pool) table.rows)

-- THE SECOND PACKAGE SAYS WHAT THE FIRST DOES: its code page; its tables; the properties of its summary; its streams, with their bytes. Which places of
-- the pool its texts stand at isn't said.
pub record Agree (letters : CaseTable) (P : PackageContent) (others : CaseTable) (Q : PackageContent) : Type 0 where
  pub page : Q.pool.page ≡ P.pool.page
  pub names : table_names Q ≡ table_names P
  pub tables : All (TableAgrees P Q) (table_names P)
  pub properties : Q.summary.values ≡ P.summary.values
  pub streams : stream_names others Q ≡ stream_names letters P
  pub bytes : All (λ name. stream_read others Q name ≡ stream_read letters P name) (stream_names letters P)
