-- What a package says that is built of values.
use Rattle.std.specs.Prelude.{◌≡◌, ℕ, Bool, List, ◌∷◌, map, Ok, Some, All, string_bytes}
use Rattle.std.specs.List.Sorted.{IsPermutation}
use Rattle.cfb_tree.specs.Names.{CaseTable}
use Rattle.msi_columns.specs.Column.{Column}
use Rattle.msi_columns.specs.Held.{columns_of}
use Rattle.msi_columns.specs.declared.column.ColumnType.{ColumnType}
use Rattle.msi_props.specs.Held.{pair_in}
use Rattle.msi_spec.specs.Calls.{table_names}
use Rattle.msi_spec.specs.Package.{PackageContent}
use Rattle.msi_spec.specs.Streams.{stream_names, stream_read}
use Rattle.msi_tables.specs.Schema.{tables_name, columns_name}
use Rattle.msi_tables.specs.Table.{Table, row_data, table_named}
use Rattle.msi_values.specs.Datum.{data_of}
use Rattle.msi_building.specs.declared.said.Said.{Said}
use Rattle.msi_building.specs.declared.said.SaidStream.{SaidStream}
use Rattle.msi_building.specs.declared.said.SaidTable.{SaidTable}

-- what _Columns says of a column
pub record ColumnFacts : Type 0 where
  pub name : List ℕ
  pub kind : ColumnType
  pub localizable : Bool
  pub nullable : Bool
  pub key : Bool

abbrev pub facts_of : Column → ColumnFacts
facts_of c = record { name = c.name; kind = c.kind; localizable = c.localizable; nullable = c.nullable; key = c.key }

-- the names of tables, and of streams
abbrev pub said_tables : List SaidTable → List (List ℕ)
said_tables tables = map (λ t. string_bytes t.name) tables

abbrev pub said_streams : List SaidStream → List (List ℕ)
said_streams streams = map (λ s. string_bytes s.name) streams

-- A TABLE IS SAID: it stands under its name, with these columns, and with these rows in some order
pub record SaysTable (P : PackageContent) (said : SaidTable) : Type 0 where
  pub table : Table
  pub named : table_named P.tables (string_bytes said.name) ≡ Some table
  pub columns : map facts_of table.columns ≡ map facts_of (columns_of said.columns.items)
  pub rows : IsPermutation (map (row_data P.pool) table.rows) (map (λ row. data_of row.items) said.rows.items)

-- THE PACKAGE SAYS JUST THIS: its code page; the tables that are named, and besides them the two that tell of tables; the properties of its summary; the
-- streams that are named, with their bytes
pub record SaysPackage (letters : CaseTable) (P : PackageContent) (said : Said) : Type 0 where
  pub page : P.pool.page ≡ said.codepage
  pub names : IsPermutation (table_names P) (tables_name ∷ columns_name ∷ said_tables said.tables.items)
  pub tables : All (SaysTable P) said.tables.items
  pub properties : P.summary.values ≡ map pair_in said.properties.items
  pub streams : IsPermutation (stream_names letters P) (said_streams said.streams.items)
  pub bytes : All (λ s. stream_read letters P (string_bytes s.name) ≡ Ok s.bytes.items) said.streams.items
