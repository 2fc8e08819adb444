-- Which containers are opened as packages, and why others are refused.
use Rattle.std.specs.Prelude.{ℕ, Bool, not, ◌&&◌, List, [], map, unwrap_or, Result, Ok, Err, bytes_eq, if◌then◌else◌}
use Rattle.std.specs.List.{list_all}
use Rattle.msi_texts.specs.Results.{◌>>=◌, unless_not, or_refused}
use Rattle.msi_texts.specs.StreamName.{is_between}
use Rattle.msi_pool.specs.Pool.{Pool}
use Rattle.msi_pool.specs.PoolReading.{begun, pool_of}
use Rattle.msi_columns.specs.Column.{Column}
use Rattle.msi_tables.specs.Rows.{Row, rows_of, kinds_of}
use Rattle.msi_tables.specs.Table.{row_data}
use Rattle.msi_tables.specs.Schema.{is_schema, tables_name, columns_name, validation_name, tables_columns, columns_columns, validation_columns}
use Rattle.msi_props.specs.Props.{Props}
pub use Rattle.msi_summary.specs.Summary.{summary_read}
use Rattle.cfb_tree.specs.Names.{CaseTable}
use Rattle.cfb_tree.specs.Tree.{Tree}
use Rattle.cfb_spec.specs.TreeRules.{Object}
use Rattle.msi_spec.specs.Package.{objects, stream_at, table_stream, summary_name, pool_name, data_name, class_of}
use Rattle.msi_spec.specs.declared.kind.PackageType.{PackageType}
use Rattle.msi_spec.specs.declared.kind.PackageType.TheVariants.{Installer, Patch, Transform}
use Rattle.cfb_medium.specs.declared.error.Error.{Error}
use Rattle.cfb_medium.specs.declared.error.Error.TheVariants.{InvalidData, InvalidInput, NotFound}

-- a character of encoded names
abbrev pub is_encoded : ℕ → Bool
is_encoded c = is_between 0x3800 0x4840 c

-- the case table leaves encoded names alone
abbrev pub keeps_encoded_names : CaseTable → Bool
keeps_encoded_names letters = list_all (λ pair. not (is_encoded pair.0) && not (is_encoded pair.1)) letters

-- what a package is for, by its root's identifier
abbrev pub kind_of : List ℕ → Result PackageType Error
kind_of clsid = if bytes_eq clsid (class_of Installer) then Ok Installer
    else (if bytes_eq clsid (class_of Patch) then Ok Patch
    else (if bytes_eq clsid (class_of Transform) then Ok Transform else Err InvalidData))

module _ (letters : CaseTable) where
  -- the rows of a table by these columns; too many are refused
  abbrev pub rows_by : List Object → Pool → List ℕ → List Column → Result (List Row) Error
  rows_by objects pool name columns = or_refused (rows_of pool.long (kinds_of columns) (unwrap_or (table_stream letters objects name) [])) InvalidData

  -- what an opening finds, one part after the other: the kind, the summary and the pool, and then the rows that describe tables; or the first refusal
  abbrev pub opened : Tree → Result (PackageType × (Props × Pool)) Error
  opened tree =
      unless_not (keeps_encoded_names letters) InvalidInput >>= λ _.
      kind_of tree.root.clsid >>= λ kind.
      or_refused (stream_at letters (objects tree.content) summary_name) NotFound >>= summary_read >>= λ summary.
      or_refused (table_stream letters (objects tree.content) pool_name) NotFound >>= begun >>= λ start.
      or_refused (table_stream letters (objects tree.content) data_name) NotFound >>= pool_of start >>= λ pool.
      rows_by (objects tree.content) pool tables_name tables_columns >>= λ tables.
      rows_by (objects tree.content) pool columns_name columns_columns >>= λ columns.
      rows_by (objects tree.content) pool validation_name validation_columns >>= λ validation.
      unless_not (is_schema (map (row_data pool) tables) (map (row_data pool) columns) (map (row_data pool) validation)) InvalidData >>= λ _.
      Ok (kind, (summary, pool))
