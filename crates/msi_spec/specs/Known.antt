-- The tables that memory has after opening, and what is known of them: a package is packed where all their rows are read.
use Rattle.std.specs.Prelude.{◌≡◌, ◌||◌, ◌<◌, ◌↔◌, ℕ, Bool, true, List, map, Some, Ok, unwrap_or, bytes_eq, All, Contains, IsTrue, slice_index, filter, not, ◌&&◌, []}
use Rattle.std.specs.List.{list_any}
use Rattle.std.specs.List.Sorted.{IsStrictlySortedBy}
use Rattle.cfb_tree.specs.Names.{CaseTable}
use Rattle.cfb_tree.specs.Tree.{Tree}
use Rattle.msi_values.specs.Datum.{Datum}
use Rattle.msi_pool.specs.Pool.{Pool}
use Rattle.msi_pool.specs.PoolReading.{Begun, begun, pool_of}
use Rattle.msi_props.specs.Props.{Props}
use Rattle.msi_tables.specs.Rows.{Row, kinds_of, rows_of}
use Rattle.msi_tables.specs.Table.{Table, row_data}
use Rattle.msi_tables.specs.Schema.{begins_with, columns_columns, columns_in, is_schema, columns_name, tables_columns, tables_name, validation_columns, validation_name}
use Rattle.msi_spec.specs.Opening.{rows_by, summary_read}
use Rattle.msi_spec.specs.Package.{PackageContent, class_of, data_name, is_own, is_stream, objects, pool_name, stream_at, summary_name, table_name_cmp, table_stream}
use Rattle.msi_spec.specs.declared.kind.PackageType.{PackageType}

-- a name of a table: one of the two with fixed columns, or one that a row of _Tables begins with
abbrev pub is_named : List (List Datum) → List ℕ → Bool
is_named rows name = bytes_eq name tables_name || bytes_eq name columns_name || list_any (begins_with name) rows

module _ (letters : CaseTable) (tree : Tree) (pool : Pool) where
  -- the rows of the three system tables, as the tree has them
  pub record SystemTables (tables columns validation : List Row) : Type 0 where
    pub of_tables : rows_by letters (objects tree.content) pool tables_name tables_columns ≡ Ok tables
    pub of_columns : rows_by letters (objects tree.content) pool columns_name columns_columns ≡ Ok columns
    pub of_validation : rows_by letters (objects tree.content) pool validation_name validation_columns ≡ Ok validation

  -- names and columns are those that the system tables tell: this memory has after each opening
  pub record HaveColumns (tables columns validation : List Row) (ts : List Table) : Type 0 where
    pub rising : IsStrictlySortedBy table_name_cmp (map (λ t. t.name) ts)
    pub names : (name : List ℕ) → IsTrue (is_named (map (row_data pool) tables) name) ↔ Contains (map (λ t. t.name) ts) name
    pub known : All (λ t. columns_in (map (row_data pool) columns) (map (row_data pool) validation) t.name ≡ Some t.columns) ts

  -- the rows are those of the streams
  abbrev pub HaveRows : List Table → Type 0
  HaveRows ts = All (λ t. rows_of pool.long (kinds_of t.columns) (unwrap_or (table_stream letters (objects tree.content) t.name) []) ≡ Some t.rows) ts

-- the package of these parts, with the other streams and the storages of the tree
abbrev pub package_with : CaseTable → Tree → PackageType → Props → Pool → List Table → PackageContent
package_with letters tree kind summary pool ts =
    let bare : PackageContent = record { kind = kind; pool = pool; tables = ts; summary = summary; streams = []; storages = [] } in
    record bare {
      streams = filter (λ o. is_stream o && not (is_own letters bare o)) (objects tree.content);
      storages = filter (λ o. not (is_stream o)) (objects tree.content);
    }

-- The parts of what opening finds in a tree: the streams of summary and pool with what is read of them, and the rows of the system tables.
pub record Parts (letters : CaseTable) (tree : Tree) (kind : PackageType) (summary : Props) (pool : Pool) : Type 0 where
  pub class : tree.root.clsid ≡ class_of kind
  pub summary_bytes : List ℕ
  pub summary_at : stream_at letters (objects tree.content) summary_name ≡ Some summary_bytes
  pub summary_is : summary_read summary_bytes ≡ Ok summary
  pub pool_bytes : List ℕ
  pub data_bytes : List ℕ
  pub pool_at : table_stream letters (objects tree.content) pool_name ≡ Some pool_bytes
  pub data_at : table_stream letters (objects tree.content) data_name ≡ Some data_bytes
  -- a tree alone doesn't tell that these are bytes
  pub small : (i : ℕ) → slice_index pool_bytes i < 256
  pub builder : Begun
  pub begins : begun pool_bytes ≡ Ok builder
  pub built : pool_of builder data_bytes ≡ Ok pool
  pub tables : List Row
  pub columns : List Row
  pub validation : List Row
  pub system : SystemTables letters tree pool tables columns validation
  pub schema : is_schema (map (row_data pool) tables) (map (row_data pool) columns) (map (row_data pool) validation) ≡ true
