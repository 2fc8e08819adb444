-- What of a package lies in the streams of tables, and what in the pool's and the summary's.
use Rattle.std.specs.Prelude.{◌≡◌, ◌&&◌, ◌↔◌, not, ℕ, List, map, filter, unwrap_or, Some, Ok, [], All, Contains, IsTrue}
use Rattle.std.specs.List.Sorted.{IsStrictlySortedBy}
use Rattle.cfb_tree.specs.Names.{CaseTable}
use Rattle.cfb_tree.specs.Tree.{Tree}
use Rattle.msi_pool.specs.Pool.{Pool, Pooled}
use Rattle.msi_props.specs.Props.{Props, props_read}
use Rattle.msi_summary.specs.Summary.{summary_format}
use Rattle.msi_tables.specs.Rows.{Row, rows_of, kinds_of}
use Rattle.msi_tables.specs.Table.{row_data}
use Rattle.msi_tables.specs.Schema.{columns_in, is_schema, tables_name, columns_name, validation_name, validation_columns}
use Rattle.msi_spec.specs.Package.{PackageContent, objects, is_stream, is_own, is_table_name, rows_named, stream_at, table_stream, table_name_cmp, class_of, summary_name, pool_name, data_name}

module _ (letters : CaseTable) (tree : Tree) where
  -- the pool's two streams hold the pool
  pub record HasPool (pool : Pool) : Type 0 where
    pub pool_bytes : List ℕ
    pub data_bytes : List ℕ
    pub pool_at : table_stream letters (objects tree.content) pool_name ≡ Some pool_bytes
    pub data_at : table_stream letters (objects tree.content) data_name ≡ Some data_bytes
    pub pooled : Pooled pool_bytes data_bytes pool

  -- the summary's stream holds the summary
  pub record HasSummary (summary : Props) : Type 0 where
    pub summary_bytes : List ℕ
    pub summary_at : stream_at letters (objects tree.content) summary_name ≡ Some summary_bytes
    pub read : props_read summary_bytes ≡ Ok summary
    pub of_kind : summary.format ≡ summary_format

  -- all else of the package lies in the tree
  pub record TreeStoresRest (P : PackageContent) : Type 0 where
    pub class : tree.root.clsid ≡ class_of P.kind
    pub rising : IsStrictlySortedBy table_name_cmp (map (λ t. t.name) P.tables)
    pub names : (name : List ℕ) → IsTrue (is_table_name P name) ↔ Contains (map (λ t. t.name) P.tables) name
    pub rows : All (λ t. rows_of P.pool.long (kinds_of t.columns) (unwrap_or (table_stream letters (objects tree.content) t.name) []) ≡ Some t.rows) P.tables
    pub validation : List Row
    pub validation_is : rows_of P.pool.long (kinds_of validation_columns) (unwrap_or (table_stream letters (objects tree.content) validation_name) []) ≡ Some validation
    pub schema : IsTrue (is_schema (rows_named P tables_name) (rows_named P columns_name) (map (row_data P.pool) validation))
    pub columns : All (λ t. columns_in (rows_named P columns_name) (map (row_data P.pool) validation) t.name ≡ Some t.columns) P.tables
    pub streams : P.streams ≡ filter (λ o. is_stream o && not (is_own letters P o)) (objects tree.content)
    pub storages : P.storages ≡ filter (λ o. not (is_stream o)) (objects tree.content)
