-- Which packages are sound, beside the soundness of their containers: those that may be changed.
use Rattle.std.specs.Prelude.{◌≡◌, ℕ, ◌<◌, ◌≤◌, Bool, true, not, ◌&&◌, List, [], map, length, None, IfSome, bytes_eq, sum_by, All, IsTrue, chars}
use Rattle.msi_texts.specs.StreamName.{is_valid_name, is_marked}
use Rattle.msi_texts.specs.Category.{is_identifier}
use Rattle.msi_texts.specs.Page.{encoded, decoded}
use Rattle.msi_pool.specs.Pool.{Pool, pool_entry_at}
use Rattle.msi_pool.specs.declared.stringref.ValueRef.{ValueRef}
use Rattle.msi_pool.specs.declared.stringref.ValueRef.TheVariants as cell
use Rattle.msi_tables.specs.Rows.{kinds_of}
use Rattle.msi_tables.specs.Table.{Table, table_named}
use Rattle.msi_tables.specs.Schema.{begins_with, tables_name, columns_name, validation_name, validation_columns}
use Rattle.msi_changes.specs.Laws.{uses_in}
use Rattle.msi_props.specs.Props.{texts_give_back}
use Rattle.cfb_tree.specs.Names.{CaseTable}
use Rattle.cfb_tree.specs.Tree.{Tree}
use Rattle.cfb_spec.specs.TreeRules.{name_of as object_name}
use Rattle.msi_spec.specs.Package.{PackageContent, TreePacksPackage, at_name, stream_name, pool_name, data_name, rows_named}

-- how many cells of all tables name the place
abbrev pub refcounts_of : List Table → ℕ → ℕ
refcounts_of ts n = sum_by (λ t. uses_in t.rows n) ts

-- the place that a cell names has a use
abbrev pub IsPlaceUsed : Pool → ValueRef → Type 0
IsPlaceUsed pool (cell.Str n) = 0 < (pool_entry_at pool.places n).count
IsPlaceUsed pool cell.Null = Unit {0}
IsPlaceUsed pool (cell.Int z) = Unit {0}
IsPlaceUsed pool cell.Binary = Unit {0}

-- the name can be a table's, and isn't one of the pool's streams
abbrev pub is_free_table_name : List ℕ → Bool
is_free_table_name name = is_identifier name && is_valid_name true (chars name) && not (bytes_eq name pool_name) && not (bytes_eq name data_name)

-- The package that a tree packs is sound, beside the container.
pub record IsSoundPackage (letters : CaseTable) (tree : Tree) (P : PackageContent) (packs : TreePacksPackage letters tree P) : Type 0 where
  -- texts and their counts
  pub references : All (λ t. All (All (IsPlaceUsed P.pool)) t.rows) P.tables
  pub counts : (n : ℕ) → 0 < n → n ≤ length P.pool.places → (pool_entry_at P.pool.places n).count ≡ refcounts_of P.tables n
  pub free : All (λ p. p.count ≡ 0 → p.text ≡ []) P.pool.places
  pub texts : All (λ s. encoded P.pool.page (decoded P.pool.page s.0) ≡ s.0) packs.pool.stored
  -- the summary
  pub summary_texts : IsTrue (texts_give_back packs.summary_bytes)
  pub one_section : P.summary.sections ≡ 1
  -- each stream that is named as a table's is one
  pub no_strays : All (λ o. IsTrue (not (is_marked (object_name o)))) P.streams
  pub table_names : All (λ t. IsTrue (is_free_table_name t.name)) P.tables
  pub no_storage : All (λ t. at_name letters P.storages (stream_name t.name) ≡ None) P.tables
  -- the system tables
  pub not_listed : All (λ r. IsTrue (not (begins_with tables_name r) && not (begins_with columns_name r))) (rows_named P tables_name)
  pub validation_kinds : IfSome (table_named P.tables validation_name) (λ t. kinds_of t.columns ≡ kinds_of validation_columns)
  pub validation_keys : IfSome (table_named P.tables validation_name) (λ t. map (λ c. c.key) t.columns ≡ map (λ c. c.key) validation_columns)
