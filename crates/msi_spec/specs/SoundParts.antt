-- Soundness in parts: what is said of the package alone, and what of the bytes that it was read from.
use Rattle.std.specs.Prelude.{◌≡◌, ℕ, not, ◌&&◌, List, map, None, Some, Ok, IfSome, true, All, IsTrue}
use Rattle.msi_texts.specs.StreamName.{is_marked}
use Rattle.msi_pool.specs.PoolKept.{AreFreeEmpty}
use Rattle.msi_pool.specs.PoolReading.{Begun, begun}
use Rattle.msi_pool.specs.PoolReading.{texts_give_back as pool_texts_give_back}
use Rattle.msi_tables.specs.Rows.{kinds_of}
use Rattle.msi_tables.specs.Table.{table_named}
use Rattle.msi_tables.specs.Schema.{begins_with, tables_name, columns_name, validation_name, validation_columns}
use Rattle.msi_props.specs.Props.{texts_give_back}
use Rattle.cfb_tree.specs.Names.{CaseTable}
use Rattle.cfb_tree.specs.Tree.{Tree}
use Rattle.cfb_spec.specs.TreeRules.{name_of as object_name}
use Rattle.msi_spec.specs.Package.{PackageContent, at_name, objects, stream_at, table_stream, stream_name, summary_name, pool_name, data_name, rows_named}
use Rattle.msi_spec.specs.Sound.{is_free_table_name}
use Rattle.msi_spec.specs.Uses.{RefcountsAreExact}

-- its names, its system tables and its summary: each stream that is named as a table's is one, and so on
pub record HasSoundNames (letters : CaseTable) (P : PackageContent) : Type 0 where
  pub one_section : P.summary.sections ≡ 1
  pub no_strays : All (λ o. IsTrue (not (is_marked (object_name o)))) P.streams
  pub table_names : All (λ t. IsTrue (is_free_table_name t.name)) P.tables
  pub no_storage : All (λ t. at_name letters P.storages (stream_name t.name) ≡ None) P.tables
  pub not_listed : All (λ r. IsTrue (not (begins_with tables_name r) && not (begins_with columns_name r))) (rows_named P tables_name)
  pub validation_kinds : IfSome (table_named P.tables validation_name) (λ t. kinds_of t.columns ≡ kinds_of validation_columns)
  pub validation_keys : IfSome (table_named P.tables validation_name) (λ t. map (λ c. c.key) t.columns ≡ map (λ c. c.key) validation_columns)

-- the texts in the streams of pool and summary give back their bytes
pub record GivesBack (letters : CaseTable) (tree : Tree) : Type 0 where
  pub pool : (pool_bytes data_bytes : List ℕ) (builder : Begun) → table_stream letters (objects tree.content) pool_name ≡ Some pool_bytes
      → table_stream letters (objects tree.content) data_name ≡ Some data_bytes → begun pool_bytes ≡ Ok builder → pool_texts_give_back builder data_bytes ≡ Ok true
  pub summary : (bytes : List ℕ) → stream_at letters (objects tree.content) summary_name ≡ Some bytes → IsTrue (texts_give_back bytes)

-- THE PARTS OF SOUNDNESS, whichever way the tree packs the package
pub record HasSoundParts (letters : CaseTable) (tree : Tree) (P : PackageContent) : Type 0 where
  pub counted : RefcountsAreExact P.pool P.tables
  pub free : AreFreeEmpty P.pool.places
  pub named : HasSoundNames letters P
  pub gives_back : GivesBack letters tree
