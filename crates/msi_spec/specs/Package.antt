-- A package: what the streams of a container stand for.
use Rattle.std.specs.Prelude.{◌≡◌, ◌==◌, if◌then◌else◌, ℕ, Bool, true, false, not, ◌&&◌, ◌||◌, List, [], ◌∷◌, map, filter, Option, Some, None, ◌↔◌, option_and_then, unwrap_or, Ok, bytes_eq, find, codes, All, Contains, IsTrue, chars}
use Rattle.std.specs.List.{list_any}
use Rattle.std.specs.List.Sorted.{IsStrictlySortedBy}
use Rattle.std.specs.Cmp.Lexicographic.{slice_cmp}
use Rattle.std.specs.Ordering.{nat_cmp}
use Rattle.std.specs.declared.cmp.Ordering.{Ordering}
use Rattle.msi_texts.specs.StreamName.{spelled_name}
use Rattle.msi_values.specs.Datum.{Datum}
use Rattle.msi_pool.specs.Pool.{Pool, Pooled}
use Rattle.msi_tables.specs.Rows.{Row, rows_of, kinds_of}
use Rattle.msi_tables.specs.Table.{Table, table_named, row_data, data_rows}
use Rattle.msi_tables.specs.Schema.{begins_with, columns_in, is_schema, tables_name, columns_name, validation_name, validation_columns}
use Rattle.msi_props.specs.Props.{Props, props_read}
use Rattle.msi_summary.specs.Summary.{summary_format}
use Rattle.cfb_tree.specs.Names.{CaseTable}
use Rattle.cfb_tree.specs.Tree.{Tree, Content, nothing, stream, storage}
use Rattle.cfb_spec.specs.Means.{BytesMeanTree}
use Rattle.cfb_spec.specs.TreeRules.{Object, a_stream, a_storage, is_same_name}
use Rattle.cfb_spec.specs.TreeRules.{name_of as object_name}
use Rattle.msi_spec.specs.declared.kind.PackageType.{PackageType}
use Rattle.msi_spec.specs.declared.kind.PackageType.TheVariants.{Installer, Patch, Transform}

-- ---- objects under the root

-- the objects that a storage holds, in their order
abbrev pub objects : Content → List Object
objects nothing = []
objects (stream name state_bits bytes later) = a_stream name state_bits bytes ∷ objects later
objects (storage name facts inside later) = a_storage name facts inside ∷ objects later

-- a stream and not a storage
abbrev pub is_stream : Object → Bool
is_stream (a_stream name state_bits bytes) = true
is_stream (a_storage name facts inside) = false

-- the bytes of a stream
abbrev pub object_bytes : Object → Option (List ℕ)
object_bytes (a_stream name state_bits bytes) = Some bytes
object_bytes (a_storage name facts inside) = None

-- ---- the package

-- What it is for; the pool; the tables by rising names; the summary; and the other streams of the root and its storages, by rising keys.
pub record PackageContent : Type 0 where
  pub kind : PackageType
  pub pool : Pool
  pub tables : List Table
  pub summary : Props
  pub streams : List Object
  pub storages : List Object

-- 000C10xx-0000-0000-C000-000000000046
abbrev pub class_with : ℕ → List ℕ
class_with n = 0 ∷ 0x0C ∷ 0x10 ∷ n ∷ 0 ∷ 0 ∷ 0 ∷ 0 ∷ 0xC0 ∷ 0 ∷ 0 ∷ 0 ∷ 0 ∷ 0 ∷ 0 ∷ 0x46 ∷ []

-- the root's identifier, as it is printed
abbrev pub class_of : PackageType → List ℕ
class_of Installer = class_with 0x84
class_of Patch = class_with 0x86
class_of Transform = class_with 0x82

-- names of tables go by their bytes
abbrev pub table_name_cmp : List ℕ → List ℕ → Ordering
table_name_cmp = slice_cmp nat_cmp

-- the summary's name, which stands unencoded
abbrev pub summary_name : List ℕ
summary_name = 5 ∷ codes "SummaryInformation"

-- the pool's two streams have names of tables
abbrev pub pool_name : List ℕ
pool_name = codes "_StringPool"

-- the second of them
abbrev pub data_name : List ℕ
data_name = codes "_StringData"

-- the characters that name a table's stream
abbrev pub stream_name : List ℕ → List ℕ
stream_name name = spelled_name true (chars name)

-- a slash, as a byte of the name
abbrev pub has_slash : List ℕ → Bool
has_slash name = list_any (λ b. b == 47) name

-- the rows of a table as values
abbrev pub rows_named : PackageContent → List ℕ → List (List Datum)
rows_named P name = data_rows P.pool (table_named P.tables name)

-- the tables are the two with fixed columns and those that _Tables names
abbrev pub is_table_name : PackageContent → List ℕ → Bool
is_table_name P name = bytes_eq name tables_name || bytes_eq name columns_name || list_any (begins_with name) (rows_named P tables_name)

module _ (letters : CaseTable) where
  -- what stands at a name
  abbrev pub at_name : List Object → List ℕ → Option Object
  at_name objects name = find (λ o. is_same_name letters name (object_name o)) objects

  -- the stream at a name; a storage there is none
  abbrev pub stream_at : List Object → List ℕ → Option (List ℕ)
  stream_at objects name = option_and_then object_bytes (at_name objects name)

  -- the stream of a table; a name with a slash has none, since a path of it leads elsewhere
  abbrev pub table_stream : List Object → List ℕ → Option (List ℕ)
  table_stream objects name = if has_slash name then None else stream_at objects (stream_name name)

  -- the streams of the database itself
  abbrev pub is_own : PackageContent → Object → Bool
  is_own P o = list_any (λ name. is_same_name letters name (object_name o))
      (summary_name ∷ stream_name pool_name ∷ stream_name data_name ∷ map (λ t. stream_name t.name) P.tables)

  -- The tree packs the package, under a case table by which names are told apart.
  pub record TreePacksPackage (tree : Tree) (P : PackageContent) : Type 0 where
    pub class : tree.root.clsid ≡ class_of P.kind
    pub pool_bytes : List ℕ
    pub data_bytes : List ℕ
    pub pool_at : table_stream (objects tree.content) pool_name ≡ Some pool_bytes
    pub data_at : table_stream (objects tree.content) data_name ≡ Some data_bytes
    pub pool : Pooled pool_bytes data_bytes P.pool
    pub rising : IsStrictlySortedBy table_name_cmp (map (λ t. t.name) P.tables)
    pub names : (name : List ℕ) → IsTrue (is_table_name P name) ↔ Contains (map (λ t. t.name) P.tables) name
    -- a table without a stream has no rows
    pub rows : All (λ t. rows_of P.pool.long (kinds_of t.columns) (unwrap_or (table_stream (objects tree.content) t.name) []) ≡ Some t.rows) P.tables
    -- _Validation is read by its ten columns, also where it isn't a table
    pub validation : List Row
    pub validation_is : rows_of P.pool.long (kinds_of validation_columns) (unwrap_or (table_stream (objects tree.content) validation_name) []) ≡ Some validation
    pub schema : IsTrue (is_schema (rows_named P tables_name) (rows_named P columns_name) (map (row_data P.pool) validation))
    pub columns : All (λ t. columns_in (rows_named P columns_name) (map (row_data P.pool) validation) t.name ≡ Some t.columns) P.tables
    pub summary_bytes : List ℕ
    pub summary_at : stream_at (objects tree.content) summary_name ≡ Some summary_bytes
    pub summary : props_read summary_bytes ≡ Ok P.summary
    pub summary_kind : P.summary.format ≡ summary_format
    -- the rest as it is in the tree
    pub streams : P.streams ≡ filter (λ o. is_stream o && not (is_own P o)) (objects tree.content)
    pub storages : P.storages ≡ filter (λ o. not (is_stream o)) (objects tree.content)

-- THE MEANING OF A PACKAGE'S FILE: the bytes mean a tree, and the tree packs the package
abbrev pub MeansPackage : CaseTable → List ℕ → PackageContent → Type 0
MeansPackage letters bytes P = (tree : Tree) × BytesMeanTree letters bytes tree × TreePacksPackage letters tree P
