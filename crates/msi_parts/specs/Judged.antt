-- Soundness of a package, as it is judged part by part: by what memory has, by the objects of the root, and by the rows of one table
-- after the other.
use Rattle.std.specs.Prelude.{◌≡◌, ◌&&◌, ◌||◌, ℕ, Bool, true, not, if◌then◌else◌, List, ◌∷◌, map, Option, find, bytes_eq, All, IfSome, IsTrue}
use Rattle.std.specs.List.{list_all, list_any}
use Rattle.cfb_spec.specs.TreeRules.{Object, is_same_name}
use Rattle.cfb_spec.specs.TreeRules.{name_of as object_name}
use Rattle.cfb_tree.specs.Names.{CaseTable}
use Rattle.cfb_tree.specs.Tree.{Tree}
use Rattle.msi_spec.specs.Known.{HaveRows}
use Rattle.msi_spec.specs.Package.{data_name, is_stream, objects, pool_name, stream_name}
use Rattle.msi_spec.specs.Sound.{is_free_table_name}
use Rattle.msi_spec.specs.Uses.{RefcountsAreExact}
use Rattle.msi_parts.specs.Parts.{heading}
use Rattle.msi_pool.specs.Pool.{Pool}
use Rattle.msi_pool.specs.PoolKept.{AreFreeEmpty}
use Rattle.msi_props.specs.Held.{SetState}
use Rattle.msi_tables.specs.Rows.{Row, kinds_of}
use Rattle.msi_tables.specs.Schema.{begins_with, columns_name, tables_name, validation_columns, validation_name}
use Rattle.msi_tables.specs.Table.{Heading, Table, data_rows, row_data, table_named}
use Rattle.msi_texts.specs.StreamName.{is_marked}

-- the table of a name, without its rows
abbrev pub heading_named : List Heading → List ℕ → Option Heading
heading_named headings name = find (λ h. bytes_eq h.name name) headings

-- each name can be a table's, and is none of the pool's two
abbrev pub are_free_names : List Heading → Bool
are_free_names headings = list_all (λ h. is_free_table_name h.name) headings

-- the ten types of _Validation, and its two keys
pub record IsUsual (h : Heading) : Type 0 where
  pub kinds : kinds_of h.columns ≡ kinds_of validation_columns
  pub keys : map (λ c. c.key) h.columns ≡ map (λ c. c.key) validation_columns

-- the names of the streams that tables have, and of the pool's two
abbrev pub table_streams : List Heading → List (List ℕ)
table_streams headings = stream_name pool_name ∷ stream_name data_name ∷ map (λ h. stream_name h.name) headings

-- one of these names is the object's
abbrev pub is_under : CaseTable → List (List ℕ) → Object → Bool
is_under letters names o = list_any (λ name. is_same_name letters name (object_name o)) names

-- a stream that is named as a table's is one, and a storage stands at the name of none
abbrev pub is_in_place : CaseTable → List Heading → Object → Bool
is_in_place letters headings o =
    if is_stream o then not (is_marked (object_name o)) || is_under letters (table_streams headings) o
    else not (is_under letters (map (λ h. stream_name h.name) headings) o)

-- the rows name _Tables or _Columns
abbrev pub list_system : Pool → List Row → Bool
list_system pool rows = list_any (λ r. begins_with tables_name r || begins_with columns_name r) (map (row_data pool) rows)

-- no row of _Tables names that table or _Columns
abbrev pub IsUnlisted : Pool → List Table → Type 0
IsUnlisted pool ts = All (λ r. IsTrue (not (begins_with tables_name r) && not (begins_with columns_name r))) (data_rows pool (table_named ts tables_name))

-- the tables with their rows in the tree: their texts are counted
pub record AreSoundRows (letters : CaseTable) (tree : Tree) (pool : Pool) (headings : List Heading) : Type 0 where
  pub tables : List Table
  pub same : map (heading pool.long) tables ≡ headings
  pub rows : HaveRows letters tree pool tables
  pub counted : RefcountsAreExact pool tables
  pub unlisted : IsUnlisted pool tables

-- THE JUDGEMENT: every part is as a sound package has it
pub record IsJudged (letters : CaseTable) (tree : Tree) (summary : SetState) (pool : Pool) (gives_back : Bool) (headings : List Heading) : Type 0 where
  pub pool_whole : gives_back ≡ true
  pub summary_whole : summary.whole ≡ true
  pub one_section : summary.props.sections ≡ 1
  pub free : AreFreeEmpty pool.places
  pub names : are_free_names headings ≡ true
  pub usual : IfSome (heading_named headings validation_name) IsUsual
  pub in_place : All (λ o. IsTrue (is_in_place letters headings o)) (objects tree.content)
  pub rows : AreSoundRows letters tree pool headings
