-- The parts of a package, read from its file one by one.
use Rattle.std.specs.Prelude.{◌≡◌, ◌<◌, ℕ, Bool, true, List, map, Some, Ok, Result, slice_index, IsTrue}
use Rattle.cfb_medium.specs.declared.error.Error.{Error}
use Rattle.cfb_medium.specs.declared.error.Error.TheVariants.{InvalidData, NotFound}
use Rattle.cfb_tree.specs.Names.{CaseTable}
use Rattle.cfb_tree.specs.Tree.{Tree}
use Rattle.msi_spec.specs.Known.{Parts, SystemTables}
use Rattle.msi_spec.specs.Opening.{rows_by, summary_read}
use Rattle.msi_spec.specs.declared.kind.PackageType.{PackageType}
use Rattle.msi_spec.specs.Sound.{IsSoundPackage}
use Rattle.msi_spec.specs.Package.{PackageContent, TreePacksPackage, data_name, objects, pool_name, stream_at, summary_name, table_stream}
use Rattle.msi_pool.specs.Pool.{Pool}
use Rattle.msi_pool.specs.PoolReading.{Begun, begun, pool_of, texts_give_back as pool_texts_give_back}
use Rattle.msi_props.specs.Held.{SetState}
use Rattle.msi_props.specs.Props.{Props, texts_give_back}
use Rattle.msi_schema.specs.Headings.{AreTold}
use Rattle.msi_tables.specs.Rows.{Row}
use Rattle.msi_tables.specs.Schema.{columns_columns, columns_name, is_schema, tables_columns, tables_name, validation_columns, validation_name}
use Rattle.msi_tables.specs.Table.{Heading, row_data, Table}
use Rattle.msi_texts.specs.Results.{◌>>=◌, or_refused, unless_not}

module _ (letters : CaseTable) (tree : Tree) where
  -- the summary of the tree, or its refusal
  abbrev pub summary_in : Result Props Error
  summary_in = or_refused (stream_at letters (objects tree.content) summary_name) NotFound >>= summary_read

  -- what the first of the pool's streams tells
  abbrev pub builder_in : Result Begun Error
  builder_in = or_refused (table_stream letters (objects tree.content) pool_name) NotFound >>= begun

  -- the pool that the second builds
  abbrev pub built_in : Begun → Result Pool Error
  built_in builder = or_refused (table_stream letters (objects tree.content) data_name) NotFound >>= pool_of builder

  -- the summary was read from its stream, and it was judged whether its texts give back their bytes
  pub record IsSummary (summary : SetState) : Type 0 where
    pub bytes : List ℕ
    pub at : stream_at letters (objects tree.content) summary_name ≡ Some bytes
    pub read : summary_read bytes ≡ Ok summary.props
    pub whole : summary.whole ≡ texts_give_back bytes

  -- so was the first of the pool's streams
  pub record IsBegun (builder : Begun) : Type 0 where
    pub bytes : List ℕ
    pub at : table_stream letters (objects tree.content) pool_name ≡ Some bytes
    pub small : (i : ℕ) → slice_index bytes i < 256
    pub begins : begun bytes ≡ Ok builder

  -- and the second, with a judgement of the texts
  pub record IsBuilt (builder : Begun) (pool : Pool) (gives_back : Bool) : Type 0 where
    pub bytes : List ℕ
    pub at : table_stream letters (objects tree.content) data_name ≡ Some bytes
    pub built : pool_of builder bytes ≡ Ok pool
    pub back : pool_texts_give_back builder bytes ≡ Ok gives_back

  -- the rows of the system tables describe tables, or are refused
  abbrev pub schema_in : Pool → Result (Unit {0}) Error
  schema_in pool =
      rows_by letters (objects tree.content) pool tables_name tables_columns >>= λ tables.
      rows_by letters (objects tree.content) pool columns_name columns_columns >>= λ columns.
      rows_by letters (objects tree.content) pool validation_name validation_columns >>= λ validation.
      unless_not (is_schema (map (row_data pool) tables) (map (row_data pool) columns) (map (row_data pool) validation)) InvalidData

-- a table without its rows, where references are so wide
abbrev pub heading : Bool → Table → Heading
heading long t = record { name = t.name; columns = t.columns; long = long }

module _ (letters : CaseTable) (tree : Tree) where
  -- the rows of the system tables describe just these
  pub record HasSchema (pool : Pool) (headings : List Heading) : Type 0 where
    pub tables : List Row
    pub columns : List Row
    pub validation : List Row
    pub system : SystemTables letters tree pool tables columns validation
    pub schema : is_schema (map (row_data pool) tables) (map (row_data pool) columns) (map (row_data pool) validation) ≡ true
    pub described : AreTold (map (row_data pool) tables) (map (row_data pool) columns) (map (row_data pool) validation) pool.long headings

  -- THE PARTS OF A PACKAGE: what opening finds in the tree, with judgements of its texts
  pub record AreParts (kind : PackageType) (summary : SetState) (pool : Pool) (gives_back : Bool) (headings : List Heading) : Type 0 where
    pub parts : Parts letters tree kind summary.props pool
    pub whole : summary.whole ≡ texts_give_back parts.summary_bytes
    pub back : pool_texts_give_back parts.builder parts.data_bytes ≡ Ok gives_back
    pub described : AreTold (map (row_data pool) parts.tables) (map (row_data pool) parts.columns) (map (row_data pool) parts.validation) pool.long headings

  -- a sound package lies in the tree of a file that was judged so
  abbrev pub IsSoundIn : Bool → Type 0
  IsSoundIn file_is_sound = IsTrue file_is_sound × (P : PackageContent) × (packs : TreePacksPackage letters tree P) × IsSoundPackage letters tree P packs

-- what memory has is the package's: its tables are told without their rows
pub record MemoryIsPackage (told_kind : PackageType) (props : Props) (held : Pool) (headings : List Heading) (P : PackageContent) : Type 0 where
  pub kind : told_kind ≡ P.kind
  pub summary : props ≡ P.summary
  pub pool : held ≡ P.pool
  pub tables : headings ≡ map (heading held.long) P.tables
