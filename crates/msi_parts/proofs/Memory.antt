-- What opening finds is what the package of the tree has.
use Rattle.std.proofs.Common.{◌≡◌, ◌∙◌, ℕ, Bool, List, [], ◌∷◌, map, refl, sym, ap, arith, Some, None, get_or}
use Rattle.std.specs.Prelude.{◌||◌, Option, bytes_eq, option_map, All}
use Rattle.std.specs.List.{list_any}
use Rattle.std.proofs.lemmas.Cmp.{nat_list_cmp_total}
use Rattle.std.proofs.lemmas.List.Elements.{All-tail}
use Rattle.cfb_tree.specs.Names.{CaseTable}
use Rattle.cfb_tree.specs.Tree.{Tree}
use Rattle.msi_columns.specs.Column.{Column}
use Rattle.msi_pool.specs.Pool.{Pool}
use Rattle.msi_pool.specs.PoolReading.{begun, pool_of}
use Rattle.msi_props.specs.Held.{SetState}
use Rattle.msi_tables.specs.Rows.{Row}
use Rattle.msi_tables.specs.Table.{Heading, Table, row_data}
use Rattle.msi_tables.specs.Schema.{begins_with, columns_columns, columns_in, columns_name, tables_columns, tables_name, validation_columns, validation_name}
use Rattle.msi_values.specs.Datum.{Datum}
use Rattle.msi_spec.specs.Known.{is_named}
use Rattle.msi_spec.specs.Opening.{kind_of, summary_read}
use Rattle.msi_spec.specs.Package.{PackageContent, TreePacksPackage, is_table_name, rows_named, table_name_cmp}
use Rattle.cfb_medium.specs.declared.error.Error.TheVariants.{InvalidData}
use Rattle.msi_spec.specs.declared.kind.PackageType.{PackageType}
use Rattle.msi_spec.proofs.OpenedIs.{builder_finds, kind_back, summary_back}
use Rattle.msi_spec.proofs.PackedFrom.{found, some_rows}
use Rattle.msi_spec.proofs.PacksOnce.{ok_same, some_same}
use Rattle.msi_spec.proofs.SameNames.{same_lists}
use Rattle.msi_spec.proofs.SystemRows.{columns_rows, rows_at, tables_rows}
use Rattle.msi_parts.specs.Parts.{AreParts, MemoryIsPackage, heading}

-- those that are there
abbrev present : List (Option Heading) → List Heading
present [] = []
present (None ∷ os) = present os
present (Some h ∷ os) = h ∷ present os

-- headings that their names tell, and tables
told : (F : List ℕ → Option Heading) (hs : List Heading) → All (λ h. F h.name ≡ Some h) hs → present (map F (map (λ h. h.name) hs)) ≡ hs
told F [] all = refl
told F (h ∷ hs) all =
    let here : F h.name ≡ Some h = all 0 h (omega arith) in
    ap (λ o. present (o ∷ map F (map (λ u. u.name) hs))) here ∙ ap (λ us. h ∷ us) (told F hs (All-tail (λ u. F u.name ≡ Some u) h hs all))

told_of_tables : (long : Bool) (F : List ℕ → Option Heading) (ts : List Table) → All (λ t. F t.name ≡ Some (heading long t)) ts → present (map F (map (λ t. t.name) ts)) ≡ map (heading long) ts
told_of_tables long F [] all = refl
told_of_tables long F (t ∷ ts) all =
    let here : F t.name ≡ Some (heading long t) = all 0 t (omega arith) in
    ap (λ o. present (o ∷ map F (map (λ u. u.name) ts))) here ∙ ap (λ us. heading long t ∷ us) (told_of_tables long F ts (All-tail (λ u. F u.name ≡ Some (heading long u)) t ts all))

module _ (letters : CaseTable) (tree : Tree) (kind : PackageType) (summary : SetState) (pool : Pool) (gives_back : Bool) (headings : List Heading)
    (a : AreParts letters tree kind summary pool gives_back headings) (P : PackageContent) (p : TreePacksPackage letters tree P) where
  pools : pool ≡ P.pool
  pools =
      let f = builder_finds p.pool_bytes p.data_bytes P.pool p.pool in
      let builders : a.parts.builder ≡ f.0 =
      ok_same a.parts.builder f.0 (sym a.parts.begins ∙ ap begun (some_same a.parts.pool_bytes p.pool_bytes (sym a.parts.pool_at ∙ p.pool_at)) ∙ f.1) in
      ok_same pool P.pool (sym a.parts.built ∙ ap (pool_of a.parts.builder) (some_same a.parts.data_bytes p.data_bytes (sym a.parts.data_at ∙ p.data_at))
      ∙ ap (λ b. pool_of b p.data_bytes) builders ∙ f.2)

  -- rows that were read by fixed columns are the package's
  rows_same : (name : List ℕ) (columns : List Column) (r s : List Row) → rows_at letters tree pool name columns ≡ Some r → rows_at letters tree P.pool name columns ≡ Some s
      → map (row_data pool) r ≡ map (row_data P.pool) s
  rows_same name columns r s one other =
      let rows : r ≡ s = some_rows r s (sym one ∙ ap (λ q. rows_at letters tree q name columns) pools ∙ other) in
      ap (λ q. map (row_data q) r) pools ∙ ap (map (row_data P.pool)) rows

  tables_same : map (row_data pool) a.parts.tables ≡ rows_named P tables_name
  tables_same =
      let b = tables_rows letters tree P p in
      rows_same tables_name tables_columns a.parts.tables b.0 (found (rows_at letters tree pool tables_name tables_columns) InvalidData a.parts.tables a.parts.system.of_tables) b.1 ∙ sym b.2

  columns_same : map (row_data pool) a.parts.columns ≡ rows_named P columns_name
  columns_same =
      let b = columns_rows letters tree P p in
      rows_same columns_name columns_columns a.parts.columns b.0 (found (rows_at letters tree pool columns_name columns_columns) InvalidData a.parts.columns a.parts.system.of_columns) b.1 ∙ sym b.2

  validation_same : map (row_data pool) a.parts.validation ≡ map (row_data P.pool) p.validation
  validation_same =
      rows_same validation_name validation_columns a.parts.validation p.validation
      (found (rows_at letters tree pool validation_name validation_columns) InvalidData a.parts.validation a.parts.system.of_validation) p.validation_is

  name_same : (name : List ℕ) → is_named (map (row_data pool) a.parts.tables) name ≡ is_table_name P name
  name_same name = ap (λ rows. bytes_eq name tables_name || bytes_eq name columns_name || list_any (begins_with name) rows) tables_same

  names_same : map (λ h. h.name) headings ≡ map (λ t. t.name) P.tables
  names_same = same_lists table_name_cmp nat_list_cmp_total (map (λ h. h.name) headings) (map (λ t. t.name) P.tables) a.described.rising p.rising
      (λ z h. (p.names z).0 (sym (name_same z) ∙ (a.described.names z).1 h)) (λ z h. (a.described.names z).0 (name_same z ∙ (p.names z).1 h))

  -- the heading that columns and validation tell at a name
  abbrev heading_at : List (List Datum) → List (List Datum) → List ℕ → Option Heading
  heading_at cs vs name = option_map (λ columns. record { name = name; columns = columns; long = pool.long }) (columns_in cs vs name)

  heading_told : (cs vs : List (List Datum)) (h : Heading) → columns_in cs vs h.name ≡ Some h.columns → h.long ≡ pool.long → heading_at cs vs h.name ≡ Some h
  heading_told cs vs h known wide =
      ap (option_map (λ columns. record { name = h.name; columns = columns; long = pool.long })) known ∙ ap (λ l. Some (record { name = h.name; columns = h.columns; long = l })) (sym wide)

  table_told : (cs vs : List (List Datum)) (t : Table) → columns_in cs vs t.name ≡ Some t.columns → heading_at cs vs t.name ≡ Some (heading pool.long t)
  table_told cs vs t known = ap (option_map (λ columns. record { name = t.name; columns = columns; long = pool.long })) known

  headings_same : headings ≡ map (heading pool.long) P.tables
  headings_same =
      let cs = map (row_data pool) a.parts.columns in let vs = map (row_data pool) a.parts.validation in
      let ds = rows_named P columns_name in let ws = map (row_data P.pool) p.validation in
      sym (told (heading_at cs vs) headings (λ k d below. heading_told cs vs (get_or headings k d) (a.described.known k d below) (a.described.wide k d below)))
      ∙ ap (λ ns. present (map (heading_at cs vs) ns)) names_same
      ∙ ap (λ rows. present (map (heading_at rows vs) (map (λ t. t.name) P.tables))) columns_same
      ∙ ap (λ rows. present (map (heading_at ds rows) (map (λ t. t.name) P.tables))) validation_same
      ∙ told_of_tables pool.long (heading_at ds ws) P.tables (λ k d below. table_told ds ws (get_or P.tables k d) (p.columns k d below))

  pub memory_is : MemoryIsPackage kind summary.props pool headings P
  memory_is = record {
    kind = ok_same kind P.kind (sym (kind_back kind) ∙ ap kind_of (sym a.parts.class ∙ p.class) ∙ kind_back P.kind);
    summary = ok_same summary.props P.summary
        (sym a.parts.summary_is ∙ ap summary_read (some_same a.parts.summary_bytes p.summary_bytes (sym a.parts.summary_at ∙ p.summary_at))
        ∙ summary_back p.summary_bytes P.summary p.summary p.summary_kind);
    pool = pools;
    tables = headings_same;
  }
