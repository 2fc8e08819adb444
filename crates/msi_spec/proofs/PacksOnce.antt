-- A tree packs at most one package.
use Rattle.std.proofs.Common.{◌≡◌, ◌∙◌, ℕ, List, [], ◌∷◌, map, refl, sym, ap, arith, Some, None}
use Rattle.std.specs.Prelude.{◌||◌, ◌&&◌, not, Option, Result, Ok, bytes_eq, filter, option_and_then, option_map, All}
use Rattle.std.specs.List.{list_any}
use Rattle.std.proofs.lemmas.Cmp.{nat_list_cmp_total}
use Rattle.std.proofs.lemmas.List.Elements.{All-tail}
use Rattle.cfb_tree.specs.Names.{CaseTable}
use Rattle.cfb_tree.specs.Tree.{Tree}
use Rattle.msi_values.specs.Datum.{Datum}
use Rattle.msi_columns.specs.Column.{Column}
use Rattle.msi_pool.specs.Pool.{Pool, Pooled}
use Rattle.msi_pool.specs.PoolReading.{begun, pool_of}
use Rattle.msi_props.specs.Props.{props_read}
use Rattle.msi_tables.specs.Rows.{Row}
use Rattle.msi_tables.specs.Table.{Table, row_data}
use Rattle.msi_tables.specs.Schema.{begins_with, columns_columns, columns_in, columns_name, tables_columns, tables_name, validation_columns, validation_name}
use Rattle.msi_spec.specs.Package.{PackageContent, TreePacksPackage, class_of, is_own, is_stream, is_table_name, objects, rows_named, table_name_cmp}
use Rattle.msi_spec.specs.Opening.{kind_of}
use Rattle.cfb_medium.specs.declared.error.Error.{Error}
use Rattle.msi_spec.specs.declared.kind.PackageType.{PackageType}
use Rattle.msi_spec.proofs.OpenedIs.{builder_finds, kind_back}
use Rattle.msi_spec.proofs.SameNames.{same_lists}
use Rattle.msi_spec.proofs.SystemRows.{columns_rows, rows_at, tables_rows}

abbrev value : {A : Type 0} → A → Option A → A
value d (Some x) = x
value d None = d

pub some_same : {A : Type 0} (x y : A) → Some x ≡ Some y → x ≡ y
some_same x y e = ap (value x) e

abbrev good : {A : Type 0} → A → Result A Error → A
good d (Ok x) = x
good d _ = d

pub ok_same : {A : Type 0} (x y : A) → ◌≡◌ {A = Result A Error} (Ok x) (Ok y) → x ≡ y
ok_same x y e = ap (good x) e

kind_same : (k m : PackageType) → class_of k ≡ class_of m → k ≡ m
kind_same k m e = ok_same k m (sym (kind_back k) ∙ ap kind_of e ∙ kind_back m)

-- those that are there
abbrev present : List (Option Table) → List Table
present [] = []
present (None ∷ os) = present os
present (Some t ∷ os) = t ∷ present os

-- tables that their names tell
told : (F : List ℕ → Option Table) (ts : List Table) → All (λ t. F t.name ≡ Some t) ts → present (map F (map (λ t. t.name) ts)) ≡ ts
told F [] all = refl
told F (t ∷ ts) all =
    let here : F t.name ≡ Some t = all 0 t (omega arith) in
    ap (λ o. present (o ∷ map F (map (λ u. u.name) ts))) here ∙ ap (λ us. t ∷ us) (told F ts (All-tail (λ u. F u.name ≡ Some u) t ts all))

module _ (letters : CaseTable) (tree : Tree) where
  pool_same : (a b c d : List ℕ) (p q : Pool) → Pooled a b p → Pooled c d q → a ≡ c → b ≡ d → p ≡ q
  pool_same a b c d p q one other first second =
      let f = builder_finds a b p one in let h = builder_finds c d q other in
      let builders : f.0 ≡ h.0 = ok_same f.0 h.0 (sym f.1 ∙ ap begun first ∙ h.1) in
      ok_same p q (sym f.2 ∙ ap (pool_of f.0) second ∙ ap (λ s. pool_of s d) builders ∙ h.2)

  -- the table that pool, columns and validation tell at a name
  abbrev table_at : Pool → List (List Datum) → List (List Datum) → List ℕ → Option Table
  table_at pool cs vs name =
      option_and_then (λ columns. option_map (λ rows. record { name = name; columns = columns; rows = rows }) (rows_at letters tree pool name columns)) (columns_in cs vs name)

  table_told : (pool : Pool) (cs vs : List (List Datum)) (t : Table) → columns_in cs vs t.name ≡ Some t.columns → rows_at letters tree pool t.name t.columns ≡ Some t.rows
      → table_at pool cs vs t.name ≡ Some t
  table_told pool cs vs t known rows =
      ap (option_and_then (λ columns. option_map (λ rows. record { name = t.name; columns = columns; rows = rows }) (rows_at letters tree pool t.name columns))) known
      ∙ ap (option_map (λ rows. record { name = t.name; columns = t.columns; rows = rows })) rows

  module _ (P Q : PackageContent) (p : TreePacksPackage letters tree P) (q : TreePacksPackage letters tree Q) where
    pools : P.pool ≡ Q.pool
    pools = pool_same p.pool_bytes p.data_bytes q.pool_bytes q.data_bytes P.pool Q.pool p.pool q.pool
        (some_same p.pool_bytes q.pool_bytes (sym p.pool_at ∙ q.pool_at)) (some_same p.data_bytes q.data_bytes (sym p.data_at ∙ q.data_at))

    -- the rows of a system table are the same as values
    rows_same : (name : List ℕ) (columns : List Column) (r s : List Row) → rows_at letters tree P.pool name columns ≡ Some r → rows_at letters tree Q.pool name columns ≡ Some s
        → map (row_data P.pool) r ≡ map (row_data Q.pool) s
    rows_same name columns r s one other =
        let rows : r ≡ s = some_same r s (sym one ∙ ap (λ pool. rows_at letters tree pool name columns) pools ∙ other) in
        ap (λ pool. map (row_data pool) r) pools ∙ ap (map (row_data Q.pool)) rows

    tables_same : rows_named P tables_name ≡ rows_named Q tables_name
    tables_same = let a = tables_rows letters tree P p in let b = tables_rows letters tree Q q in
        a.2 ∙ rows_same tables_name tables_columns a.0 b.0 a.1 b.1 ∙ sym b.2

    columns_same : rows_named P columns_name ≡ rows_named Q columns_name
    columns_same = let a = columns_rows letters tree P p in let b = columns_rows letters tree Q q in
        a.2 ∙ rows_same columns_name columns_columns a.0 b.0 a.1 b.1 ∙ sym b.2

    validation_same : map (row_data P.pool) p.validation ≡ map (row_data Q.pool) q.validation
    validation_same = rows_same validation_name validation_columns p.validation q.validation p.validation_is q.validation_is

    table_name_same : (name : List ℕ) → is_table_name P name ≡ is_table_name Q name
    table_name_same name = ap (λ rows. bytes_eq name tables_name || bytes_eq name columns_name || list_any (begins_with name) rows) tables_same

    names_same : map (λ t. t.name) P.tables ≡ map (λ t. t.name) Q.tables
    names_same = same_lists table_name_cmp nat_list_cmp_total (map (λ t. t.name) P.tables) (map (λ t. t.name) Q.tables) p.rising q.rising
        (λ z h. (q.names z).0 (sym (table_name_same z) ∙ (p.names z).1 h)) (λ z h. (p.names z).0 (table_name_same z ∙ (q.names z).1 h))

    all_same : P.tables ≡ Q.tables
    all_same =
        let cs = rows_named P columns_name in let vs = map (row_data P.pool) p.validation in
        let ds = rows_named Q columns_name in let ws = map (row_data Q.pool) q.validation in
        sym (told (table_at P.pool cs vs) P.tables (λ k d below. table_told P.pool cs vs _ (p.columns k d below) (p.rows k d below)))
        ∙ ap (λ ns. present (map (table_at P.pool cs vs) ns)) names_same
        ∙ ap (λ pool. present (map (table_at pool cs vs) (map (λ t. t.name) Q.tables))) pools
        ∙ ap (λ rows. present (map (table_at Q.pool rows vs) (map (λ t. t.name) Q.tables))) columns_same
        ∙ ap (λ rows. present (map (table_at Q.pool ds rows) (map (λ t. t.name) Q.tables))) validation_same
        ∙ told (table_at Q.pool ds ws) Q.tables (λ k d below. table_told Q.pool ds ws _ (q.columns k d below) (q.rows k d below))

    summaries : P.summary ≡ Q.summary
    summaries = ok_same P.summary Q.summary (sym p.summary ∙ ap props_read (some_same p.summary_bytes q.summary_bytes (sym p.summary_at ∙ q.summary_at)) ∙ q.summary)

    streams_same : P.streams ≡ Q.streams
    streams_same = p.streams ∙ ap (λ ts. filter (λ o. is_stream o && not (is_own letters (record P { tables = ts }) o)) (objects tree.content)) all_same ∙ sym q.streams

    pub packs_once : P ≡ Q
    packs_once =
        ap (λ x. record P { kind = x }) (kind_same P.kind Q.kind (sym p.class ∙ q.class))
        ∙ ap (λ x. record P { kind = Q.kind; pool = x }) pools
        ∙ ap (λ x. record P { kind = Q.kind; pool = Q.pool; tables = x }) all_same
        ∙ ap (λ x. record P { kind = Q.kind; pool = Q.pool; tables = Q.tables; summary = x }) summaries
        ∙ ap (λ x. record P { kind = Q.kind; pool = Q.pool; tables = Q.tables; summary = Q.summary; streams = x }) streams_same
        ∙ ap (λ x. record P { kind = Q.kind; pool = Q.pool; tables = Q.tables; summary = Q.summary; streams = Q.streams; storages = x }) (p.storages ∙ sym q.storages)
