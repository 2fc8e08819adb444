-- What opening finds, with all rows read, is a package that the tree packs.
use Rattle.std.proofs.Common.{◌≡◌, ◌∙◌, ℕ, Bool, true, false, List, [], map, refl, sym, ap, subst, Some, None, get_or}
use Rattle.std.specs.Prelude.{◌||◌, Option, Result, Ok, Err, bytes_eq, unwrap_or}
use Rattle.std.specs.List.{list_any}
use Rattle.cfb_tree.specs.Names.{CaseTable}
use Rattle.cfb_tree.specs.Tree.{Tree}
use Rattle.msi_pool.specs.Pool.{Pool}
use Rattle.msi_pool.proofs.PoolHeads.{bind_cases}
use Rattle.msi_pool.proofs.PoolReads.{bytes_by_index, read_pool_is_pooled}
use Rattle.msi_props.specs.Props.{Props, props_read}
use Rattle.msi_texts.specs.Results.{◌>>=◌, or_refused, unless_not}
use Rattle.msi_tables.specs.Rows.{Row}
use Rattle.msi_summary.specs.Summary.{summary_format}
use Rattle.msi_tables.specs.Table.{Table, row_data, table_named, data_rows}
use Rattle.msi_tables.specs.Schema.{begins_with, columns_columns, columns_in, columns_name, is_schema, tables_columns, tables_name, validation_columns, validation_name}
use Rattle.msi_spec.specs.Opening.{summary_read}
use Rattle.msi_spec.specs.Known.{HaveColumns, HaveRows, Parts, is_named, package_with}
use Rattle.msi_spec.specs.Package.{TreePacksPackage}
use Rattle.cfb_medium.specs.declared.error.Error.{Error}
use Rattle.cfb_medium.specs.declared.error.Error.TheVariants.{InvalidData}
use Rattle.msi_spec.specs.declared.kind.PackageType.{PackageType}
use Rattle.msi_spec.proofs.SystemRows.{bytes_same, columns_fixed, named_rows, rows_at, same_bytes, tables_fixed}

passed : (b : Bool) (e : Error) (u : Unit {0}) → unless_not b e ≡ Ok u → b ≡ true
passed true e u h = refl
passed false e u h = absurd (cc)

abbrev good : {A : Type 0} → A → Result A Error → Option A
good d (Ok z) = Some z
good d (Err _) = Some d

pub found : {A : Type 0} (o : Option A) (e : Error) (x : A) → or_refused o e ≡ Ok x → o ≡ Some x
found None e x h = absurd (cc)
found (Some y) e x h = ap (good y) h

abbrev props_in : Props → Result Props Error → Props
props_in d (Ok x) = x
props_in d (Err _) = d

-- what a summary that was read is
pub summary_parts : (bytes : List ℕ) (s : Props) → summary_read bytes ≡ Ok s → (props_read bytes ≡ Ok s) × (s.format ≡ summary_format)
summary_parts bytes s e =
    let p = bind_cases (props_read bytes) (λ s. unless_not (bytes_eq s.format summary_format) InvalidData >>= λ _. Ok s) s e in
    let q = bind_cases (unless_not (bytes_eq p.0.format summary_format) InvalidData) (λ _. Ok p.0) s p.2 in
    let same : p.0 ≡ s = ap (props_in p.0) q.2 in (
      subst (λ x. props_read bytes ≡ Ok x) same p.1,
      subst (λ (x : Props). x.format ≡ summary_format) same (same_bytes p.0.format summary_format (passed (bytes_eq p.0.format summary_format) InvalidData q.0 q.1)),
    )

pub some_rows : (r s : List Row) → Some r ≡ Some s → r ≡ s
some_rows r s e = ap (λ o. unwrap_or o []) e

module _ (letters : CaseTable) (tree : Tree) where
  -- the rows of a system table among these tables are those of its stream
  rows_named_are : (pool : Pool) (T C V : List Row) (ts : List Table) → HaveColumns letters tree pool T C V ts → HaveRows letters tree pool ts
      → (rows : List Row) → rows_at letters tree pool tables_name tables_columns ≡ Some rows → data_rows pool (table_named ts tables_name) ≡ map (row_data pool) rows
  rows_named_are pool T C V ts h all rows is =
      let named = ap (λ b. b || bytes_eq tables_name columns_name || list_any (begins_with tables_name) (map (row_data pool) T)) (bytes_same tables_name) in
      let own = named_rows letters tree pool ts (map (row_data pool) C) (map (row_data pool) V) tables_name tables_columns (λ k d below. (h.known k d below, all k d below)) ((h.names tables_name).0 named)
      (tables_fixed letters tree (map (row_data pool) C) (map (row_data pool) V)) in
      own.2 ∙ ap (map (row_data pool)) (some_rows own.0 rows (sym own.1 ∙ is))

  columns_named_are : (pool : Pool) (T C V : List Row) (ts : List Table) → HaveColumns letters tree pool T C V ts → HaveRows letters tree pool ts
      → (rows : List Row) → rows_at letters tree pool columns_name columns_columns ≡ Some rows → data_rows pool (table_named ts columns_name) ≡ map (row_data pool) rows
  columns_named_are pool T C V ts h all rows is =
      let named = ap (λ b. bytes_eq columns_name tables_name || b || list_any (begins_with columns_name) (map (row_data pool) T)) (bytes_same columns_name) in
      let own = named_rows letters tree pool ts (map (row_data pool) C) (map (row_data pool) V) columns_name columns_columns (λ k d below. (h.known k d below, all k d below)) ((h.names columns_name).0 named)
      (columns_fixed letters tree (map (row_data pool) C) (map (row_data pool) V)) in
      own.2 ∙ ap (map (row_data pool)) (some_rows own.0 rows (sym own.1 ∙ is))

  -- of these parts, with names, columns and rows of all tables, the tree packs a package
  pub packed_from : (kind : PackageType) (summary : Props) (pool : Pool) (p : Parts letters tree kind summary pool) (ts : List Table)
      → HaveColumns letters tree pool p.tables p.columns p.validation ts → HaveRows letters tree pool ts
      → TreePacksPackage letters tree (package_with letters tree kind summary pool ts)
  packed_from kind summary pool p ts known all =
      let T = p.tables in let C = p.columns in let V = p.validation in
      let at_t = found (rows_at letters tree pool tables_name tables_columns) InvalidData T p.system.of_tables in
      let at_c = found (rows_at letters tree pool columns_name columns_columns) InvalidData C p.system.of_columns in
      let at_v = found (rows_at letters tree pool validation_name validation_columns) InvalidData V p.system.of_validation in
      let of_t = rows_named_are pool T C V ts known all T at_t in
      let of_c = columns_named_are pool T C V ts known all C at_c in
      let vs = map (row_data pool) V in
      let sum = summary_parts p.summary_bytes summary p.summary_is in
      record {
        class = p.class;
        pool_bytes = p.pool_bytes;
        data_bytes = p.data_bytes;
        pool_at = p.pool_at;
        data_at = p.data_at;
        pool = read_pool_is_pooled p.pool_bytes p.data_bytes p.builder pool (bytes_by_index p.pool_bytes p.small) p.begins p.built;
        rising = known.rising;
        names = λ name. (
          λ h. (known.names name).0 (sym (ap (λ rows. is_named rows name) of_t) ∙ h),
          λ h. ap (λ rows. is_named rows name) of_t ∙ (known.names name).1 h,
        );
        rows = all;
        validation = V;
        validation_is = at_v;
        schema = ap (λ rows. is_schema rows (data_rows pool (table_named ts columns_name)) vs) of_t ∙ ap (λ rows. is_schema (map (row_data pool) T) rows vs) of_c ∙ p.schema;
        columns = λ k d below. ap (λ rows. columns_in rows vs (get_or ts k d).name) of_c ∙ known.known k d below;
        summary_bytes = p.summary_bytes;
        summary_at = p.summary_at;
        summary = sum.0;
        summary_kind = sum.1;
        streams = refl;
        storages = refl;
      }
