-- A tree that packs a package is opened, with its kind, summary and pool.
use Rattle.std.proofs.Common.{◌≡◌, ◌∙◌, ℕ, true, List, map, refl, sym, ap}
use Rattle.std.specs.Prelude.{Result, Ok, bytes_eq}
use Rattle.cfb_tree.specs.Names.{CaseTable}
use Rattle.cfb_tree.specs.Tree.{Tree}
use Rattle.msi_columns.specs.Column.{Column}
use Rattle.msi_pool.specs.Pool.{Pool, Pooled}
use Rattle.msi_pool.specs.PoolReading.{Begun, begun, pool_of}
use Rattle.msi_pool.proofs.PoolFound.{pool_is_begun, pooled_pool_is_read, told}
use Rattle.msi_props.specs.Props.{Props, props_read}
use Rattle.msi_texts.specs.Results.{◌>>=◌, or_refused, unless_not}
use Rattle.msi_tables.specs.Rows.{Row}
use Rattle.msi_summary.specs.Summary.{summary_format}
use Rattle.msi_tables.specs.Table.{row_data}
use Rattle.msi_tables.specs.Schema.{columns_columns, columns_name, is_schema, tables_columns, tables_name, validation_columns, validation_name}
use Rattle.msi_spec.specs.Opening.{kind_of, keeps_encoded_names, opened, rows_by, summary_read}
use Rattle.msi_spec.specs.Package.{PackageContent, TreePacksPackage, class_of, data_name, objects, pool_name, rows_named, stream_at, summary_name, table_stream}
use Rattle.cfb_medium.specs.declared.error.Error.{Error}
use Rattle.cfb_medium.specs.declared.error.Error.TheVariants.{InvalidData, InvalidInput, NotFound}
use Rattle.msi_spec.specs.declared.kind.PackageType.{PackageType}
use Rattle.msi_spec.specs.declared.kind.PackageType.TheVariants.{Installer, Patch, Transform}
use Rattle.msi_spec.proofs.SystemRows.{bytes_same, columns_rows, tables_rows}

pub then_ok : {A B : Type 0} (r : Result A Error) (x : A) (f : A → Result B Error) → r ≡ Ok x → (r >>= f) ≡ f x
then_ok r x f e = ap (λ m. m >>= f) e

-- what the builder reads of two streams that hold a pool
pub builder_finds : (pool_bytes data_bytes : List ℕ) (pool : Pool) → Pooled pool_bytes data_bytes pool → (b : Begun) × (begun pool_bytes ≡ Ok b) × (pool_of b data_bytes ≡ Ok pool)
builder_finds pool_bytes data_bytes pool pooled = (told pool_bytes data_bytes pool pooled, pool_is_begun pool_bytes data_bytes pool pooled, pooled_pool_is_read pool_bytes data_bytes pool pooled)

pub kind_back : (k : PackageType) → kind_of (class_of k) ≡ Ok k
kind_back Installer = refl
kind_back Patch = refl
kind_back Transform = refl

pub summary_back : (bytes : List ℕ) (s : Props) → props_read bytes ≡ Ok s → s.format ≡ summary_format → summary_read bytes ≡ Ok s
summary_back bytes s read format =
    then_ok (props_read bytes) s (λ s. unless_not (bytes_eq s.format summary_format) InvalidData >>= λ _. Ok s) read
    ∙ ap (λ b. unless_not b InvalidData >>= λ _. Ok s) (ap (λ f. bytes_eq f summary_format) format ∙ bytes_same summary_format)

module _ (letters : CaseTable) (tree : Tree) (P : PackageContent) (packs : TreePacksPackage letters tree P) where
  abbrev pub read_rows : List ℕ → List Column → Result (List Row) Error
  read_rows name columns = rows_by letters (objects tree.content) P.pool name columns

  -- from the schema on
  abbrev last : Result (PackageType × (Props × Pool)) Error
  last =
      read_rows tables_name tables_columns >>= λ tables.
      read_rows columns_name columns_columns >>= λ columns.
      read_rows validation_name validation_columns >>= λ validation.
      unless_not (is_schema (map (row_data P.pool) tables) (map (row_data P.pool) columns) (map (row_data P.pool) validation)) InvalidData >>= λ _.
      Ok (P.kind, (P.summary, P.pool))

  last_is : last ≡ Ok (P.kind, (P.summary, P.pool))
  last_is =
      let t = tables_rows letters tree P packs in
      let c = columns_rows letters tree P packs in
      let v = packs.validation in
      let schema : is_schema (map (row_data P.pool) t.0) (map (row_data P.pool) c.0) (map (row_data P.pool) v) ≡ true =
      ap (λ rows. is_schema rows (map (row_data P.pool) c.0) (map (row_data P.pool) v)) (sym t.2) ∙ ap (λ rows. is_schema (rows_named P tables_name) rows (map (row_data P.pool) v)) (sym c.2) ∙ packs.schema in
      then_ok (read_rows tables_name tables_columns) t.0 _ (ap (λ o. or_refused o InvalidData) t.1)
      ∙ then_ok (read_rows columns_name columns_columns) c.0 _ (ap (λ o. or_refused o InvalidData) c.1)
      ∙ then_ok (read_rows validation_name validation_columns) v _ (ap (λ o. or_refused o InvalidData) packs.validation_is)
      ∙ ap (λ b. unless_not b InvalidData >>= λ _. Ok (P.kind, (P.summary, P.pool))) schema

  pub opened_is : keeps_encoded_names letters ≡ true → opened letters tree ≡ Ok (P.kind, (P.summary, P.pool))
  opened_is may =
      let found = builder_finds packs.pool_bytes packs.data_bytes P.pool packs.pool in
      then_ok (unless_not (keeps_encoded_names letters) InvalidInput) tt _ (ap (λ b. unless_not b InvalidInput) may)
      ∙ then_ok (kind_of tree.root.clsid) P.kind _ (ap kind_of packs.class ∙ kind_back P.kind)
      ∙ then_ok (or_refused (stream_at letters (objects tree.content) summary_name) NotFound >>= summary_read) P.summary _
      (ap (λ o. or_refused o NotFound >>= summary_read) packs.summary_at ∙ summary_back packs.summary_bytes P.summary packs.summary packs.summary_kind)
      ∙ then_ok (or_refused (table_stream letters (objects tree.content) pool_name) NotFound >>= begun) found.0 _
      (ap (λ o. or_refused o NotFound >>= begun) packs.pool_at ∙ found.1)
      ∙ then_ok (or_refused (table_stream letters (objects tree.content) data_name) NotFound >>= pool_of found.0) P.pool _
      (ap (λ o. or_refused o NotFound >>= pool_of found.0) packs.data_at ∙ found.2)
      ∙ last_is
