-- What opening answers, by its parts: the first refusal, or the parts that were found.
use Rattle.std.proofs.Common.{◌≡◌, ◌∙◌, true, map, refl, ap}
use Rattle.std.specs.Prelude.{Result, Ok, Err}
use Rattle.cfb_medium.specs.declared.error.Error.{Error}
use Rattle.cfb_medium.specs.declared.error.Error.TheVariants.{InvalidData, InvalidInput}
use Rattle.cfb_tree.specs.Names.{CaseTable}
use Rattle.cfb_tree.specs.Tree.{Tree}
use Rattle.msi_spec.specs.Opening.{kind_of, keeps_encoded_names, opened, rows_by}
use Rattle.msi_spec.specs.Package.{objects}
use Rattle.msi_spec.specs.declared.kind.PackageType.{PackageType}
use Rattle.msi_spec.proofs.OpenedIs.{then_ok}
use Rattle.msi_parts.specs.Parts.{builder_in, built_in, schema_in, summary_in}
use Rattle.msi_pool.specs.Pool.{Pool}
use Rattle.msi_pool.specs.PoolReading.{Begun}
use Rattle.msi_props.specs.Props.{Props}
use Rattle.msi_tables.specs.Schema.{columns_columns, columns_name, is_schema, tables_columns, tables_name, validation_columns, validation_name}
use Rattle.msi_tables.specs.Table.{row_data}
use Rattle.msi_texts.specs.Results.{◌>>=◌, unless_not}

then_err : {A B : Type 0} (r : Result A Error) (e : Error) (f : A → Result B Error) → r ≡ Err e → (r >>= f) ≡ Err e
then_err r e f h = ap (λ m. m >>= f) h

-- what follows three parts and a test
nested : {A B C X : Type 0} (r : Result A Error) (s : Result B Error) (t : Result C Error) (u : A → B → C → Result (Unit {0}) Error) (x : X)
    → (r >>= λ a. s >>= λ b. t >>= λ c. u a b c >>= λ _. Ok x) ≡ ((r >>= λ a. s >>= λ b. t >>= λ c. u a b c) >>= λ _. Ok x)
nested (Err e) s t u x = refl
nested (Ok a) (Err e) t u x = refl
nested (Ok a) (Ok b) (Err e) u x = refl
nested (Ok a) (Ok b) (Ok c) u x = refl

module _ (letters : CaseTable) (tree : Tree) (may : keeps_encoded_names letters ≡ true) where
  -- from the schema on
  abbrev last : PackageType → Props → Pool → Result (PackageType × (Props × Pool)) Error
  last kind summary pool =
      rows_by letters (objects tree.content) pool tables_name tables_columns >>= λ tables.
      rows_by letters (objects tree.content) pool columns_name columns_columns >>= λ columns.
      rows_by letters (objects tree.content) pool validation_name validation_columns >>= λ validation.
      unless_not (is_schema (map (row_data pool) tables) (map (row_data pool) columns) (map (row_data pool) validation)) InvalidData >>= λ _.
      Ok (kind, (summary, pool))

  abbrev from_pool : PackageType → Props → Begun → Result (PackageType × (Props × Pool)) Error
  from_pool kind summary builder = built_in letters tree builder >>= last kind summary

  abbrev from_builder : PackageType → Props → Result (PackageType × (Props × Pool)) Error
  from_builder kind summary = builder_in letters tree >>= from_pool kind summary

  abbrev from_summary : PackageType → Result (PackageType × (Props × Pool)) Error
  from_summary kind = summary_in letters tree >>= from_builder kind

  begins : opened letters tree ≡ (kind_of tree.root.clsid >>= from_summary)
  begins = then_ok (unless_not (keeps_encoded_names letters) InvalidInput) tt (λ _. kind_of tree.root.clsid >>= from_summary) (ap (λ b. unless_not b InvalidInput) may)

  last_is : (kind : PackageType) (summary : Props) (pool : Pool) → last kind summary pool ≡ (schema_in letters tree pool >>= λ _. Ok (kind, (summary, pool)))
  last_is kind summary pool =
      nested (rows_by letters (objects tree.content) pool tables_name tables_columns) (rows_by letters (objects tree.content) pool columns_name columns_columns)
      (rows_by letters (objects tree.content) pool validation_name validation_columns)
      (λ tables columns validation. unless_not (is_schema (map (row_data pool) tables) (map (row_data pool) columns) (map (row_data pool) validation)) InvalidData) (kind, (summary, pool))

  pub kind_refused : (e : Error) → kind_of tree.root.clsid ≡ Err e → opened letters tree ≡ Err e
  kind_refused e h = begins ∙ then_err (kind_of tree.root.clsid) e from_summary h

  module _ (kind : PackageType) (is_kind : kind_of tree.root.clsid ≡ Ok kind) where
    kind_found : opened letters tree ≡ from_summary kind
    kind_found = begins ∙ then_ok (kind_of tree.root.clsid) kind from_summary is_kind

    pub summary_refused : (e : Error) → summary_in letters tree ≡ Err e → opened letters tree ≡ Err e
    summary_refused e h = kind_found ∙ then_err (summary_in letters tree) e (from_builder kind) h

    module _ (summary : Props) (is_summary : summary_in letters tree ≡ Ok summary) where
      summary_found : opened letters tree ≡ from_builder kind summary
      summary_found = kind_found ∙ then_ok (summary_in letters tree) summary (from_builder kind) is_summary

      pub builder_refused : (e : Error) → builder_in letters tree ≡ Err e → opened letters tree ≡ Err e
      builder_refused e h = summary_found ∙ then_err (builder_in letters tree) e (from_pool kind summary) h

      module _ (builder : Begun) (is_builder : builder_in letters tree ≡ Ok builder) where
        builder_found : opened letters tree ≡ from_pool kind summary builder
        builder_found = summary_found ∙ then_ok (builder_in letters tree) builder (from_pool kind summary) is_builder

        pub pool_refused : (e : Error) → built_in letters tree builder ≡ Err e → opened letters tree ≡ Err e
        pool_refused e h = builder_found ∙ then_err (built_in letters tree builder) e (last kind summary) h

        module _ (pool : Pool) (is_pool : built_in letters tree builder ≡ Ok pool) where
          pool_found : opened letters tree ≡ (schema_in letters tree pool >>= λ _. Ok (kind, (summary, pool)))
          pool_found = builder_found ∙ then_ok (built_in letters tree builder) pool (last kind summary) is_pool ∙ last_is kind summary pool

          pub schema_refused : (e : Error) → schema_in letters tree pool ≡ Err e → opened letters tree ≡ Err e
          schema_refused e h = pool_found ∙ then_err (schema_in letters tree pool) e (λ _. Ok (kind, (summary, pool))) h

          pub all_found : schema_in letters tree pool ≡ Ok tt → opened letters tree ≡ Ok (kind, (summary, pool))
          all_found h = pool_found ∙ then_ok (schema_in letters tree pool) tt (λ _. Ok (kind, (summary, pool))) h
