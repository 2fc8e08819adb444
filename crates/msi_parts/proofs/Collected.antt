-- The parts that were read one by one are those of the package, and what they are answers opening.
use Rattle.std.proofs.Common.{◌≡◌, ◌∙◌, true, Bool, List, map, ap}
use Rattle.std.specs.Prelude.{Ok, Result}
use Rattle.cfb_medium.specs.declared.error.Error.{Error}
use Rattle.cfb_medium.specs.declared.error.Error.TheVariants.{InvalidData, NotFound}
use Rattle.cfb_tree.specs.Names.{CaseTable}
use Rattle.cfb_tree.specs.Tree.{Tree}
use Rattle.msi_spec.proofs.OpenedIs.{kind_back}
use Rattle.msi_spec.specs.Opening.{kind_of, keeps_encoded_names, opened, summary_read}
use Rattle.msi_parts.proofs.OpenedParts.{all_found}
use Rattle.msi_spec.specs.Package.{class_of}
use Rattle.msi_spec.specs.declared.kind.PackageType.{PackageType}
use Rattle.msi_parts.specs.Parts.{AreParts, HasSchema, IsBegun, IsBuilt, IsSummary, builder_in, built_in, schema_in, summary_in}
use Rattle.msi_pool.specs.Pool.{Pool}
use Rattle.msi_pool.specs.PoolReading.{Begun, begun, pool_of}
use Rattle.msi_props.specs.Held.{SetState}
use Rattle.msi_tables.specs.Table.{Heading, row_data}
use Rattle.msi_tables.specs.Schema.{is_schema}
use Rattle.msi_texts.specs.Results.{◌>>=◌, or_refused, unless_not}

-- what follows three parts that were found
chain : {A B C D : Type 0} {r : Result A Error} {s : Result B Error} {t : Result C Error} {a : A} {b : B} {c : C} → r ≡ Ok a → s ≡ Ok b → t ≡ Ok c → (u : A → B → C → Result D Error)
    → (r >>= λ x. s >>= λ y. t >>= λ z. u x y z) ≡ u a b c
chain {s = s} {t = t} {a = a} {b = b} er es et u = ap (λ m. m >>= λ x. s >>= λ y. t >>= λ z. u x y z) er ∙ ap (λ m. m >>= λ y. t >>= λ z. u a y z) es ∙ ap (λ m. m >>= λ z. u a b z) et

module _ (letters : CaseTable) (tree : Tree) where
  pub summary_is : (s : SetState) → IsSummary letters tree s → summary_in letters tree ≡ Ok s.props
  summary_is s h = ap (λ o. or_refused o NotFound >>= summary_read) h.at ∙ h.read

  pub builder_is : (b : Begun) → IsBegun letters tree b → builder_in letters tree ≡ Ok b
  builder_is b h = ap (λ o. or_refused o NotFound >>= begun) h.at ∙ h.begins

  pub pool_is : (b : Begun) (p : Pool) (gives_back : Bool) → IsBuilt letters tree b p gives_back → built_in letters tree b ≡ Ok p
  pool_is b p gives_back h = ap (λ o. or_refused o NotFound >>= pool_of b) h.at ∙ h.built

  pub schema_is : (p : Pool) (headings : List Heading) → HasSchema letters tree p headings → schema_in letters tree p ≡ Ok tt
  schema_is p headings h =
      chain h.system.of_tables h.system.of_columns h.system.of_validation
      (λ tables columns validation. unless_not (is_schema (map (row_data p) tables) (map (row_data p) columns) (map (row_data p) validation)) InvalidData)
      ∙ ap (λ b. unless_not b InvalidData) h.schema

  pub collected : (kind : PackageType) (s : SetState) (b : Begun) (p : Pool) (gives_back : Bool) (headings : List Heading) → tree.root.clsid ≡ class_of kind
      → IsSummary letters tree s → IsBegun letters tree b → IsBuilt letters tree b p gives_back → HasSchema letters tree p headings → AreParts letters tree kind s p gives_back headings
  collected kind s b p gives_back headings class summary begins built schema = record {
    parts = record {
      class = class;
      summary_bytes = summary.bytes;
      summary_at = summary.at;
      summary_is = summary.read;
      pool_bytes = begins.bytes;
      data_bytes = built.bytes;
      pool_at = begins.at;
      data_at = built.at;
      small = begins.small;
      builder = b;
      begins = begins.begins;
      built = built.built;
      tables = schema.tables;
      columns = schema.columns;
      validation = schema.validation;
      system = schema.system;
      schema = schema.schema;
    };
    whole = summary.whole;
    back = built.back;
    described = schema.described;
  }

  pub schema_of : (kind : PackageType) (s : SetState) (p : Pool) (gives_back : Bool) (headings : List Heading) → AreParts letters tree kind s p gives_back headings → HasSchema letters tree p headings
  schema_of kind s p gives_back headings a = record {
    tables = a.parts.tables;
    columns = a.parts.columns;
    validation = a.parts.validation;
    system = a.parts.system;
    schema = a.parts.schema;
    described = a.described;
  }

  -- so opening answers with them
  pub opened_is : keeps_encoded_names letters ≡ true → (kind : PackageType) (s : SetState) (p : Pool) (gives_back : Bool) (headings : List Heading) → AreParts letters tree kind s p gives_back headings
      → opened letters tree ≡ Ok (kind, (s.props, p))
  opened_is may kind s p gives_back headings a =
      let parts = a.parts in
      all_found letters tree may kind (ap kind_of parts.class ∙ kind_back kind)
      s.props (ap (λ o. or_refused o NotFound >>= summary_read) parts.summary_at ∙ parts.summary_is)
      parts.builder (ap (λ o. or_refused o NotFound >>= begun) parts.pool_at ∙ parts.begins)
      p (ap (λ o. or_refused o NotFound >>= pool_of parts.builder) parts.data_at ∙ parts.built)
      (schema_is p headings (schema_of kind s p gives_back headings a))
