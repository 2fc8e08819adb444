-- The parts of a package that were read one after the other, and where their reading is left.
use Rattle.std.proofs.Common.{◌≡◌, ◌∙◌, ◌⊎◌, ℕ, Bool, true, false, List, refl, sym, ap, subst, inl, inr}
use Rattle.std.specs.Prelude.{Err, Ok, Result, bytes_eq, if◌then◌else◌}
use Rattle.std.proofs.lemmas.Slice.Eq.{bytes_eq-Decides}
use Rattle.cfb_medium.specs.declared.error.Error.{Error}
use Rattle.cfb_medium.specs.declared.error.Error.TheVariants.{InvalidData}
use Rattle.cfb_tree.specs.Names.{CaseTable}
use Rattle.cfb_tree.specs.Tree.{Tree}
use Rattle.msi_spec.specs.Opening.{kind_of, keeps_encoded_names, opened}
use Rattle.msi_spec.specs.Package.{class_of}
use Rattle.msi_spec.specs.declared.kind.PackageType.{PackageType}
use Rattle.msi_spec.specs.declared.kind.PackageType.TheVariants.{Installer, Patch, Transform}
use Rattle.msi_parts.proofs.Collected.{builder_is, collected, pool_is, summary_is}
use Rattle.msi_parts.proofs.OpenedParts.{builder_refused, kind_refused, pool_refused, schema_refused, summary_refused}
use Rattle.msi_parts.specs.Held.{ArePartsOfTree, headings_in}
use Rattle.msi_parts.specs.Parts.{HasSchema, IsBegun, IsBuilt, IsSummary, builder_in, built_in, schema_in, summary_in}
use Rattle.msi_parts.specs.declared.parts.PackageParts.{PackageParts}
use Rattle.msi_pool.specs.Pool.{Pool}
use Rattle.msi_pool.specs.PoolReading.{Begun}
use Rattle.msi_props.specs.Held.{SetState}
use Rattle.msi_stored.specs.Shown.{FindsPart, IsLostPart}

abbrev kind_known : Result PackageType Error → PackageType → Type 0
kind_known r kind = r ≡ Ok kind

-- a kind is told by its identifier alone
kind_has_class : (clsid : List ℕ) (kind : PackageType) → kind_of clsid ≡ Ok kind → clsid ≡ class_of kind
kind_has_class clsid kind is = first (bytes_eq clsid (class_of Installer)) refl is
  where
    found : (k : PackageType) → bytes_eq clsid (class_of k) ≡ true → kind_known (Ok k) kind → clsid ≡ class_of kind
    found k same is = let it : k ≡ kind = cc in (bytes_eq-Decides clsid (class_of k)).0 same ∙ ap class_of it

    third : (b : Bool) → bytes_eq clsid (class_of Transform) ≡ b → kind_known (if b then Ok Transform else Err InvalidData) kind → clsid ≡ class_of kind
    third true same is = found Transform same is
    third false same is = absurd (cc)

    second : (b : Bool) → bytes_eq clsid (class_of Patch) ≡ b → kind_known (if b then Ok Patch else (if bytes_eq clsid (class_of Transform) then Ok Transform else Err InvalidData)) kind → clsid ≡ class_of kind
    second true same is = found Patch same is
    second false same is = third (bytes_eq clsid (class_of Transform)) refl is

    first : (b : Bool) → bytes_eq clsid (class_of Installer) ≡ b
        → kind_known (if b then Ok Installer else (if bytes_eq clsid (class_of Patch) then Ok Patch else (if bytes_eq clsid (class_of Transform) then Ok Transform else Err InvalidData))) kind → clsid ≡ class_of kind
    first true same is = found Installer same is
    first false same is = second (bytes_eq clsid (class_of Patch)) refl is

-- a refusal of the definition, or a part is lost
abbrev pub Leaves : {A : Type 0} → CaseTable → List ℕ → Result A Error → Error → Type 0
Leaves letters bytes d e = IsLostPart letters bytes e ⊎ (d ≡ Err e)

module _ (letters : CaseTable) (bytes : List ℕ) (tree : Tree) (may : keeps_encoded_names letters ≡ true) where
  abbrev pub Read : Result PackageParts Error → Type 0
  Read r = FindsPart letters bytes (ArePartsOfTree letters tree) (opened letters tree) r

  left : {A : Type 0} (d : Result A Error) (r : Result PackageParts Error) (e : Error) → r ≡ Err e → Leaves letters bytes d e → (d ≡ Err e → opened letters tree ≡ Err e) → Read r
  left d r e same why refuses = subst Read (sym same) (elim why [ inl lost ↦ inl lost | inr is ↦ inr (refuses is) ])

  pub kind_exit : (r : Result PackageParts Error) (e : Error) → r ≡ Err e → Leaves letters bytes (kind_of tree.root.clsid) e → Read r
  kind_exit r e is why = left (kind_of tree.root.clsid) r e is why (kind_refused letters tree may e)

  module _ (kind : PackageType) (is_kind : kind_of tree.root.clsid ≡ Ok kind) where
    pub summary_exit : (r : Result PackageParts Error) (e : Error) → r ≡ Err e → Leaves letters bytes (summary_in letters tree) e → Read r
    summary_exit r e is why = left (summary_in letters tree) r e is why (summary_refused letters tree may kind is_kind e)

    module _ (s : SetState) (is_s : IsSummary letters tree s) where
      pub builder_exit : (r : Result PackageParts Error) (e : Error) → r ≡ Err e → Leaves letters bytes (builder_in letters tree) e → Read r
      builder_exit r e is why = left (builder_in letters tree) r e is why (builder_refused letters tree may kind is_kind s.props (summary_is letters tree s is_s) e)

      module _ (b : Begun) (is_b : IsBegun letters tree b) where
        pub pool_exit : (r : Result PackageParts Error) (e : Error) → r ≡ Err e → Leaves letters bytes (built_in letters tree b) e → Read r
        pool_exit r e is why = left (built_in letters tree b) r e is why (pool_refused letters tree may kind is_kind s.props (summary_is letters tree s is_s) b (builder_is letters tree b is_b) e)

        module _ (p : Pool) (back : Bool) (is_p : IsBuilt letters tree b p back) where
          pub schema_exit : (r : Result PackageParts Error) (e : Error) → r ≡ Err e → Leaves letters bytes (schema_in letters tree p) e → Read r
          schema_exit r e is why =
              left (schema_in letters tree p) r e is why
              (schema_refused letters tree may kind is_kind s.props (summary_is letters tree s is_s) b (builder_is letters tree b is_b) p (pool_is letters tree b p back is_p) e)

          pub parts_end : (it : PackageParts) → it.kind ≡ kind → it.summary ≡ s → it.pool.pool ≡ p → it.gives_back ≡ back → it.pool.modified ≡ false → HasSchema letters tree p (headings_in it) → ArePartsOfTree letters tree it
          parts_end it ek es ep eb unmodified schema = record {
            parts = rw (ek, es, ep, eb) (collected letters tree kind s b p back (headings_in it) (kind_has_class tree.root.clsid kind is_kind) is_s is_b is_p schema);
            unmodified = unmodified;
          }
