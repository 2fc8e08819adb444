-- The table of a name in memory is the package's.
use Rattle.std.proofs.Common.{◌≡◌, ◌∙◌, ℕ, Bool, List, None, Some, ap, map, refl, sym}
use Rattle.std.specs.Prelude.{Err, Ok, Option, option_map}
use Rattle.cfb_medium.specs.declared.error.Error.TheVariants.{NotFound}
use Rattle.cfb_medium.specs.declared.medium.ReadMedium.{Ghosts}
use Rattle.msi.specs.Opened.{pool_in, tables_in, PackageHasContent}
use Rattle.msi.specs.declared.package.Package.{Package}
use Rattle.msi_spec.specs.Calls.{found_table}
use Rattle.msi_spec.specs.Package.{PackageContent}
use Rattle.msi_parts.proofs.Judging.{named_heading}
use Rattle.msi_parts.specs.Judged.{heading_named}
use Rattle.msi_parts.specs.Parts.{heading}
use Rattle.msi_tables.specs.Table.{Heading, Table, table_named}
use Rattle.msi_texts.specs.Results.{or_refused}

module _ (long : Bool) (ts : List Table) (name : List ℕ) where
  -- it has these columns
  pub found_so : (h : Heading) → heading_named (map (heading long) ts) name ≡ Some h → (t : Table) × (table_named ts name ≡ Some t) × (t.columns ≡ h.columns)
  found_so h is = by (table_named ts name) refl
    where
      by : (o : Option Table) → table_named ts name ≡ o → (t : Table) × (table_named ts name ≡ Some t) × (t.columns ≡ h.columns)
      by None none = let never : Some h ≡ None = sym is ∙ named_heading long ts name ∙ ap (option_map (heading long)) none in absurd (cc)
      by (Some t) there =
          let same : Some (heading long t) ≡ Some h = sym (named_heading long ts name ∙ ap (option_map (heading long)) there) ∙ is in
          let one : heading long t ≡ h = cc in (t, there, ap (λ (x : Heading). x.columns) one)

  -- there is none
  pub lost_so : heading_named (map (heading long) ts) name ≡ None → table_named ts name ≡ None
  lost_so is = by (table_named ts name) refl
    where
      by : (o : Option Table) → table_named ts name ≡ o → table_named ts name ≡ None
      by None none = none
      by (Some t) there = let never : Some (heading long t) ≡ None = sym (named_heading long ts name ∙ ap (option_map (heading long)) there) ∙ is in absurd (cc)

module _ {F : Type 0} {g : Ghosts F} (it : Package F g) (P : PackageContent) (held : PackageHasContent it P) (name : List ℕ) where
  -- of a package that is held
  pub columns_found : (h : Heading) → heading_named (tables_in it) name ≡ Some h → (t : Table) × (found_table P name ≡ Ok t) × (t.columns ≡ h.columns)
  columns_found h is =
      let found = found_so (pool_in it).pool.long P.tables name h (ap (λ hs. heading_named hs name) (sym held.memory.tables) ∙ is) in
      (found.0, ap (λ o. or_refused o NotFound) found.1, found.2)

  pub columns_lost : heading_named (tables_in it) name ≡ None → found_table P name ≡ Err NotFound
  columns_lost is = ap (λ o. or_refused o NotFound) (lost_so (pool_in it).pool.long P.tables name (ap (λ hs. heading_named hs name) (sym held.memory.tables) ∙ is))
