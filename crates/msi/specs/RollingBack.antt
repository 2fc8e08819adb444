-- A package that goes back to what was committed last.
use Rattle.std.specs.Prelude.{◌≡◌, ◌⊎◌, ◌↔◌, ℕ, Bool, false, true, List, IsTrue}
use Rattle.cfb.specs.Publishing.{medium_in}
use Rattle.cfb.specs.RollingBack.{OfPublished}
use Rattle.cfb.specs.Views.{file_case_table, mini_of}
use Rattle.cfb_fat.specs.Tables.{bytes_of, has_failed_here}
use Rattle.cfb_medium.specs.Calls.{IsFaultOrInvalidInputIf}
use Rattle.cfb_medium.specs.declared.error.Error.{Error}
use Rattle.cfb_medium.specs.declared.error.Error.TheVariants.{InvalidData}
use Rattle.cfb_medium.specs.declared.medium.ReadMedium.{Ghosts}
use Rattle.cfb_mini.specs.Views.{allocator_of}
use Rattle.cfb_tree.specs.Names.{CaseTable}
use Rattle.msi_spec.specs.Opening.{keeps_encoded_names}
use Rattle.msi.specs.Opened.{IsOpenedPackage, AreBytesRejected, IsSoundFile, file_in, sound_in}
use Rattle.msi.specs.declared.package.Package.{Package}

-- the bytes hold a sound package where this one isn't, or none where it is
abbrev pub AreJudgedOtherwise : Bool → CaseTable → List ℕ → Type 0
AreJudgedOtherwise sound letters bytes = (IsTrue sound ↔ IsSoundFile letters bytes) → ⊥

module _ {F : Type 0} {g : Ghosts F} (has_published : F → List ℕ → Type 0) (old : Package F g) where
  -- so it is of the case table, if packages may have such a one, and the bytes that an honest medium had published last
  abbrev pub OfPublishedPackage : (CaseTable → List ℕ → Type 0) → Type 0
  OfPublishedPackage P =
      keeps_encoded_names (file_case_table (file_in old)) ≡ true → OfPublished has_published (file_in old) (P (file_case_table (file_in old)))

  -- Its file has the published bytes, and it is what opening finds in them: where they hold a sound package, that very one. It is live,
  -- over a medium that has failed only where it had.
  pub record PackageRollsBack (new : Package F g) : Type 0 where
    pub live : has_failed_here (allocator_of (mini_of (file_in new))) ≡ false
    pub failed : g.failed (medium_in (file_in new)) ≡ g.failed (medium_in (file_in old))
    pub bytes : OfPublished has_published (file_in old) (λ published. bytes_of (allocator_of (mini_of (file_in new))) ≡ published)
    pub opened : OfPublishedPackage (λ letters published. IsOpenedPackage letters published new)

  -- A fault; `InvalidInput` of a medium that doesn't survive a crash; why opening refuses the published bytes; or that these are judged
  -- otherwise than the package is.
  pub record IsNoWayBack (mortal : Type 0) (e : Error) : Type 0 where
    pub told : OfPublishedPackage (λ letters published. IsFaultOrInvalidInputIf mortal e ⊎ (AreBytesRejected letters published e
        ⊎ ((e ≡ InvalidData) × AreJudgedOtherwise (sound_in old) letters published)))
