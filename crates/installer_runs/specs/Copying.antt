-- A copy of a package that is committed to a device.
use Rattle.std.specs.Prelude.{◌≡◌, ◌⊎◌, ℕ, All, false, IsTrue, List, [], Some}
use Rattle.cfb.specs.Views.{file_case_table, mini_of}
use Rattle.cfb_fat.specs.Tables.{IsJustifiedBySectors}
use Rattle.cfb_tree_edits.specs.LiveTreeRules.{IsFaultOrFull}
use Rattle.cfb_medium.specs.declared.error.Error.{Error}
use Rattle.cfb_medium.specs.declared.error.Error.TheVariants.{AlreadyExists, InvalidData, InvalidInput}
use Rattle.cfb_medium.specs.declared.medium.ReadMedium as medium
use Rattle.cfb_mini.specs.Views.{allocator_of}
use Rattle.installer.specs.SessionStates.{BegunCommit}
use Rattle.installer.specs.Refusals.{IsFreshFault, IsMalformed}
use Rattle.installer.specs.CrashSurvival.{SurvivesCrash}
use Rattle.msi.specs.Committing.{BytesKeepPackage}
use Rattle.msi.specs.Opened.{PackageHasContent, file_in, pool_in, sound_in, summary_in}
use Rattle.msi.specs.declared.package.Package.{Package}
use Rattle.msi_spec.specs.Package.{PackageContent}
use Rattle.msi_streams.specs.Parts.{IsTooLong}
use Rattle.msi_streams.specs.Writing.{most_bytes}
use Rattle.staged.specs.Log.{recovered}
use Rattle.staged.specs.Committed.{HasPublished}
use Rattle.staged.specs.declared.device.Device.{Ghosts}

-- why a package that is held isn't copied: it isn't sound; pool or summary are longer than can be written; or a fault
abbrev pub IsUncopied : {F : Type 0} {k : medium.Ghosts F} → Package F k → Error → Type 0
IsUncopied source e = ((e ≡ InvalidData) × (sound_in source ≡ false))
    ⊎ (((e ≡ InvalidInput) × IsTooLong (most_bytes (file_in source)) (pool_in source).pool (summary_in source).props) ⊎ IsFaultOrFull e)

-- THE COPY IS REFUSED: for a malformed log; for a home file that isn't empty once recovered; or since the package isn't copied. Where the error
-- names a device, that of the source failed, or this one, and the failure was counted; an earlier fault is the source's alone.
pub record IsCopyRefusal {F : Type 0} {k : medium.Ghosts F} (before after : Package F k) {D : Type 0} (g : Ghosts D) (old new : D) (e : Error) : Type 0 where
  pub kind : IsMalformed g old new e ⊎ (((e ≡ AlreadyExists) × ¬ (recovered (g.content old) ≡ Some [])) ⊎ IsUncopied before e)
  pub cause : IsJustifiedBySectors (allocator_of (mini_of (file_in before))) (allocator_of (mini_of (file_in after))) e ⊎ IsFreshFault g old new e

module _ {F : Type 0} {k : medium.Ghosts F} (source : Package F k) {D : Type 0} (g : Ghosts D) where
  -- bytes were published that hold all of the source's package but its texts, whatever these are; and the package, sound, where it can be written as
  -- it is
  abbrev pub IsPackageCopied : D → Type 0
  IsPackageCopied new = (P : PackageContent) → PackageHasContent source P → IsTrue (sound_in source) → (bytes : List ℕ) × HasPublished g new bytes × BytesKeepPackage (file_case_table (file_in source)) bytes P

  -- A PACKAGE WAS COPIED: the home file was empty once recovered, and now has the package of the source
  pub record CopiesOn (old new : D) : Type 0 where
    pub empty : recovered (g.content old) ≡ Some []
    pub copied : IsPackageCopied new

  -- what a recovery gives meanwhile and then: what it might have given before, or the package of the source
  abbrev pub CopySurvivesCrash : D → D → Type 0
  CopySurvivesCrash old new = (P : PackageContent) → PackageHasContent source P → IsTrue (sound_in source)
      → (marks : List BegunCommit) × All (λ (m : BegunCommit). m.held ≡ P) marks × SurvivesCrash (file_case_table (file_in source)) g old new marks
