-- A package that was made over a medium.
use Rattle.std.specs.Prelude.{◌≡◌, ◌⊎◌, ℕ, ◌≤◌, false, length, true, IsTrue}
use Rattle.cfb.specs.Views.{file_case_table, mini_of}
use Rattle.cfb_fat.specs.Tables.{has_failed_here, is_honest, medium_of}
use Rattle.cfb_medium.specs.Calls.{Reaches}
use Rattle.cfb_tree_edits.specs.LiveTreeRules.{IsFaultOrFull}
use Rattle.cfb_medium.specs.declared.error.Error.{Error}
use Rattle.cfb_medium.specs.declared.error.Error.TheVariants.{InvalidInput}
use Rattle.cfb_medium.specs.declared.medium.ReadMedium.{Ghosts}
use Rattle.cfb_mini.specs.Views.{allocator_of}
use Rattle.cfb_tree.specs.Names.{CaseTable}
use Rattle.file_device.specs.FileMedium.{medium_failures}
use Rattle.file_device.specs.declared.medium.FileMedium.{FileMedium}
use Rattle.msi_spec.specs.Calls.{IsNew}
use Rattle.msi_spec.specs.Opening.{keeps_encoded_names}
use Rattle.msi_spec.specs.Package.{PackageContent}
use Rattle.msi_spec.specs.declared.kind.PackageType.{PackageType}
use Rattle.msi.specs.Changing.{PackageCanBeWritten}
use Rattle.msi.specs.Opened.{file_in, kind_in, sound_in, PackageHasContent}
use Rattle.msi.specs.declared.package.Package.{Package}

-- the bytes of a new container of version 4
abbrev pub new_file_len : ℕ
new_file_len = 12288

-- why none is made over an honest medium without more bytes than a new container has: by this case table, or a fault
abbrev pub IsNewRefusal : CaseTable → Error → Type 0
IsNewRefusal letters e = ((e ≡ InvalidInput) × (keeps_encoded_names letters ≡ false)) ⊎ IsFaultOrFull e

module _ {F : Type 0} {g : Ghosts F} where
  -- A NEW PACKAGE, which is sound and has not failed; nothing was published. Over an honest medium that held no more bytes than a new container has, it
  -- is the new package of the kind that is held, which can be written as it is.
  pub record IsCreatedPackage (letters : CaseTable) (kind : PackageType) (medium : F) (it : Package F g) : Type 0 where
    pub compared : file_case_table (file_in it) ≡ letters
    pub of_kind : kind_in it ≡ kind
    pub sound : sound_in it ≡ true
    pub live : has_failed_here (allocator_of (mini_of (file_in it))) ≡ false
    pub honest : is_honest (allocator_of (mini_of (file_in it))) ≡ g.honest medium
    pub continues : Reaches g.continues medium (medium_of (allocator_of (mini_of (file_in it))))
    pub holds : IsTrue (g.honest medium) → length (g.bytes medium) ≤ new_file_len → (P : PackageContent) × IsNew kind P × PackageCanBeWritten P × PackageHasContent it P

-- it was made over a file on disk, of which no call had failed
abbrev pub IsPackageMadeOnDisk : {g : Ghosts FileMedium} → CaseTable → PackageType → Package FileMedium g → Type 0
IsPackageMadeOnDisk letters kind it = (medium : FileMedium) × (medium_failures medium ≡ 0) × IsCreatedPackage letters kind medium it
