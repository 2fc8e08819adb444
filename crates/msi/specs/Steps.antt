-- What is found in a file that was opened, on the way to its package: steps of private functions.
use Rattle.std.specs.Prelude.{◌≡◌, ◌⊎◌, ◌↔◌, false, true, Bool, Err, IfErr, IsTrue, OnErr, OnOk, Result}
use Rattle.cfb.specs.Streams.{FileHoldsTree}
use Rattle.cfb.specs.Views.{file_case_table, mini_of, sound_of}
use Rattle.cfb.specs.Views as read
use Rattle.cfb.specs.declared.compound_file.CompoundFile.{CompoundFile}
use Rattle.cfb_fat.specs.Tables.{has_failed_here, IsJustifiedBySectors, medium_of}
use Rattle.cfb_medium.specs.declared.error.Error.{Error}
use Rattle.cfb_medium.specs.declared.medium.ReadMedium.{Ghosts}
use Rattle.cfb_mini.specs.Views.{allocator_of}
use Rattle.cfb_tree.specs.Tree.{Tree}
use Rattle.msi_spec.specs.Opening.{keeps_encoded_names, opened}
use Rattle.msi_spec.specs.Package.{PackageContent}
use Rattle.msi_parts.specs.Parts.{AreParts, IsSoundIn}
use Rattle.msi_stored.specs.Shown.{StoreShowsTree, IsLostPart, bytes_in}
use Rattle.msi.specs.Changing.{IsUnsaved, KeepsHeld, PackageCanBeWritten, PackageIsWritten, failed_in}
use Rattle.msi.specs.Opened.{PackageHasContent, file_in, kind_in, pool_in, sound_in, summary_in, tables_in}
use Rattle.msi.specs.declared.package.Package.{Package}

module _ {F : Type 0} {g : Ghosts F} where
  -- the package of the file, which was only read
  pub record IsPackageOfFile (file : CompoundFile F g) (it : Package F g) : Type 0 where
    pub rests : read.OnlyReadsFile file (file_in it)
    pub parts : (tree : Tree) → StoreShowsTree file tree → keeps_encoded_names (file_case_table file) ≡ true
        → (gives_back : Bool) × AreParts (file_case_table file) tree (kind_in it) (summary_in it) (pool_in it).pool gives_back (tables_in it)
    pub judged : (tree : Tree) → FileHoldsTree file tree → keeps_encoded_names (file_case_table file) ≡ true → IsTrue (sound_in it) ↔ IsSoundIn (file_case_table file) tree (sound_of file)
    pub unsound : sound_of file ≡ false → sound_in it ≡ false

  -- the medium of the file, which was only read, with the refusal of each tree that it shows
  pub record MediumGivenBack (file : CompoundFile F g) (medium : F) (e : Error) : Type 0 where
    pub new : CompoundFile F g
    pub rests : read.OnlyReadsFile file new
    pub medium_is : medium ≡ medium_of (allocator_of (mini_of new))
    pub cause : IsJustifiedBySectors (allocator_of (mini_of file)) (allocator_of (mini_of new)) e
    pub told : (tree : Tree) → StoreShowsTree file tree → keeps_encoded_names (file_case_table file) ≡ true → IsLostPart (file_case_table file) (bytes_in file) e ⊎ (opened (file_case_table file) tree ≡ Err e)

  -- pool and summary were written to their streams, whether or not memory was ahead of these
  pub record SavesMemory (result : Result (Unit {0}) Error) (old new : Package F g) : Type 0 where
    pub done : OnOk result ((P : PackageContent) → PackageHasContent old P → IsTrue (sound_in old) → PackageCanBeWritten P → PackageIsWritten new P)
    pub holds : OnOk result ((P : PackageContent) → PackageHasContent old P → IsTrue (sound_in old) → PackageHasContent new P)
    pub live : OnOk result ((has_failed_here (allocator_of (mini_of (file_in old))) ≡ false) × (has_failed_here (allocator_of (mini_of (file_in new))) ≡ false))
    pub refused : IfErr result (λ e. (P : PackageContent) → PackageHasContent old P → IsTrue (sound_in old) → IsUnsaved old new e)
    pub rests : OnErr result ((failed_in new ≡ true) ⊎ (IsTrue (sound_in old) → KeepsHeld old new))
    pub seen : (file_case_table (file_in new) ≡ file_case_table (file_in old)) × (sound_in new ≡ sound_in old)
