-- What is told of a package that is let go, and of one that is copied.
use Rattle.std.specs.Prelude.{◌≡◌, ◌⊎◌, ℕ, false, true, IfErr, IsErrOf, IsTrue, List, OnErr, OnOk, Result}
use Rattle.cfb.specs.Publishing.{medium_in}
use Rattle.cfb.specs.Views.{file_case_table, mini_of}
use Rattle.cfb_copying.specs.Copied.{HoldsCopy}
use Rattle.cfb_fat.specs.Tables.{IsJustifiedBySectors, version_of}
use Rattle.cfb_medium.specs.declared.error.Error.{Error}
use Rattle.cfb_medium.specs.declared.error.Error.TheVariants.{Failed, InvalidData}
use Rattle.cfb_medium.specs.declared.medium.ReadMedium.{Ghosts}
use Rattle.cfb_medium.specs.declared.version.Version.{Version}
use Rattle.cfb_mini.specs.Views.{allocator_of}
use Rattle.cfb_chain_io.specs.ChainEffects.{KeepsFileInvariants}
use Rattle.cfb_tree.specs.Names.{CaseTable}
use Rattle.cfb_tree.specs.Tree.{Tree}
use Rattle.msi_spec.specs.Package.{PackageContent}
use Rattle.msi.specs.Changing.{IsUnsaved, KeepsHeld, PackageCanBeWritten, PackageIsWritten, PackageWrites, failed_in}
use Rattle.msi.specs.Committing.{BytesHoldPackage, BytesHoldRest}
use Rattle.msi.specs.Opened.{PackageHasContent, file_in, sound_in}
use Rattle.msi.specs.declared.package.Package.{Package}

-- THE BYTES HOLD A COPY OF THE PACKAGE, which is sound: a sound file of this version, of which no sector serves no use
pub record HoldsPackageCopy (version : Version) (letters : CaseTable) (bytes : List ℕ) (P : PackageContent) : Type 0 where
  pub tree : Tree
  pub copy : HoldsCopy version letters bytes tree
  pub holds : BytesHoldPackage letters bytes P

module _ {F : Type 0} {g : Ghosts F} where
  -- the medium is that of the package as a flush with this result has left it
  pub record GivesMedium (result : Result (Unit {0}) Error) (old : Package F g) (medium : F) : Type 0 where
    pub new : Package F g
    pub writes : PackageWrites result old new
    pub goes_on : KeepsFileInvariants (allocator_of (mini_of (file_in old))) (allocator_of (mini_of (file_in new)))
    pub cause : IfErr result (IsJustifiedBySectors (allocator_of (mini_of (file_in old))) (allocator_of (mini_of (file_in new))))
    pub medium_is : medium ≡ medium_in (file_in new)

  -- `Failed` after a fault, `InvalidData` where it isn't sound, and it is as it was. Each sound package that was held is held. Where the target is
  -- honest the copy holds all of it but its texts, whatever these are; where it can be written it is packed by its file, and copied whole.
  -- What comes in between is a fault, or too long. After any error it has failed, or holds what it held.
  pub record PackageCopies (honest : Type 0) (bytes : List ℕ) (result : Result (Unit {0}) Error) (old new : Package F g) : Type 0 where
    pub failed : failed_in old ≡ true → IsErrOf result Failed × (new ≡ old)
    pub unsound : failed_in old ≡ false → sound_in old ≡ false → IsErrOf result InvalidData × (new ≡ old)
    pub holds : OnOk result ((P : PackageContent) → PackageHasContent old P → IsTrue (sound_in old) → PackageHasContent new P)
    pub beside : OnOk result ((P : PackageContent) → PackageHasContent old P → IsTrue (sound_in old) → honest → BytesHoldRest (file_case_table (file_in old)) bytes P)
    pub done : OnOk result ((P : PackageContent) → PackageHasContent old P → IsTrue (sound_in old) → PackageCanBeWritten P
        → PackageIsWritten new P × (honest → HoldsPackageCopy (version_of (allocator_of (mini_of (file_in old)))) (file_case_table (file_in old)) bytes P))
    pub refused : IfErr result (λ e. (P : PackageContent) → PackageHasContent old P → IsTrue (sound_in old) → IsUnsaved old new e)
    pub rests : OnErr result ((failed_in new ≡ true) ⊎ KeepsHeld old new)
    pub seen : (file_case_table (file_in new) ≡ file_case_table (file_in old)) × (sound_in new ≡ sound_in old)
