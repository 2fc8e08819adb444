-- What a commit publishes of a package, and what a crash may leave of it.
use Rattle.std.specs.Prelude.{◌≡◌, ◌⊎◌, ℕ, false, true, IfErr, IsErrOf, IsTrue, List, Ok, OnErr, OnOk, Result, Some}
use Rattle.cfb.specs.Publishing.{medium_in}
use Rattle.cfb.specs.Views.{file_case_table, mini_of}
use Rattle.cfb_spec.specs.Means.{BytesMeanTree}
use Rattle.cfb_spec.specs.Sound.{IsSoundContainer}
use Rattle.cfb_medium.specs.Crashes.{CrashLeavesOnly}
use Rattle.cfb_medium.specs.declared.error.Error.{Error}
use Rattle.cfb_medium.specs.declared.error.Error.TheVariants.{Device, Failed}
use Rattle.cfb_medium.specs.declared.medium.ReadMedium.{Ghosts}
use Rattle.cfb_mini.specs.Views.{allocator_of}
use Rattle.cfb_chain_io.specs.ChainEffects.{KeepsFileInvariants}
use Rattle.cfb_tree.specs.Names.{CaseTable}
use Rattle.cfb_tree.specs.Tree.{Tree}
use Rattle.msi_spec.specs.Opening.{keeps_encoded_names}
use Rattle.msi_spec.specs.Package.{PackageContent, TreePacksPackage}
use Rattle.msi_spec.specs.Sound.{IsSoundPackage}
use Rattle.msi_spec.specs.Split.{TreeStoresRest}
use Rattle.msi.specs.Changing.{IsUnsaved, KeepsHeld, PackageCanBeWritten, PackageIsWritten, failed_in}
use Rattle.msi.specs.Opened.{PackageHasContent, file_in, sound_in}
use Rattle.msi.specs.declared.package.Package.{Package}

-- THE BYTES HOLD THIS SOUND PACKAGE: their container is sound, and the tree that it means packs the package, which is sound
pub record BytesHoldPackage (letters : CaseTable) (bytes : List ℕ) (P : PackageContent) : Type 0 where
  pub usable : keeps_encoded_names letters ≡ true
  pub container : IsSoundContainer letters bytes
  pub tree : Tree
  pub means : BytesMeanTree letters bytes tree
  pub packs : TreePacksPackage letters tree P
  pub sound : IsSoundPackage letters tree P packs

-- THE BYTES HOLD ALL OF THE PACKAGE BUT ITS TEXTS: their container is sound, and the tree that it means has the package's class, the rows of each
-- table, all streams and nested storages
pub record BytesHoldRest (letters : CaseTable) (bytes : List ℕ) (P : PackageContent) : Type 0 where
  pub usable : keeps_encoded_names letters ≡ true
  pub container : IsSoundContainer letters bytes
  pub tree : Tree
  pub means : BytesMeanTree letters bytes tree
  pub stores : TreeStoresRest letters tree P

-- so they keep a package that was committed, whatever its texts; and where it can be written as it is they hold it, sound
abbrev pub BytesKeepPackage : CaseTable → List ℕ → PackageContent → Type 0
BytesKeepPackage letters bytes P = BytesHoldRest letters bytes P × (PackageCanBeWritten P → BytesHoldPackage letters bytes P)

module _ {F : Type 0} {g : Ghosts F} where
  -- bytes that keep whichever sound package was held
  abbrev pub HoldWhatWasHeld : Package F g → List ℕ → Type 0
  HoldWhatWasHeld old bytes = (P : PackageContent) → PackageHasContent old P → IsTrue (sound_in old) → BytesKeepPackage (file_case_table (file_in old)) bytes P

  -- it holds the package, and bytes were published that keep it; where the package can be written the file means a tree that packs it
  pub record PackageIsPublished (has_published : F → List ℕ → Type 0) (it : Package F g) (P : PackageContent) : Type 0 where
    pub holds : PackageHasContent it P
    pub bytes : List ℕ
    pub published : has_published (medium_in (file_in it)) bytes
    pub found : BytesKeepPackage (file_case_table (file_in it)) bytes P
    pub written : PackageCanBeWritten P → PackageIsWritten it P

  -- `Failed` after a fault. Where it isn't sound it is done, and nothing was touched. Each sound package that was held is published; what
  -- comes in between is a fault, or too long. After `Ok` it has not failed; after any error it has failed, or holds what it held. An error
  -- is a fault of the medium in the midst of its own commit, by which it has failed, or nothing was published.
  pub record PackageCommits (has_published : F → List ℕ → Type 0) (result : Result (Unit {0}) Error) (old new : Package F g) : Type 0 where
    pub failed : failed_in old ≡ true → IsErrOf result Failed × (new ≡ old)
    pub unsound : failed_in old ≡ false → sound_in old ≡ false → (result ≡ Ok tt) × (new ≡ old)
    pub done : OnOk result ((P : PackageContent) → PackageHasContent old P → IsTrue (sound_in old) → PackageIsPublished has_published new P)
    pub live : OnOk result ((failed_in old ≡ false) × (failed_in new ≡ false))
    pub refused : IfErr result (λ e. (P : PackageContent) → PackageHasContent old P → IsTrue (sound_in old) → IsUnsaved old new e)
    pub rests : OnErr result ((failed_in new ≡ true) ⊎ KeepsHeld old new)
    pub quiet : IfErr result (λ e. ((g.failed (medium_in (file_in new)) ≡ true) × ((e ≡ Device) ⊎ (e ≡ Failed))) ⊎ KeepsFileInvariants (allocator_of (mini_of (file_in old))) (allocator_of (mini_of (file_in new))))
    pub seen : (file_case_table (file_in new) ≡ file_case_table (file_in old)) × (sound_in new ≡ sound_in old)

  -- a crash at a moment since the old state leaves what one might have left by then, or bytes that keep the package that was held
  abbrev pub CrashLeavesOldOrHeld : Package F g → Package F g → Type 0
  CrashLeavesOldOrHeld old new = CrashLeavesOnly g.moment g.crash_left_since (medium_in (file_in old)) (medium_in (file_in new))
      (λ left. g.crash_may_leave (medium_in (file_in old)) left ⊎ ((bytes : List ℕ) × (left ≡ Some bytes) × HoldWhatWasHeld old bytes))
