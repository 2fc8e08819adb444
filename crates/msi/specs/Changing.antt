-- What a call that changes a package does.
use Rattle.std.specs.Prelude.{◌≡◌, ◌⊎◌, Bool, true, false, length, Err, IfErr, IsErrOf, IsTrue, Ok, OnErr, OnOk, Result, if◌then◌else◌}
use Rattle.cfb.specs.FollowedRules.{FileMeansTree}
use Rattle.cfb.specs.Putting.{IsPutStreamError}
use Rattle.cfb.specs.Views.{file_case_table, mini_of}
use Rattle.cfb_fat.specs.Tables.{has_failed}
use Rattle.cfb_tree_edits.specs.LiveTreeRules.{IsFaultOrFull}
use Rattle.cfb_tree_edits.specs.Removing.{IsRemoveObjectError}
use Rattle.cfb_medium.specs.Calls.{IsFaultOrInvalidInputIf}
use Rattle.cfb_medium.specs.declared.error.Error.{Error}
use Rattle.cfb_medium.specs.declared.error.Error.TheVariants.{Failed, Full, InvalidData, InvalidInput}
use Rattle.cfb_medium.specs.declared.medium.ReadMedium.{Ghosts}
use Rattle.cfb_mini.specs.Views.{allocator_of}
use Rattle.cfb_tree.specs.Tree.{Tree}
use Rattle.msi_spec.specs.Package.{PackageContent, TreePacksPackage, summary_name}
use Rattle.msi_spec.specs.Sound.{IsSoundPackage}
use Rattle.msi_pool.specs.PoolKept.{IsWritable}
use Rattle.msi_stored.specs.Changing.{PackageRule}
use Rattle.msi_props.specs.Props.{props_bytes}
use Rattle.msi_stored.specs.Room.{IsFullForName, IsFullForRule}
use Rattle.msi_streams.specs.Parts.{IsTooLong}
use Rattle.msi_streams.specs.Writing.{most_bytes}
use Rattle.msi_texts.specs.declared.codepage.CodePage.{CodePage}
use Rattle.msi.specs.Opened.{PackageHasContent, SummaryIsFit, file_in, pool_in, sound_in, summary_in}
use Rattle.msi.specs.declared.package.Package.{Package}

-- the package whose texts are written under another page
abbrev pub with_page : CodePage → PackageContent → PackageContent
with_page page P = record P { pool = record P.pool { page = page } }

-- whether a package may be changed
abbrev pub permission : Bool → Bool → Result (Unit {0}) Error
permission has_failed is_sound = if has_failed then Err Failed else (if is_sound then Ok tt else Err InvalidData)

-- it is always given
abbrev pub setting_page : CodePage → PackageRule
setting_page page P Q answer = (Q ≡ with_page page P) × (answer ≡ Ok tt)

-- which errors there are over any medium where rows or a stream are put: faults, and refusals by rule
abbrev pub IsChangeError : Error → Type 0
IsChangeError e = IsFaultOrInvalidInputIf ⊥ e ⊎ IsPutStreamError e

-- and where streams are removed
abbrev pub IsRemovalError : Error → Type 0
IsRemovalError e = IsFaultOrInvalidInputIf ⊥ e ⊎ IsRemoveObjectError e

-- pool and summary can be written, and are then read as they are
pub record PackageCanBeWritten (P : PackageContent) : Type 0 where
  pub pool : IsWritable P.pool
  pub summary : SummaryIsFit P.summary

module _ {F : Type 0} {g : Ghosts F} where
  -- every call is refused after a fault
  abbrev pub failed_in : Package F g → Bool
  failed_in it = has_failed (allocator_of (mini_of (file_in it)))

  -- each package that it held it holds still
  pub record KeepsHeld (old new : Package F g) : Type 0 where
    pub holds : (P : PackageContent) → PackageHasContent old P → PackageHasContent new P

  -- `Failed` after a fault; `InvalidData` where it isn't sound, and it is as it was. Of a sound package that is held the call does what
  -- the rule says, and the new one is held; or it is refused just as the rule refuses, and the package is held still; or there was a fault.
  -- After any error it has failed, or holds what it held.
  pub record PackageChanges (rule : PackageRule) (result : Result (Unit {0}) Error) (old new : Package F g) : Type 0 where
    pub failed : failed_in old ≡ true → IsErrOf result Failed
    pub unsound : failed_in old ≡ false → sound_in old ≡ false → IsErrOf result InvalidData × KeepsHeld old new
    pub done : OnOk result ((P : PackageContent) → PackageHasContent old P → (Q : PackageContent) × rule P Q (Ok tt) × PackageHasContent new Q)
    pub refused : IfErr result (λ e. (P : PackageContent) → PackageHasContent old P → IsTrue (sound_in old) → IsFaultOrFull e ⊎ (rule P P (Err e) × KeepsHeld old new))
    pub rests : OnErr result ((failed_in new ≡ true) ⊎ KeepsHeld old new)
    pub seen : (file_case_table (file_in new) ≡ file_case_table (file_in old)) × (sound_in new ≡ sound_in old)

  -- `Full` comes only where the file lacks room for the package that the rule gives, or the package has failed
  abbrev pub FullOnlyWithoutRoom : PackageRule → Result (Unit {0}) Error → Package F g → Package F g → Type 0
  FullOnlyWithoutRoom rule result old new = IsErrOf result Full → failed_in new ≡ false → (P : PackageContent) → PackageHasContent old P → IsTrue (sound_in old) → IsFullForRule rule (file_in old) P

  -- of a flush: `Full` comes only where the file lacks room for the summary that memory has, which is put before all else, or the package
  -- has failed
  abbrev pub SummaryFills : Result (Unit {0}) Error → Package F g → Package F g → Type 0
  SummaryFills result old new = IsErrOf result Full → failed_in new ≡ false → IsFullForName (file_in old) summary_name (length (props_bytes (summary_in old).props))

  -- it holds the package, and its file means a tree that packs it, which is sound so
  pub record PackageIsWritten (it : Package F g) (P : PackageContent) : Type 0 where
    pub holds : PackageHasContent it P
    pub tree : Tree
    pub means : FileMeansTree (file_in it) tree
    pub packs : TreePacksPackage (file_case_table (file_in it)) tree P
    pub sound : IsSoundPackage (file_case_table (file_in it)) tree P packs

  -- a fault; or a stream of memory's pool or summary is longer than one can be, or one of the two can't be written at all, and the package is
  -- held still
  abbrev pub IsUnsaved : Package F g → Package F g → Error → Type 0
  IsUnsaved old new e = IsFaultOrFull e ⊎ ((e ≡ InvalidInput) × IsTooLong (most_bytes (file_in old)) (pool_in old).pool (summary_in old).props × KeepsHeld old new)

  -- `Failed` after a fault. Where it isn't sound it is done, and nothing was touched. Each sound package that was held is held, and where
  -- it can be written it is packed by the file; what comes in between is a fault, or too long. After any error it has failed, or holds
  -- what it held.
  pub record PackageWrites (result : Result (Unit {0}) Error) (old new : Package F g) : Type 0 where
    pub failed : failed_in old ≡ true → IsErrOf result Failed
    pub unsound : failed_in old ≡ false → sound_in old ≡ false → (result ≡ Ok tt) × (new ≡ old)
    pub holds : OnOk result ((P : PackageContent) → PackageHasContent old P → IsTrue (sound_in old) → PackageHasContent new P)
    pub done : OnOk result ((P : PackageContent) → PackageHasContent old P → IsTrue (sound_in old) → PackageCanBeWritten P → PackageIsWritten new P)
    pub refused : IfErr result (λ e. (P : PackageContent) → PackageHasContent old P → IsTrue (sound_in old) → IsUnsaved old new e)
    pub rests : OnErr result ((failed_in new ≡ true) ⊎ KeepsHeld old new)
    pub seen : (file_case_table (file_in new) ≡ file_case_table (file_in old)) × (sound_in new ≡ sound_in old)
