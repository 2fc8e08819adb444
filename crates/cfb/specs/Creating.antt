-- A file that was made over a medium ([MS-CFB] 2).
use Rattle.std.specs.Prelude.{◌≡◌, ◌⊎◌, ℕ, ◌*◌, ◌≤◌, false, length, Bool, List, IsTrue}
use Rattle.cfb_creating.specs.NewFile.{empty_tree, new_file}
use Rattle.cfb_fat.specs.Tables.{bytes_of, has_failed_here, is_honest, medium_of, version_of}
use Rattle.cfb_medium.specs.Bytes.{overwritten}
use Rattle.cfb_medium.specs.Calls.{Reaches, IsFaultOrInvalidInputIf}
use Rattle.cfb_medium.specs.Versions.{sector_len}
use Rattle.cfb_medium.specs.declared.error.Error.{Error}
use Rattle.cfb_medium.specs.declared.error.Error.TheVariants.{InvalidData}
use Rattle.cfb_medium.specs.declared.medium.ReadMedium.{Ghosts}
use Rattle.cfb_medium.specs.declared.version.Version.{Version}
use Rattle.cfb_mini.specs.Views.{allocator_of}
use Rattle.cfb_tree.specs.Names.{CaseTable}
use Rattle.cfb.specs.FollowedRules.{FileMeansTree}
use Rattle.cfb.specs.Streams.{FileHoldsTree}
use Rattle.cfb.specs.Views.{file_case_table, mini_of}
use Rattle.cfb.specs.declared.compound_file.CompoundFile.{CompoundFile}

-- no file of this version was made: the medium, given back, holds what it held, or a new file over that. Nothing was published
pub record LeavesNew {M : Type 0} (honest : M → Bool) (bytes : M → List ℕ) (continues : M → M → Type 0) (version : Version) (old left : M) : Type 0 where
  pub as_honest : honest left ≡ honest old
  pub extends : Reaches continues old left
  pub either : IsTrue (honest old) → (bytes left ≡ bytes old) ⊎ (bytes left ≡ overwritten (bytes old) 0 (new_file version))

-- a fault; or the medium doesn't give back what was written
abbrev pub IsCreateFileError : {M : Type 0} → (M → Bool) → M → Error → Type 0
IsCreateFileError {M} honest medium e = IsFaultOrInvalidInputIf ⊥ e ⊎ ((e ≡ InvalidData) × (IsTrue (honest medium) → ⊥))

module _ {F : Type 0} {g : Ghosts F} where
  -- A NEW FILE over what the medium held: it holds the empty tree, and where the medium held no more bytes than a new file has, it
  -- means that tree. It has not failed, and nothing was published.
  pub record IsCreated (version : Version) (letters : CaseTable) (medium : F) (it : CompoundFile F g) : Type 0 where
    pub of_version : IsTrue (g.honest medium) → version_of (allocator_of (mini_of it)) ≡ version
    pub compared : file_case_table it ≡ letters
    pub live : has_failed_here (allocator_of (mini_of it)) ≡ false
    pub honest : is_honest (allocator_of (mini_of it)) ≡ g.honest medium
    pub continues : Reaches g.continues medium (medium_of (allocator_of (mini_of it)))
    pub bytes : IsTrue (g.honest medium) → bytes_of (allocator_of (mini_of it)) ≡ overwritten (g.bytes medium) 0 (new_file version)
    pub holds : IsTrue (g.honest medium) → FileHoldsTree it empty_tree
    pub means : IsTrue (g.honest medium) → length (g.bytes medium) ≤ 3 * sector_len version → FileMeansTree it empty_tree
