-- Which rules of a sound package bytes break.
use Rattle.std.specs.Prelude.{◌≡◌, ◌↔◌, ℕ, false, true, Bool, List, [], Contains, IsTrue}
use Rattle.cfb.specs.Streams.{FileHoldsTree}
use Rattle.cfb.specs.Views.{file_case_table, mini_of, sound_of, OnlyReadsFile}
use Rattle.cfb.specs.declared.compound_file.CompoundFile.{CompoundFile}
use Rattle.cfb_fat.specs.Tables.{medium_of}
use Rattle.cfb_spec.specs.Means.{IsOpenable, BytesMeanTree}
use Rattle.cfb_spec.specs.Sound.{IsSoundContainer}
use Rattle.cfb_medium.specs.declared.medium.ReadMedium.{Ghosts}
use Rattle.cfb_mini.specs.Views.{allocator_of}
use Rattle.cfb_tree.specs.Names.{CaseTable}
use Rattle.cfb_tree.specs.Tree.{Tree}
use Rattle.msi_soundness.specs.Defects.{AreDefects}
use Rattle.msi_soundness.specs.declared.defect.Defect.{Defect}
use Rattle.msi_soundness.specs.declared.defect.Defect.TheVariants.{Container}
use Rattle.msi_spec.specs.Opening.{keeps_encoded_names}
use Rattle.msi_parts.specs.Held.{ArePartsOfTree}
use Rattle.msi_parts.specs.Parts.{IsSoundIn}
use Rattle.msi_parts.specs.declared.parts.PackageParts.{PackageParts}
use Rattle.msi_stored.specs.Shown.{StoreShowsTree, ShowsTree}

-- THE DEFECTS OF A PACKAGE: the bytes can be opened under a case table that leaves encoded names alone; its parts are those of each tree that
-- they show, and of the tree that they mean a rule is listed exactly where it isn't kept.
pub record HasDefects (letters : CaseTable) (bytes : List ℕ) (found : List Defect) : Type 0 where
  pub usable : keeps_encoded_names letters ≡ true
  pub openable : IsOpenable letters bytes
  pub parts : PackageParts
  pub shown : (tree : Tree) → ShowsTree letters bytes tree → ArePartsOfTree letters tree parts
  pub container : Bool
  pub judged : IsTrue container ↔ IsSoundContainer letters bytes
  pub listed : (tree : Tree) → BytesMeanTree letters bytes tree → AreDefects letters tree container parts found

-- ---- on the way to them

module _ {F : Type 0} {g : Ghosts F} where
  -- the same of a file that was opened
  pub record IsChecked (file : CompoundFile F g) (found : List Defect) : Type 0 where
    pub parts : PackageParts
    pub shown : (tree : Tree) → StoreShowsTree file tree → keeps_encoded_names (file_case_table file) ≡ true → ArePartsOfTree (file_case_table file) tree parts
    pub listed : (tree : Tree) → FileHoldsTree file tree → AreDefects (file_case_table file) tree (sound_of file) parts found
    pub none : (tree : Tree) → FileHoldsTree file tree → keeps_encoded_names (file_case_table file) ≡ true → (found ≡ []) ↔ IsSoundIn (file_case_table file) tree (sound_of file)
    pub unsound : sound_of file ≡ false → Contains found Container

  -- the medium of the file, which was only read
  pub record IsMediumOf (file : CompoundFile F g) (medium : F) : Type 0 where
    pub new : CompoundFile F g
    pub rests : OnlyReadsFile file new
    pub medium_is : medium ≡ medium_of (allocator_of (mini_of new))
