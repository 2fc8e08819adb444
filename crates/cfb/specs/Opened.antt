-- What opening a file tells ([MS-CFB] 2).
use Rattle.std.specs.Prelude.{ℕ, List, IsTrue, ◌↔◌}
use Rattle.cfb_spec.specs.Means.{Layout}
use Rattle.cfb_spec.specs.Sound.{IsSoundContainer}
use Rattle.cfb_medium.specs.declared.medium.ReadMedium.{Ghosts}
use Rattle.cfb_opening.specs.Opened.{IsOpened}
use Rattle.cfb_sectors.specs.declared.validation.Validation.{Validation}
use Rattle.cfb_tree.specs.Names.{CaseTable}
use Rattle.cfb_tree.specs.Tree.{Tree}
use Rattle.cfb.specs.FollowedRules.{FileMeansTree}
use Rattle.cfb.specs.Views.{mini_of, sound_of, FileShowsTree}
use Rattle.cfb.specs.declared.compound_file.CompoundFile.{CompoundFile}

module _ {F : Type 0} {g : Ghosts F} where
  -- The file of these bytes was opened: they mean a tree, of which the sizes of streams alone are known, and the file shows it;
  -- it was judged whether they are sound, and then the file means a tree.
  pub record IsOpenedAs (validation : Validation) (letters : CaseTable) (bytes : List ℕ) (it : CompoundFile F g) : Type 0 where
    pub layout : Layout
    pub tree : Tree
    pub opened : IsOpened validation letters bytes (mini_of it) layout tree
    pub shown : FileShowsTree it tree
    pub sound : IsTrue (sound_of it) ↔ IsSoundContainer letters bytes
    pub means : IsTrue (sound_of it) → (meant : Tree) × FileMeansTree it meant
