-- A file whose bytes are published.
use Rattle.std.specs.Prelude.{◌≡◌, ℕ, false, List, IsTrue}
use Rattle.cfb_fat.specs.Tables.{bytes_of, has_failed_here, is_honest, medium_of}
use Rattle.cfb_medium.specs.declared.medium.ReadMedium.{Ghosts}
use Rattle.cfb_mini.specs.Views.{allocator_of}
use Rattle.cfb_tree.specs.Tree.{Tree}
use Rattle.cfb.specs.FollowedRules.{FileMeansTree}
use Rattle.cfb.specs.Streams.{FileHoldsTree}
use Rattle.cfb.specs.Views.{mini_of, OnlyReadsFile, FileShowsTree}
use Rattle.cfb.specs.declared.compound_file.CompoundFile.{CompoundFile}

module _ {F : Type 0} {g : Ghosts F} where
  -- the medium
  abbrev pub medium_in : CompoundFile F g → F
  medium_in it = medium_of (allocator_of (mini_of it))

  -- no call of the medium was made, and all is as it was
  pub record IsUntouched (old new : CompoundFile F g) : Type 0 where
    pub medium : medium_in new ≡ medium_in old
    pub rests : OnlyReadsFile old new

  -- The bytes are published, so that a crash leaves these alone. The file has them yet, is live, and means, holds and shows the
  -- trees that it did.
  pub record Publishes (has_published : F → List ℕ → Type 0) (old new : CompoundFile F g) : Type 0 where
    pub published : IsTrue (is_honest (allocator_of (mini_of old))) → has_published (medium_in new) (bytes_of (allocator_of (mini_of old)))
    pub bytes : IsTrue (is_honest (allocator_of (mini_of old))) → bytes_of (allocator_of (mini_of new)) ≡ bytes_of (allocator_of (mini_of old))
    pub live : has_failed_here (allocator_of (mini_of new)) ≡ false
    pub means : (tree : Tree) → FileMeansTree old tree → FileMeansTree new tree
    pub holds : (tree : Tree) → FileHoldsTree old tree → FileHoldsTree new tree
    pub shows : (tree : Tree) → FileShowsTree old tree → FileShowsTree new tree
