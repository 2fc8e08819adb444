-- Storages that are made at a path and at those above it ([MS-CFB] 2.6.2).
use Rattle.std.specs.Prelude.{◌≡◌, ℕ, List, [], ◌∷◌, drop, slice_get, take, IsTrue, None, Some}
use Rattle.std.specs.List.{AllByRecursion}
use Rattle.cfb_medium.specs.declared.medium.ReadMedium.{Ghosts}
use Rattle.cfb_spec.specs.TreeRules.{done, tree_step, with_storages}
use Rattle.cfb_mini.specs.declared.mini_allocator.MiniAllocator.{MiniAllocator}
use Rattle.cfb_directory.specs.Views.{entries_held}
use Rattle.cfb_mini.specs.Views.{directory_of}
use Rattle.cfb_siblings.specs.Places.{path_to, IsStorageAt, LeadsTo}
use Rattle.cfb_tree.specs.Directory.{Entry}
use Rattle.cfb_tree.specs.Names.{is_name, CaseTable}
use Rattle.cfb_tree.specs.Objects.{object_at}
use Rattle.cfb_tree.specs.Paths.{Path}
use Rattle.cfb_tree.specs.Tree.{Tree}
use Rattle.cfb_tree_edits.specs.WholeRemoval.{HasStorage}
use Rattle.cfb_ownership.specs.Owners.{Owners}
use Rattle.cfb_tree_edits.specs.Live.{LiveFileMeansTree}
use Rattle.cfb_tree_edits.specs.Orphans.{FileBecomesTree, StaysTidy}
use Rattle.cfb_tree_edits.specs.Making.{kind_made, making}
use Rattle.cfb_tree_edits.specs.declared.making.NewObject.{NewObject}

-- these may all be names
abbrev pub AreNames : Path → Type 0
AreNames path = AllByRecursion (λ name. IsTrue (is_name name)) path

-- storages were made at the moment as far as so many names lead, so that the tree became this one; none is there at the next name,
-- and all further names are valid
pub record IsMadeAsFar (letters : CaseTable) (moment : ℕ) (tree : Tree) (path : Path) (count : ℕ) (now : Tree) : Type 0 where
  pub so_far : with_storages letters moment [] (take count path) (tree, done) ≡ (now, done)
  pub storage : HasStorage letters now (take count path)
  pub free : (name : List ℕ) (rest : Path) → drop count path ≡ name ∷ rest → object_at letters now (path_to (take count path) name) ≡ None
  pub valid : AreNames (drop count path)

module _ {F : Type 0} {g : Ghosts F} where
  -- the rules make the object at the path, and the file comes to mean the tree that they give
  pub record MakesAt (letters : CaseTable) (path : Path) (object : NewObject) (tree : Tree) (old new : MiniAllocator F g) (who : Owners) : Type 0 where
    pub accepted : (tree_step letters tree (making object path)).1 ≡ done
    pub comes : FileBecomesTree letters old new who (tree_step letters tree (making object path)).0

  -- so it does, and the path leads to entry `id`, which is of the object's kind
  pub record MakesChild (letters : CaseTable) (path : Path) (object : NewObject) (tree : Tree) (old new : MiniAllocator F g) (who : Owners) (id : ℕ) : Type 0 where
    pub makes : MakesAt letters path object tree old new who
    pub leads : LeadsTo letters (entries_held (directory_of new)) 0 path id
    pub entry : Entry
    pub found : slice_get (entries_held (directory_of new)) id ≡ Some entry
    pub of_kind : entry.kind ≡ kind_made object

  -- the file means a tree in which the storages are made as far, and the last of them is entry `id`
  pub record MeansAsFar (letters : CaseTable) (moment : ℕ) (tree : Tree) (path : Path) (count : ℕ) (id : ℕ) (new : MiniAllocator F g) : Type 0 where
    pub now : Tree
    pub far : IsMadeAsFar letters moment tree path count now
    pub means : LiveFileMeansTree letters new now
    pub storage : IsStorageAt letters (entries_held (directory_of new)) (take count path) id

  -- so it does after a call, which left no more strays
  pub record ComesAsFar (letters : CaseTable) (moment : ℕ) (tree : Tree) (path : Path) (count : ℕ) (old new : MiniAllocator F g) (who : Owners) : Type 0 where
    pub last : ℕ
    pub far : MeansAsFar letters moment tree path count last new
    pub strays : StaysTidy old new who far.means.who
