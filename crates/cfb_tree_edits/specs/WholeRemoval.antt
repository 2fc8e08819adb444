-- Storages that lose what they hold, one object after the other ([MS-CFB] 2.6.4).
use Rattle.std.specs.Prelude.{◌≡◌, ℕ, List, [], ◌∷◌, ◌++◌, length, slice_get, Some}
use Rattle.cfb_medium.specs.declared.medium.ReadMedium.{Ghosts}
use Rattle.cfb_mini.specs.declared.mini_allocator.MiniAllocator.{MiniAllocator}
use Rattle.cfb_siblings.specs.Places.{path_to, IsOwner, IsStorageAt, NameIsTaken, LeadsBy, LeadsTo}
use Rattle.cfb_siblings.specs.declared.links.Link.{Link}
use Rattle.cfb_siblings.specs.declared.links.Link.TheVariants.{Child}
use Rattle.cfb_tree.specs.Changes.{removed}
use Rattle.cfb_tree.specs.Directory.{kind_stream, no_entry, Entry}
use Rattle.cfb_tree.specs.Names.{CaseTable}
use Rattle.cfb_tree.specs.Objects.{a_storage, object_at, Object}
use Rattle.cfb_tree.specs.Paths.{Path}
use Rattle.cfb_tree.specs.Tree.{nothing, Content, Facts, Tree}
use Rattle.cfb_ownership.specs.Owners.{Owners}
use Rattle.cfb_tree_edits.specs.Orphans.{FileBecomesTree}

-- the link leads to entry `id`, the child of this name of the storage at a path, and it holds nothing: it is a stream, or has no child
pub record IsLeafAt (letters : CaseTable) (entries : List Entry) (path : Path) (name : List ℕ) (link : Link) (id : ℕ) : Type 0 where
  pub parent : ℕ
  pub storage : IsStorageAt letters entries path parent
  pub taken : NameIsTaken letters entries parent name link id
  pub leads : LeadsTo letters entries 0 (path_to path name) id
  pub empty : (e : Entry) → slice_get entries id ≡ Some e → (e.kind ≡ kind_stream → ⊥) → e.child ≡ no_entry

-- the way from the root goes over entries that the path leads by, and on to storage `top`: `above` are the storages from the one at
-- the path to the one that has `top`
pub record IsWayTo (letters : CaseTable) (entries : List Entry) (path : Path) (above : List ℕ) (top : ℕ) : Type 0 where
  pub more : Path
  pub front : List ℕ
  pub ids : List ℕ
  pub leads : LeadsBy letters entries 0 (path ++ more) ids
  pub whole : 0 ∷ ids ≡ front ++ (above ++ top ∷ [])
  pub size : length front ≡ length path
  pub owner : IsOwner entries top

-- so it does, and an object that holds nothing hangs at the link of that storage to its children
pub record IsLeafOnWay (letters : CaseTable) (entries : List Entry) (path : Path) (above : List ℕ) (top id : ℕ) : Type 0 where
  pub way : IsWayTo letters entries path above top
  pub name : List ℕ
  pub leaf : IsLeafAt letters entries (path ++ way.more) name (Child top) id
  pub apart : top ≡ id → ⊥

-- the way to the storage at the path goes over the same entries still, and what was a storage is one, but for `id`
pub record KeepsWay (letters : CaseTable) (old new : List Entry) (path : Path) (id : ℕ) : Type 0 where
  pub by : (ids : List ℕ) → LeadsBy letters old 0 path ids → LeadsBy letters new 0 path ids
  pub owner : (k : ℕ) → (k ≡ id → ⊥) → IsOwner old k → IsOwner new k

-- a storage is at the path
pub record HasStorage (letters : CaseTable) (tree : Tree) (path : Path) : Type 0 where
  pub name : List ℕ
  pub facts : Facts
  pub inside : Content
  pub at_path : object_at letters tree path ≡ Some (a_storage name facts inside)

-- one that holds nothing
pub record HasEmptyStorage (letters : CaseTable) (tree : Tree) (path : Path) : Type 0 where
  pub name : List ℕ
  pub facts : Facts
  pub at_path : object_at letters tree path ≡ Some (a_storage name facts nothing)

-- the later tree is the one without an object below the path
pub record LosesBelow (letters : CaseTable) (path : Path) (tree later : Tree) : Type 0 where
  pub more : Path
  pub name : List ℕ
  pub object : Object
  pub there : object_at letters tree (path_to (path ++ more) name) ≡ Some object
  pub is : later ≡ removed letters (path_to (path ++ more) name) tree

module _ {F : Type 0} {g : Ghosts F} where
  -- the file comes to mean the tree without an object below the path
  pub record TakesBelow (letters : CaseTable) (path : Path) (tree : Tree) (old new : MiniAllocator F g) (who : Owners) : Type 0 where
    pub later : Tree
    pub loses : LosesBelow letters path tree later
    pub comes : FileBecomesTree letters old new who later

  -- the file comes to mean a tree in which the storage at the path holds nothing, and which is the same without it
  pub record Empties (letters : CaseTable) (path : Path) (tree : Tree) (old new : MiniAllocator F g) (who : Owners) : Type 0 where
    pub later : Tree
    pub empty : HasEmptyStorage letters later path
    pub others : removed letters path later ≡ removed letters path tree
    pub comes : FileBecomesTree letters old new who later
