-- When a child is refused that the directory is to take in over this layer ([MS-CFB] 2.6.4).
use Rattle.std.specs.Prelude.{◌≡◌, ◌≢◌, ◌⊎◌, ℕ, Bool, List, None, IsTrue, slice_get, Some}
use Rattle.cfb_directory.specs.Children.{HoldsStorage}
use Rattle.cfb_directory.specs.Entries.{SizesFit}
use Rattle.cfb_directory.specs.Views.{entries_held}
use Rattle.cfb_fat.specs.Tables.{orderly_of, version_of}
use Rattle.cfb_medium.specs.Calls.{IsFaultOrInvalidInputIf}
use Rattle.cfb_medium.specs.declared.error.Error.{Error}
use Rattle.cfb_medium.specs.declared.error.Error.TheVariants.{AlreadyExists, Full, InvalidInput}
use Rattle.cfb_medium.specs.declared.medium.ReadMedium.{Ghosts}
use Rattle.cfb_siblings.specs.Places.{path_to}
use Rattle.cfb_tree.specs.Directory.{kind_root, Entry}
use Rattle.cfb_tree.specs.Names.{is_name, CaseTable}
use Rattle.cfb_tree.specs.Objects.{object_at}
use Rattle.cfb_tree.specs.Paths.{Path}
use Rattle.cfb_tree.specs.Tree.{Tree}
use Rattle.cfb_mini.specs.Changing.{HasUniqueOwners}
use Rattle.cfb_mini.specs.Views.{allocator_of, directory_of}
use Rattle.cfb_mini.specs.declared.mini_allocator.MiniAllocator.{MiniAllocator}

-- entry 0 is a root ([MS-CFB] 2.6.2)
pub record HasRoot (entries : List Entry) : Type 0 where
  pub root : Entry
  pub found : slice_get entries 0 ≡ Some root
  pub of_kind : root.kind ≡ kind_root

-- a fault; or the tree has an object at the child's path, the name is invalid, or numbers are missing
abbrev pub IsRefusedChild : CaseTable → Tree → Path → List ℕ → Error → Type 0
IsRefusedChild letters tree path name e =
    IsFaultOrInvalidInputIf ⊥ e ⊎ (e ≡ Full) ⊎ ((e ≡ AlreadyExists) × (object_at letters tree path ≢ None)) ⊎ ((e ≡ InvalidInput) × (IsTrue (is_name name) → ⊥))

module _ {F : Type 0} {g : Ghosts F} where
  -- the tables can be changed, and entries can be written as they are
  pub record CanEditDirectory (it : MiniAllocator F g) : Type 0 where
    pub orderly : IsTrue (orderly_of (allocator_of it))
    pub sizes : SizesFit (version_of (allocator_of it)) (entries_held (directory_of it))

  -- of a child of this name in the storage `parent`, told for each tree that the entries hold
  abbrev pub RefusesChild : CaseTable → MiniAllocator F g → ℕ → List ℕ → Error → Type 0
  RefusesChild letters it parent name e = (reads : ℕ → ℕ → List ℕ → Bool) (tree : Tree) (path : Path) (own : ℕ → List ℕ) → HoldsStorage letters reads (entries_held (directory_of it)) tree path parent
      → HasUniqueOwners it own → CanEditDirectory it → IsRefusedChild letters tree (path_to path name) name e
