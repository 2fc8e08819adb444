-- Which objects of a tree a walk shows, and in which order.
use Rattle.std.specs.Prelude.{◌≡◌, ◌≢◌, ℕ, ◌<◌, true, List, [], ◌∷◌, ◌++◌, length, slice_index_or, Some, ◌⊎◌}
use Rattle.std.specs.Cmp.Lexicographic.{slice_cmp}
use Rattle.std.specs.List.{All, AllPairs, Contains}
use Rattle.std.specs.List.Sorted.{IsStrictlySortedBy}
use Rattle.std.specs.Ordering.{on}
use Rattle.std.specs.declared.cmp.Ordering.{Ordering}
use Rattle.std.specs.declared.cmp.Ordering.TheVariants.{Less, Equal}
use Rattle.cfb_spec.specs.TreeRules.{entries, ShownObject, shown, tree_step, walk, walk_storage}
use Rattle.cfb_tree.specs.Names.{CaseTable, name_cmp}
use Rattle.cfb_tree.specs.Objects.{Object, object_at}
use Rattle.cfb_tree.specs.Paths.{Path}
use Rattle.cfb_tree.specs.Tree.{Tree}

-- what a walk answers: over the whole tree, or over the storage at a path
abbrev pub IsWalk : CaseTable → Tree → List ShownObject → Type 0
IsWalk letters tree all =
    ((tree_step letters tree walk).1 ≡ entries all) ⊎ ((path : Path) × ((tree_step letters tree (walk_storage path)).1 ≡ entries all))

-- paths are compared name by name, and one that ends comes before one that leads on
abbrev pub path_cmp : CaseTable → Path → Path → Ordering
path_cmp letters = slice_cmp (name_cmp letters)

-- a storage, and an object whose path is the storage's with its own name behind
pub record IsParentOf (parent child : ShownObject) : Type 0 where
  pub is_storage : parent.is_storage ≡ true
  pub path_is : child.path ≡ parent.path ++ child.name ∷ []

-- no two have one path
abbrev pub AreShownOnce : List ShownObject → Type 0
AreShownOnce all = AllPairs (λ a b. a.path ≢ b.path) all

-- each but the first comes after its parent
abbrev pub HaveParentsBefore : List ShownObject → Type 0
HaveParentsBefore all = (k : ℕ) (d : ShownObject) → 0 < k → k < length all
    → (j : ℕ) × (j < k) × IsParentOf (slice_index_or all j d) (slice_index_or all k d)

-- of two with one parent the smaller name comes first ([MS-CFB] 2.6.4)
abbrev pub AreSiblingsInOrder : CaseTable → List ShownObject → Type 0
AreSiblingsInOrder letters all =
    AllPairs (λ a b. (parent : ShownObject) → IsParentOf parent a → IsParentOf parent b → name_cmp letters a.name b.name ≡ Less) all

-- the paths rise: so all that a storage holds comes right behind it, before its next sibling
abbrev pub AreRising : CaseTable → List ShownObject → Type 0
AreRising letters all = IsStrictlySortedBy (on (λ s. s.path) (path_cmp letters)) all

-- each is the object that its path leads to
abbrev pub AreWalkedObjects : CaseTable → Tree → List ShownObject → Type 0
AreWalkedObjects letters tree all = All (λ s. (object : Object) × (object_at letters tree s.path ≡ Some object) × (s ≡ shown s.path object)) all

-- each object that a path leads to is among them, under a path whose names count as the same ([MS-CFB] 2.6.4)
abbrev pub HaveEach : CaseTable → Tree → List ShownObject → Type 0
HaveEach letters tree all = (path : Path) (object : Object) → object_at letters tree path ≡ Some object
    → (stored : Path) × (path_cmp letters path stored ≡ Equal) × Contains all (shown stored object)
