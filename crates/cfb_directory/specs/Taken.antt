-- Which entries a reader takes as a tree.
use Rattle.std.specs.Prelude.{◌≡◌, ℕ, ◌≤◌, List, codes, slice_get, Option, Some, None, IfSome, ⊤}
use Rattle.std.specs.List.{AllByRecursion}
use Rattle.std.specs.declared.cmp.Ordering.TheVariants.{Less}
use Rattle.cfb_sectors.specs.declared.validation.Validation.{Validation}
use Rattle.cfb_sectors.specs.declared.validation.Validation.TheVariants.{Permissive, Strict}
use Rattle.cfb_tree.specs.Names.{CaseTable, name_cmp}
use Rattle.cfb_tree.specs.Tree.{Tree}
use Rattle.cfb_tree.specs.Directory.{Entry, HasName, greatest_entry, red}
use Rattle.cfb_tree.specs.Entries.{IsTakenRoot, IsTakenBelow, IsBlackAt}
use Rattle.cfb_tree.specs.Objects.{EntriesHoldTree}

-- a reader takes the entry as the root; a strict one asks for its name ([MS-CFB] 2.6.2)
abbrev pub IsTakenAsRoot : Validation → Entry → Type 0
IsTakenAsRoot Permissive e = IsTakenRoot Permissive e
IsTakenAsRoot Strict e = IsTakenRoot Strict e × HasName e (codes "Root Entry")

-- a reader takes the entry in the tree below the root; a strict one asks that no red sibling hangs under a red one
-- ([MS-CFB] 2.6.1, 2.6.4)
abbrev pub IsTakenIn : Validation → List Entry → Entry → Type 0
IsTakenIn Permissive directory e = IsTakenBelow Permissive e
IsTakenIn Strict directory e = IsTakenBelow Strict e × (e.color ≡ red → IsBlackAt directory e.left × IsBlackAt directory e.right)

-- a reader takes the directory as this tree, where `Reads` says which bytes a stream has ([MS-CFB] 2.6)
pub record IsTakenAs (validation : Validation) (letters : CaseTable) (Reads : Entry → List ℕ → Type 0) (directory : List Entry) (tree : Tree) : Type 0 where
  pub holds : EntriesHoldTree letters Reads directory tree
  pub root : IsTakenAsRoot validation holds.root
  pub below : AllByRecursion (λ id. IfSome (slice_get directory id) (IsTakenIn validation directory)) holds.ids

-- nothing is asked of a stream's bytes
abbrev pub HasAny : Entry → List ℕ → Type 0
HasAny e content = ⊤

-- one entry's name comes before another's ([MS-CFB] 2.6.4)
pub record Precedes (letters : CaseTable) (directory : List Entry) (one other : ℕ) : Type 0 where
  pub first : Entry
  pub second : Entry
  pub first_name : List ℕ
  pub second_name : List ℕ
  pub first_found : slice_get directory one ≡ Some first
  pub second_found : slice_get directory other ≡ Some second
  pub first_named : HasName first first_name
  pub second_named : HasName second second_name
  pub less : name_cmp letters first_name second_name ≡ Less

-- the entry comes behind one and before another, where there are such ([MS-CFB] 2.6.4)
abbrev pub IsBehind : CaseTable → List Entry → Option ℕ → ℕ → Type 0
IsBehind letters directory None id = ⊤
IsBehind letters directory (Some low) id = Precedes letters directory low id

abbrev pub IsAhead : CaseTable → List Entry → Option ℕ → ℕ → Type 0
IsAhead letters directory None id = ⊤
IsAhead letters directory (Some high) id = Precedes letters directory id high

-- a reader takes the entry of this number as a sibling between two others ([MS-CFB] 2.6)
pub record IsFit (validation : Validation) (letters : CaseTable) (directory : List Entry) (low high : Option ℕ) (id : ℕ) : Type 0 where
  pub fits : id ≤ greatest_entry
  pub entry : Entry
  pub found : slice_get directory id ≡ Some entry
  pub name : List ℕ
  pub named : HasName entry name
  pub taken : IsTakenIn validation directory entry
  pub behind : IsBehind letters directory low id
  pub ahead : IsAhead letters directory high id
