-- Siblings that are turned: the lower one takes the place of the upper one, and the entries hold what they held ([MS-CFB] 2.6.4).
use Rattle.std.specs.Prelude.{◌≡◌, ◌≢◌, ℕ, ◌≤◌, Bool, List, slice_get, Some}
use Rattle.cfb_tree.specs.Names.{CaseTable}
use Rattle.cfb_tree.specs.Paths.{Path}
use Rattle.cfb_tree.specs.Tree.{Tree}
use Rattle.cfb_tree.specs.Directory.{Entry, no_entry, greatest_entry}
use Rattle.cfb_tree.specs.Objects.{Object, IsObject, EntriesHoldTree}
use Rattle.cfb_siblings.specs.declared.links.Link.{Link}
use Rattle.cfb_siblings.specs.declared.links.Link.TheVariants.{Left, Right}
use Rattle.cfb_siblings.specs.declared.rotation.Rotation.{Rotation}
use Rattle.cfb_siblings.specs.Changes.{AreColored, HoldsOn}
use Rattle.cfb_siblings.specs.Links.{holder, relinked}
use Rattle.cfb_siblings.specs.Reading.{ReadBy}
use Rattle.cfb_siblings.specs.Places.{HasEntry, IsOwner, IsChild, Hangs, IsStorageAt, LeadsBy}

-- the link leads to entry `id`, a child of entry `parent` ([MS-CFB] 2.6.4)
pub record IsReached (directory : List Entry) (parent : ℕ) (link : Link) (id : ℕ) : Type 0 where
  pub owner : IsOwner directory parent
  pub front : List ℕ
  pub back : List ℕ
  pub hangs : Hangs directory parent owner.entry.child link id front back
  pub fits : id ≤ greatest_entry

-- the rotation raises the left or the right sibling of entry `upper`, to which the link leads: what hung between the two hangs at
-- `upper` then, `upper` at the raised one, and this one at the link ([MS-CFB] 2.6.4)
pub data IsRotation (directory : List Entry) (link : Link) (upper : ℕ) : Rotation → Type 0 where
  raises_left : {it : Rotation} (u l : Entry) → slice_get directory upper ≡ Some u → u.left ≢ no_entry → slice_get directory u.left ≡ Some l
      → it ≡ record {
        inner = record { link = Left upper; target = l.right };
        lowered = record { link = Right u.left; target = upper };
        raised = record { link = link; target = u.left };
      } → IsRotation directory link upper it
  raises_right : {it : Rotation} (u l : Entry) → slice_get directory upper ≡ Some u → u.right ≢ no_entry → slice_get directory u.right ≡ Some l
      → it ≡ record {
        inner = record { link = Right upper; target = l.left };
        lowered = record { link = Left u.right; target = upper };
        raised = record { link = link; target = u.right };
      } → IsRotation directory link upper it

-- of each tree that the entries hold with a storage of this number: the link leads to entry `id`, a child of it
abbrev pub LeadsIn : CaseTable → List Entry → ℕ → Link → ℕ → Type 0
LeadsIn letters directory parent link id = (reads : ℕ → ℕ → List ℕ → Bool) (tree : Tree) (path : Path)
    → EntriesHoldTree letters (ReadBy reads) directory tree → IsStorageAt letters directory path parent → IsReached directory parent link id

-- a rotation of children of this storage, whose links are there
pub record TurnsIn (letters : CaseTable) (directory : List Entry) (parent : ℕ) (it : Rotation) : Type 0 where
  pub upper : ℕ
  pub rotation : IsRotation directory it.raised.link upper it
  pub there : HasEntry directory (holder it.raised.link)
  pub leads : LeadsIn letters directory parent it.raised.link upper

-- the entries after the rotation's links were set
abbrev pub rotated : Rotation → List Entry → List Entry
rotated it entries =
    relinked it.raised.link it.raised.target (relinked it.lowered.link it.lowered.target (relinked it.inner.link it.inner.target entries))

-- the entries hold the same tree of the same entries still, where siblings of the storage at the path were linked otherwise: the way
-- to it goes over the same entries, its children are the same objects with the same entries inside, and colours stay right
pub record HoldsStill (letters : CaseTable) (Reads : Entry → List ℕ → Type 0) (old new : List Entry) (tree : Tree) (ids : List ℕ)
    (path : Path) (parent : ℕ) : Type 0 where
  pub holds : HoldsOn letters Reads new tree ids
  pub storage : IsStorageAt letters new path parent
  pub ways : (way : List ℕ) → LeadsBy letters old 0 path way → LeadsBy letters new 0 path way
  pub children : (name : List ℕ) (id : ℕ) → IsChild letters old parent name id → IsChild letters new parent name id
  pub objects : (name : List ℕ) (id : ℕ) (object : Object) (own : List ℕ) → IsChild letters old parent name id
      → IsObject old Reads id object own → IsObject new Reads id object own
  pub colors : AreColored old ids → AreColored new ids

-- what a rotation of siblings of the storage at the path leaves: its links can be set, the entries hold the tree still, and the link
-- of the raised one leads to entry `upper`
pub record Turns (letters : CaseTable) (Reads : Entry → List ℕ → Type 0) (directory : List Entry) (tree : Tree) (ids : List ℕ)
    (path : Path) (parent upper : ℕ) (it : Rotation) : Type 0 where
  pub inner : HasEntry directory (holder it.inner.link)
  pub lowered : HasEntry directory (holder it.lowered.link)
  pub raised : HasEntry directory (holder it.raised.link)
  pub still : HoldsStill letters Reads directory (rotated it directory) tree ids path parent
  pub reached : IsReached (rotated it directory) parent it.lowered.link upper
