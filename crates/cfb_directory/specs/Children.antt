-- Entries of a directory that come and go ([MS-CFB] 2.6.3, 2.6.4).
use Rattle.std.specs.Prelude.{◌≡◌, ◌≢◌, ℕ, ◌⊎◌, Bool, List, length, slice_get, slice_set, IfSome, None, Some}
use Rattle.cfb_medium.specs.declared.error.Error.{Error}
use Rattle.cfb_medium.specs.declared.error.Error.TheVariants.{AlreadyExists, Full, InvalidData, InvalidInput, NotFound}
use Rattle.cfb_medium.specs.declared.medium.ReadMedium.{Ghosts}
use Rattle.cfb_medium.specs.declared.version.Version.{Version}
use Rattle.cfb_siblings.specs.Changes.{HoldsOneLess, HoldsOneMore, IsAlone, IsUnused}
use Rattle.cfb_siblings.specs.Links.{holder, relinked}
use Rattle.cfb_siblings.specs.Places.{path_to, HasEntry, IsStorageAt, NameIsTaken}
use Rattle.cfb_siblings.specs.Reading.{ReadBy}
use Rattle.cfb_siblings.specs.declared.links.Link.{Link}
use Rattle.cfb_siblings.specs.declared.removal.Removal.{Removal}
use Rattle.cfb_tree.specs.Names.{CaseTable}
use Rattle.cfb_tree.specs.Changes.{added, removed}
use Rattle.cfb_tree.specs.Objects.{name_of, object_at, EntriesHoldTree, IsObject, Object}
use Rattle.cfb_tree.specs.Paths.{Path}
use Rattle.cfb_tree.specs.Tree.{Tree}
use Rattle.cfb_tree.specs.Directory.{kind_unallocated, Entry}
use Rattle.cfb_tree.specs.Entries.{empty_entry}
use Rattle.cfb_directory.specs.Entries.{SizesFit}
use Rattle.cfb_directory.specs.Growth.{CanGrowDirectory, MayGrow}
use Rattle.cfb_directory.specs.Views.{entries_held}
use Rattle.cfb_directory.specs.declared.directory.Directory.{Directory}

-- refusals by rule of a new child: the name is taken or invalid, no number is left, or the directory isn't there as it must be
abbrev pub IsInsertEntryError : Error → Type 0
IsInsertEntryError e = (e ≡ AlreadyExists) ⊎ (e ≡ InvalidInput) ⊎ (e ≡ Full) ⊎ (e ≡ InvalidData)

-- refusals by rule where a child goes: there is none, or the directory isn't there as it must be
abbrev pub IsRemoveEntryError : Error → Type 0
IsRemoveEntryError e = (e ≡ NotFound) ⊎ (e ≡ InvalidData)

-- the entries hold the tree, in which the path leads to entry `id`, a storage ([MS-CFB] 2.6.2)
pub record HoldsStorage (letters : CaseTable) (reads : ℕ → ℕ → List ℕ → Bool) (entries : List Entry) (tree : Tree) (path : Path) (id : ℕ) : Type 0 where
  pub holds : EntriesHoldTree letters (ReadBy reads) entries tree
  pub storage : IsStorageAt letters entries path id

-- so they do, and the link leads to entry `id`, the child of this name of the storage `parent` at the path ([MS-CFB] 2.6.4)
pub record HoldsChild (letters : CaseTable) (reads : ℕ → ℕ → List ℕ → Bool) (entries : List Entry) (tree : Tree) (path : Path) (parent : ℕ) (name : List ℕ) (link : Link) (id : ℕ) : Type 0 where
  pub within : HoldsStorage letters reads entries tree path parent
  pub taken : NameIsTaken letters entries parent name link id

-- of each tree that the entries hold with such a storage: it has an object of this name in it
abbrev pub IsNameTaken : CaseTable → List Entry → ℕ → List ℕ → Type 0
IsNameTaken letters entries parent name = (reads : ℕ → ℕ → List ℕ → Bool) (tree : Tree) (path : Path)
    → HoldsStorage letters reads entries tree path parent → object_at letters tree (path_to path name) ≢ None

-- of each tree that the entries hold with such a storage: it has no object of this name in it
abbrev pub IsNameFree : CaseTable → List Entry → ℕ → List ℕ → Type 0
IsNameFree letters entries parent name = (reads : ℕ → ℕ → List ℕ → Bool) (tree : Tree) (path : Path)
    → HoldsStorage letters reads entries tree path parent → object_at letters tree (path_to path name) ≡ None

-- what it leaves of a tree with such a storage, where the new entry is an object of this name on its own: the tree with it, of one
-- entry more, to which its path leads; colours stay right
abbrev pub AddsChild : CaseTable → List Entry → List Entry → ℕ → List ℕ → Entry → ℕ → Type 0
AddsChild letters old new parent name e id = (reads : ℕ → ℕ → List ℕ → Bool) (tree : Tree) (path : Path) (object : Object)
    → (h : HoldsStorage letters reads old tree path parent) → IsAlone (ReadBy reads) e object → name_of object ≡ name
    → HoldsOneMore letters (ReadBy reads) old new (added letters object (path_to path name) tree) h.holds.ids (path_to path name) id

-- the other entry is this one but for its links and its colour ([MS-CFB] 2.6.1)
pub record IsAs (e other : Entry) : Type 0 where
  pub name_units : other.name_units ≡ e.name_units
  pub name_len : other.name_len ≡ e.name_len
  pub kind : other.kind ≡ e.kind
  pub facts : other.facts ≡ e.facts
  pub start : other.start ≡ e.start
  pub size : other.size ≡ e.size

-- entry `id` is this one, but for its links and its colour
abbrev pub HasAt : List Entry → ℕ → Entry → Type 0
HasAt entries id e = (other : Entry) × (slice_get entries id ≡ Some other) × IsAs e other

-- the entry stands at a number that was in no use, perhaps of a sector that was taken in, and the link leads to it
pub record LinksNew (version : Version) (link : Link) (e : Entry) (old new : List Entry) (id : ℕ) : Type 0 where
  pub grown : List Entry
  pub behind : MayGrow version old grown
  pub unused : IsUnused grown id
  pub entries : new ≡ relinked link id (slice_set grown id e)

-- each entry but this one is as it was, but for its links and its colour
abbrev pub SameEntriesExcept : List Entry → List Entry → ℕ → Type 0
SameEntriesExcept old new id = (k : ℕ) (e : Entry) → (k ≡ id → ⊥) → slice_get old k ≡ Some e → HasAt new k e

-- entry `id`, which was in no use if it was there, is this one; the others are as they were: all but for links and colours. They
-- have become more only where none was in no use
pub record AddsAt (old new : List Entry) (e : Entry) (id : ℕ) : Type 0 where
  pub entry : HasAt new id e
  pub unused : (was : Entry) → slice_get old id ≡ Some was → was.kind ≡ kind_unallocated
  pub longer : (k : ℕ) → IsUnused old k → length new ≡ length old
  pub others : SameEntriesExcept old new id
  pub sizes : (version : Version) → e.size ≡ 0 → SizesFit version old → SizesFit version new

-- the entries whose links the removal sets are there
pub record HasHolders (entries : List Entry) (removal : Removal) : Type 0 where
  pub replaced : HasEntry entries (holder removal.replaced.link)
  pub joined : IfSome removal.joined (λ it. HasEntry entries (holder it.link))

-- entry `id` was an object, and the entries hold the tree without the object at the path and what is in it, which is made of the
-- root and of the entries `ids` without these; the way to the storage above goes over the same entries
pub record Removes (letters : CaseTable) (reads : ℕ → ℕ → List ℕ → Bool) (old new : List Entry) (tree : Tree) (ids : List ℕ) (path : Path) (id : ℕ) : Type 0 where
  pub object : Object
  pub own : List ℕ
  pub is_object : IsObject old (ReadBy reads) id object own
  pub holds : HoldsOneLess letters (ReadBy reads) old new (removed letters path tree) ids path id own

-- what it leaves of a tree with such a child: the tree without it
abbrev pub RemovesChild : List Entry → List Entry → Link → ℕ → Type 0
RemovesChild old new link id = (letters : CaseTable) (reads : ℕ → ℕ → List ℕ → Bool) (tree : Tree) (path : Path) (parent : ℕ) (name : List ℕ)
    → (h : HoldsChild letters reads old tree path parent name link id) → Removes letters reads old new tree h.within.holds.ids (path_to path name) id

-- entry `id` is in no use; the others are as they were, all but for links and colours
pub record RemovesAt (old new : List Entry) (id : ℕ) : Type 0 where
  pub entry : slice_get new id ≡ Some empty_entry
  pub others : SameEntriesExcept old new id
  pub sizes : (version : Version) → SizesFit version old → SizesFit version new

module _ {F : Type 0} {g : Ghosts F} where
  -- the directory isn't ready, or holds no tree with a storage at this number ([MS-CFB] 2.6.2)
  abbrev pub HasNoStorage : CaseTable → Directory F g → ℕ → Type 0
  HasNoStorage letters it parent = (reads : ℕ → ℕ → List ℕ → Bool) (tree : Tree) (path : Path)
      → HoldsStorage letters reads (entries_held it) tree path parent → CanGrowDirectory it → ⊥
