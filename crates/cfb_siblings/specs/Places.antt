-- Where a name hangs among the children of a storage, and where a path leads among entries ([MS-CFB] 2.6.4).
use Rattle.std.specs.Prelude.{◌≡◌, ◌≢◌, ℕ, ◌≤◌, List, [], ◌∷◌, ◌++◌, slice_get, chars, map, Some, None}
use Rattle.std.specs.Borrow.{Bor}
use Rattle.std.specs.List.{AllByRecursion}
use Rattle.std.specs.declared.cmp.Ordering.{Ordering}
use Rattle.std.specs.declared.cmp.Ordering.TheVariants.{Less, Equal, Greater}
use Rattle.cfb_tree.specs.Names.{CaseTable, name_cmp}
use Rattle.cfb_tree.specs.Paths.{Path}
use Rattle.cfb_tree.specs.Tree.{Tree}
use Rattle.cfb_tree.specs.Directory.{Entry, Siblings, HasName, no_entry, greatest_entry, kind_stream}
use Rattle.cfb_tree.specs.Objects.{Object, object_at, IsObject}
use Rattle.cfb_siblings.specs.declared.links.Link.{Link}
use Rattle.cfb_siblings.specs.declared.links.Link.TheVariants.{Child, Left, Right}
use Rattle.cfb_siblings.specs.Links.{holder}
use Rattle.cfb_siblings.specs.declared.places.Place.{Place}
use Rattle.cfb_siblings.specs.declared.places.Place.TheVariants.{Taken, Free}

-- entry `id` has a name, and the wanted one stands in this order to it ([MS-CFB] 2.6.4)
pub record IsEntryNamed (letters : CaseTable) (directory : List Entry) (wanted : List ℕ) (order : Ordering) (id : ℕ) : Type 0 where
  pub entry : Entry
  pub found : slice_get directory id ≡ Some entry
  pub name : List ℕ
  pub named : HasName entry name
  pub compared : name_cmp letters wanted name ≡ order

-- the directory has an entry of this number ([MS-CFB] 2.6)
abbrev pub HasEntry : List Entry → ℕ → Type 0
HasEntry directory id = (e : Entry) × (slice_get directory id ≡ Some e)

-- entry `id` is no stream: what hangs at its child link are its children ([MS-CFB] 2.6.1)
pub record IsOwner (directory : List Entry) (id : ℕ) : Type 0 where
  pub entry : Entry
  pub found : slice_get directory id ≡ Some entry
  pub holds : entry.kind ≡ kind_stream → ⊥

-- entry `id` is the child of this name of entry `parent` ([MS-CFB] 2.6.4)
pub record IsChild (letters : CaseTable) (directory : List Entry) (parent : ℕ) (wanted : List ℕ) (id : ℕ) : Type 0 where
  pub owner : IsOwner directory parent
  pub front : List ℕ
  pub back : List ℕ
  pub siblings : Siblings directory owner.entry.child (front ++ id ∷ back)
  pub named : IsEntryNamed letters directory wanted Equal id

-- the path leads from entry `start` to entry `id` ([MS-CFB] 2.6.4)
abbrev pub LeadsTo : CaseTable → List Entry → ℕ → Path → ℕ → Type 0
LeadsTo letters directory start [] id = id ≡ start
LeadsTo letters directory start (name ∷ names) id =
    (next : ℕ) × IsChild letters directory start name next × LeadsTo letters directory next names id

-- the path leads from entry `start` along these entries ([MS-CFB] 2.6.4)
abbrev pub LeadsBy : CaseTable → List Entry → ℕ → Path → List ℕ → Type 0
LeadsBy letters directory start [] ids = ids ≡ []
LeadsBy letters directory start (name ∷ names) ids =
    (next : ℕ) × (later : List ℕ) × (ids ≡ next ∷ later) × IsChild letters directory start name next × LeadsBy letters directory next names later

-- the path leads from the root to entry `id`, which is a storage ([MS-CFB] 2.6.2)
pub record IsStorageAt (letters : CaseTable) (directory : List Entry) (path : Path) (id : ℕ) : Type 0 where
  pub leads : LeadsTo letters directory 0 path id
  pub owner : IsOwner directory id

-- the walk down the siblings from `root`, the child of entry `owner`, comes over the link to `at`; these are the siblings before
-- and after all that hangs there ([MS-CFB] 2.6.4)
pub data Hangs (directory : List Entry) (owner root : ℕ) : Link → ℕ → List ℕ → List ℕ → Type 0 where
  first : {link : Link} {at : ℕ} {front back : List ℕ}
      → link ≡ Child owner → at ≡ root → front ≡ [] → back ≡ [] → Hangs directory owner root link at front back
  to_left : {link : Link} {at : ℕ} {front back : List ℕ} (outer : Link) (id : ℕ) (e : Entry) (after rest : List ℕ)
      → Hangs directory owner root outer id front rest → id ≤ greatest_entry → slice_get directory id ≡ Some e
      → Siblings directory e.right after
      → link ≡ Left id → at ≡ e.left → back ≡ id ∷ (after ++ rest) → Hangs directory owner root link at front back
  to_right : {link : Link} {at : ℕ} {front back : List ℕ} (outer : Link) (id : ℕ) (e : Entry) (before rest : List ℕ)
      → Hangs directory owner root outer id rest back → id ≤ greatest_entry → slice_get directory id ≡ Some e
      → Siblings directory e.left before
      → link ≡ Right id → at ≡ e.right → front ≡ rest ++ (before ++ id ∷ []) → Hangs directory owner root link at front back

-- a child of this name of entry `parent` is to hang at the link, which leads nowhere: of the siblings some come before the name
-- and the others after it ([MS-CFB] 2.6.4)
pub record IsFree (letters : CaseTable) (directory : List Entry) (parent : ℕ) (wanted : List ℕ) (link : Link) : Type 0 where
  pub owner : IsOwner directory parent
  pub front : List ℕ
  pub back : List ℕ
  pub hangs : Hangs directory parent owner.entry.child link no_entry front back
  pub before : AllByRecursion (IsEntryNamed letters directory wanted Greater) front
  pub after : AllByRecursion (IsEntryNamed letters directory wanted Less) back

-- the link leads to entry `id`, the child of this name of entry `parent` ([MS-CFB] 2.6.4)
pub record NameIsTaken (letters : CaseTable) (directory : List Entry) (parent : ℕ) (wanted : List ℕ) (link : Link) (id : ℕ) : Type 0 where
  pub owner : IsOwner directory parent
  pub front : List ℕ
  pub back : List ℕ
  pub hangs : Hangs directory parent owner.entry.child link id front back
  pub fits : id ≤ greatest_entry
  pub named : IsEntryNamed letters directory wanted Equal id

-- the path of a child
abbrev pub path_to : Path → List ℕ → Path
path_to path name = path ++ name ∷ []

-- the place of a name among the children of the storage at a path: where it is taken, the tree has an object there, which is the
-- entry; where it is free, the tree has none ([MS-CFB] 2.6.4)
abbrev pub IsPlace : (Entry → List ℕ → Type 0) → CaseTable → List Entry → Tree → Path → ℕ → List ℕ → Place → Type 0
IsPlace Reads letters directory tree path parent name (Taken link id) =
    NameIsTaken letters directory parent name link id × LeadsTo letters directory 0 (path_to path name) id
    × (object : Object) × (object_at letters tree (path_to path name) ≡ Some object) × (own : List ℕ) × IsObject directory Reads id object own
IsPlace Reads letters directory tree path parent name (Free link) =
    IsFree letters directory parent name link × HasEntry directory (holder link) × (object_at letters tree (path_to path name) ≡ None)

-- names as a path
abbrev pub path_of : List (Bor (List ℕ)) → Path
path_of names = map (λ name. chars name.now) names

-- the entry to which a path leads is the object there; the root's entry is that of the root ([MS-CFB] 2.6.2)
pub record IsEntryAt (Reads : Entry → List ℕ → Type 0) (letters : CaseTable) (directory : List Entry) (tree : Tree) (path : Path) (id : ℕ) : Type 0 where
  pub leads : LeadsTo letters directory 0 path id
  pub object : Object
  pub at_path : object_at letters tree path ≡ Some object
  pub own : List ℕ
  pub is_object : path ≢ [] → IsObject directory Reads id object own
