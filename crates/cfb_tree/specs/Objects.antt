-- Objects of a tree, by name and by path, and the entries that are such.
use Rattle.std.specs.Prelude.{◌≡◌, ℕ, Bool, List, [], ◌∷◌, Option, Some, None, if◌then◌else◌, codes, nat_eq, slice_get}
use Rattle.std.specs.List.{IsDistinct}
use Rattle.std.specs.Ordering.{is_eq}
use Rattle.cfb_tree.specs.Names.{CaseTable, name_cmp}
use Rattle.cfb_tree.specs.Paths.{Path}
use Rattle.cfb_tree.specs.Tree.{Facts, Content, nothing, stream, storage, Tree, IsOrdered}
use Rattle.cfb_tree.specs.Directory.{Entry, Siblings, Holds, IsStream, IsStorage, kind_root}

-- a stream, or a storage with what it holds ([MS-CFB] 1.3)
pub data Object : Type 0 where
  a_stream : (name : List ℕ) (state_bits : ℕ) (bytes : List ℕ) → Object
  a_storage : (name : List ℕ) (facts : Facts) (inside : Content) → Object

-- the object before others ([MS-CFB] 1.3)
abbrev pub before : Object → Content → Content
before (a_stream name state_bits bytes) later = stream name state_bits bytes later
before (a_storage name facts inside) later = storage name facts inside later

-- an object's name ([MS-CFB] 2.6.1)
abbrev pub name_of : Object → List ℕ
name_of (a_stream name state_bits bytes) = name
name_of (a_storage name facts inside) = name

-- what an object holds: a stream nothing ([MS-CFB] 1.3)
abbrev pub inside_of : Object → Content
inside_of (a_stream name state_bits bytes) = nothing
inside_of (a_storage name facts inside) = inside

-- the root as an object, under the name that it always has ([MS-CFB] 2.6.2)
abbrev pub root_object : Tree → Object
root_object tree = a_storage (codes "Root Entry") tree.root tree.content

-- the tree of a root ([MS-CFB] 2.6.2)
abbrev pub tree_of : Tree → Object → Tree
tree_of old (a_stream name state_bits bytes) = old
tree_of old (a_storage name facts inside) = record { root = facts; content = inside }

-- two names that are one name under the case table ([MS-CFB] 2.6.4)
abbrev pub is_same_name : CaseTable → List ℕ → List ℕ → Bool
is_same_name letters a b = is_eq (name_cmp letters a b)

-- the child of this name ([MS-CFB] 2.6.4)
abbrev pub child : CaseTable → Content → List ℕ → Option Object
child letters nothing wanted = None
child letters (stream name state_bits bytes later) wanted =
    if is_same_name letters wanted name then Some (a_stream name state_bits bytes) else child letters later wanted
child letters (storage name facts inside later) wanted =
    if is_same_name letters wanted name then Some (a_storage name facts inside) else child letters later wanted

-- the object that a path leads to from an object ([MS-CFB] 1.3)
abbrev pub object_from : CaseTable → Option Object → Path → Option Object
object_from letters None path = None
object_from letters (Some object) [] = Some object
object_from letters (Some object) (name ∷ names) = object_from letters (child letters (inside_of object) name) names

-- the object at a path ([MS-CFB] 1.3)
abbrev pub object_at : CaseTable → Tree → Path → Option Object
object_at letters tree path = object_from letters (Some (root_object tree)) path

-- two contents as one ([MS-CFB] 1.3)
abbrev pub joined_contents : Content → Content → Content
joined_contents nothing more = more
joined_contents (stream name state_bits bytes later) more = stream name state_bits bytes (joined_contents later more)
joined_contents (storage name facts inside later) more = storage name facts inside (joined_contents later more)

-- entry `id` is the object, which has the entries `own` inside ([MS-CFB] 2.6)
abbrev pub IsObject : List Entry → (Entry → List ℕ → Type 0) → ℕ → Object → List ℕ → Type 0
IsObject directory Reads id (a_stream name state_bits bytes) own =
    (e : Entry) × IsStream directory id e name state_bits × Reads e bytes × (own ≡ [])
IsObject directory Reads id (a_storage name facts inside) own =
    (e : Entry) × (children : List ℕ) × IsStorage directory id e name facts × Siblings directory e.child children
    × Holds directory Reads children inside own

-- the directory holds the tree, where `Reads` says which bytes a stream has: entry 0 is the root, no entry stands twice in the
-- tree, and siblings rise strictly ([MS-CFB] 2.6.2, 2.6.4)
pub record EntriesHoldTree (letters : CaseTable) (Reads : Entry → List ℕ → Type 0) (directory : List Entry) (tree : Tree) : Type 0 where
  pub root : Entry
  pub root_found : slice_get directory 0 ≡ Some root
  pub root_kind : root.kind ≡ kind_root
  pub facts : root.facts ≡ tree.root
  pub children : List ℕ
  pub ids : List ℕ
  pub siblings : Siblings directory root.child children
  pub holds : Holds directory Reads children tree.content ids
  pub once : IsDistinct nat_eq (0 ∷ ids)
  pub ordered : IsOrdered letters tree.content
