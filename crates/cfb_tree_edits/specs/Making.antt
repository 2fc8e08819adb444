-- The objects that calls make, and the calls' rules ([MS-CFB] 2.6.2, 2.6.3).
use Rattle.std.specs.Prelude.{◌≡◌, ◌⊎◌, ℕ, List, [], IsTrue, None}
use Rattle.cfb_spec.specs.TreeRules.{create_new_stream, create_storage, done, refused, tree_step, Call}
use Rattle.cfb_medium.specs.Times.{units_of}
use Rattle.cfb_medium.specs.declared.error.Error.{Error}
use Rattle.cfb_medium.specs.declared.error.Error.TheVariants.{AlreadyExists, Full, InvalidData, InvalidInput, NotFound}
use Rattle.cfb_siblings.specs.Places.{IsStorageAt}
use Rattle.cfb_tree.specs.Changes.{added, last_of, made_at, parent_of}
use Rattle.cfb_tree.specs.Directory.{kind_storage, kind_stream, Entry}
use Rattle.cfb_tree.specs.Names.{is_name, CaseTable}
use Rattle.cfb_tree.specs.Objects.{a_storage, a_stream, object_at, Object}
use Rattle.cfb_tree.specs.Paths.{Path}
use Rattle.cfb_tree.specs.Tree.{nothing, Tree}
use Rattle.cfb_tree_edits.specs.declared.making.NewObject.{NewObject}
use Rattle.cfb_tree_edits.specs.declared.making.NewObject.TheVariants.{Storage, Stream}

-- the call that makes the object at a path
abbrev pub making : NewObject → Path → Call
making Stream path = create_new_stream path
making (Storage moment) path = create_storage path (units_of moment)

-- the object, of this name
abbrev pub object_of : NewObject → List ℕ → Object
object_of Stream name = a_stream name 0 []
object_of (Storage moment) name = a_storage name (made_at (units_of moment)) nothing

-- its kind ([MS-CFB] 2.6.1)
abbrev pub kind_made : NewObject → ℕ
kind_made Stream = kind_stream
kind_made (Storage moment) = kind_storage

-- its moment: a stream has none
abbrev pub moment_made : NewObject → ℕ
moment_made Stream = 0
moment_made (Storage moment) = units_of moment

-- refusals by rule: an object is there, no parent is, the parent is a stream or the name invalid, numbers are missing; or the
-- file hasn't its directory
abbrev pub IsMakeObjectError : Error → Type 0
IsMakeObjectError e = (e ≡ AlreadyExists) ⊎ (e ≡ NotFound) ⊎ (e ≡ InvalidInput) ⊎ (e ≡ Full) ⊎ (e ≡ InvalidData)

-- an object can be made at the path, below the storage of this entry: nothing is at the path, the storage is at its parent's, and
-- the name is valid; so the rules make it
pub record IsFreePlace (letters : CaseTable) (directory : List Entry) (tree : Tree) (path : Path) (parent : ℕ) : Type 0 where
  pub free : object_at letters tree path ≡ None
  pub storage : IsStorageAt letters directory (parent_of path) parent
  pub valid : IsTrue (is_name (last_of path))
  pub rule : (object : NewObject) → tree_step letters tree (making object path) ≡ (added letters (object_of object (last_of path)) path tree, done)

-- the rules refuse so whatever object is to be made at the path
abbrev pub IsRefusedPlace : CaseTable → Tree → Path → Error → Type 0
IsRefusedPlace letters tree path e = (object : NewObject) → (tree_step letters tree (making object path)).1 ≡ refused e
