-- Objects that calls remove ([MS-CFB] 2.6.3, 2.6.4).
use Rattle.std.specs.Prelude.{◌≡◌, ℕ, ◌⊎◌, Bool, List, [], None, Some}
use Rattle.cfb_medium.specs.declared.error.Error.{Error}
use Rattle.cfb_medium.specs.declared.error.Error.TheVariants.{InvalidData, InvalidInput, NotFound}
use Rattle.cfb_siblings.specs.Places.{IsStorageAt, NameIsTaken, LeadsTo}
use Rattle.cfb_siblings.specs.Reading.{ReadBy}
use Rattle.cfb_siblings.specs.declared.links.Link.{Link}
use Rattle.cfb_tree.specs.Changes.{last_of, parent_of}
use Rattle.cfb_tree.specs.Directory.{Entry}
use Rattle.cfb_tree.specs.Names.{CaseTable}
use Rattle.cfb_tree.specs.Objects.{object_at, IsObject, Object}
use Rattle.cfb_tree.specs.Paths.{Path}
use Rattle.cfb_tree.specs.Tree.{Tree}

-- refusals by rule: no such object, or one of the wrong kind; or the file hasn't its directory
abbrev pub IsRemoveObjectError : Error → Type 0
IsRemoveObjectError e = (e ≡ NotFound) ⊎ (e ≡ InvalidInput) ⊎ (e ≡ InvalidData)

-- the path is that of a child: its storage is entry `parent`, and the link leads to entry `id`, which is the object there
pub record IsChildAt (letters : CaseTable) (reads : ℕ → ℕ → List ℕ → Bool) (entries : List Entry) (tree : Tree) (path : Path) (link : Link) (id : ℕ) : Type 0 where
  pub parent : ℕ
  pub storage : IsStorageAt letters entries (parent_of path) parent
  pub taken : NameIsTaken letters entries parent (last_of path) link id
  pub leads : LeadsTo letters entries 0 path id
  pub object : Object
  pub at_path : object_at letters tree path ≡ Some object
  pub own : List ℕ
  pub is_object : IsObject entries (ReadBy reads) id object own

-- the path leads to nothing, or is the root's
abbrev pub LacksChild : CaseTable → Tree → Path → Error → Type 0
LacksChild letters tree path e = ((e ≡ NotFound) × (object_at letters tree path ≡ None)) ⊎ ((e ≡ InvalidInput) × (path ≡ []))
