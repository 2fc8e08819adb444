-- What a change at a path leaves of the objects at every path ([MS-CFB] 1.3).
use Rattle.std.specs.Prelude.{◌≡◌, ℕ, ◌<◌, Bool, true, false, ◌&&◌, List, [], ◌∷◌, drop, length, Some, None}
use Rattle.std.specs.Option.{option_map}
use Rattle.cfb_tree.specs.Changes.{last_of, parent_of}
use Rattle.cfb_tree.specs.Names.{CaseTable}
use Rattle.cfb_tree.specs.Objects.{a_storage, a_stream, is_same_name, name_of, object_at, object_from, Object}
use Rattle.cfb_tree.specs.Paths.{Path}
use Rattle.cfb_tree.specs.Tree.{nothing, Content, Facts, Tree}

-- a path leads through all names of the first, in its order, or just to it ([MS-CFB] 2.6.4)
abbrev pub is_front : CaseTable → Path → Path → Bool
is_front letters [] other = true
is_front letters (name ∷ names) [] = false
is_front letters (name ∷ names) (other ∷ others) = is_same_name letters name other && is_front letters names others

-- an object without what it holds: a storage's name and facts, or a whole stream ([MS-CFB] 1.3)
abbrev pub alone : Object → Object
alone (a_stream name state_bits bytes) = a_stream name state_bits bytes
alone (a_storage name facts inside) = a_storage name facts nothing

-- the object stands at the path, and what it holds stands below
pub record IsObjectListed (letters : CaseTable) (tree : Tree) (path : Path) (object : Object) : Type 0 where
  pub there : object_at letters tree path ≡ Some object
  pub below : (other : Path) → is_front letters path other ≡ true → object_at letters tree other ≡ object_from letters (Some object) (drop (length path) other)

-- nothing stands at the path, and nothing below
pub record NoneStandsAt (letters : CaseTable) (tree : Tree) (path : Path) : Type 0 where
  pub there : object_at letters tree path ≡ None
  pub below : (other : Path) → is_front letters path other ≡ true → object_at letters tree other ≡ None

-- the object at any other path is the same; the storages that the path leads through have the same names and facts
pub record KeepsOthers (letters : CaseTable) (path : Path) (old new : Tree) : Type 0 where
  pub others : (other : Path) → is_front letters path other ≡ false → is_front letters other path ≡ false → object_at letters new other ≡ object_at letters old other
  pub above : (other : Path) → is_front letters path other ≡ false → option_map alone (object_at letters new other) ≡ option_map alone (object_at letters old other)

-- the object's name is the path's last, its storage is there, and no object of this name in it ([MS-CFB] 2.6.4)
pub record HasFreePlace (letters : CaseTable) (tree : Tree) (object : Object) (path : Path) : Type 0 where
  pub below_root : 0 < length path
  pub named : last_of path ≡ name_of object
  pub name : List ℕ
  pub facts : Facts
  pub inside : Content
  pub storage : object_at letters tree (parent_of path) ≡ Some (a_storage name facts inside)
  pub free : object_at letters tree path ≡ None
