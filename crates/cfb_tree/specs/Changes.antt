-- Changes of a tree: one object more, one less, or another in its place, by names and paths ([MS-CFB] 1.3, 2.6.4).
use Rattle.std.specs.Prelude.{ℕ, ◌-◌, List, [], ◌∷◌, length, take, replicate, if◌then◌else◌}
use Rattle.std.specs.Ordering.{is_lt}
use Rattle.cfb_tree.specs.Names.{CaseTable, name_cmp}
use Rattle.cfb_tree.specs.Paths.{Path}
use Rattle.cfb_tree.specs.Tree.{Facts, Content, nothing, stream, storage, Tree}
use Rattle.cfb_tree.specs.Objects.{Object, a_stream, a_storage, before, name_of, root_object, tree_of, is_same_name}

-- the path of an object's storage
abbrev pub parent_of : Path → Path
parent_of path = take (length path - 1) path

-- the last name of a path
abbrev pub last_of : Path → List ℕ
last_of [] = []
last_of (name ∷ []) = name
last_of (name ∷ next ∷ names) = last_of (next ∷ names)

-- the content with one more object, before the first name that it comes first of ([MS-CFB] 2.6.4)
abbrev pub with_child : CaseTable → Object → Content → Content
with_child letters object nothing = before object nothing
with_child letters object (stream name state_bits bytes later) =
    if is_lt (name_cmp letters (name_of object) name)
    then before object (stream name state_bits bytes later)
    else stream name state_bits bytes (with_child letters object later)
with_child letters object (storage name facts inside later) =
    if is_lt (name_cmp letters (name_of object) name)
    then before object (storage name facts inside later)
    else storage name facts inside (with_child letters object later)

-- the content without the child of this name ([MS-CFB] 2.6.4)
abbrev pub without_child : CaseTable → List ℕ → Content → Content
without_child letters wanted nothing = nothing
without_child letters wanted (stream name state_bits bytes later) =
    if is_same_name letters wanted name then later else stream name state_bits bytes (without_child letters wanted later)
without_child letters wanted (storage name facts inside later) =
    if is_same_name letters wanted name then later else storage name facts inside (without_child letters wanted later)

-- the content with a change of the child of this name ([MS-CFB] 2.6.4)
abbrev pub with_changed : CaseTable → List ℕ → (Object → Object) → Content → Content
with_changed letters wanted change nothing = nothing
with_changed letters wanted change (stream name state_bits bytes later) =
    if is_same_name letters wanted name
    then before (change (a_stream name state_bits bytes)) later
    else stream name state_bits bytes (with_changed letters wanted change later)
with_changed letters wanted change (storage name facts inside later) =
    if is_same_name letters wanted name
    then before (change (a_storage name facts inside)) later
    else storage name facts inside (with_changed letters wanted change later)

-- a change of what a storage holds
abbrev pub holding : (Content → Content) → Object → Object
holding change (a_stream name state_bits bytes) = a_stream name state_bits bytes
holding change (a_storage name facts inside) = a_storage name facts (change inside)

-- a change of a storage's facts
abbrev pub having : (Facts → Facts) → Object → Object
having change (a_stream name state_bits bytes) = a_stream name state_bits bytes
having change (a_storage name facts inside) = a_storage name (change facts) inside

-- an object with these state bits ([MS-CFB] 2.6.1)
abbrev pub with_state_bits : ℕ → Object → Object
with_state_bits bits (a_stream name state_bits bytes) = a_stream name bits bytes
with_state_bits bits (a_storage name facts inside) = a_storage name (record facts { state_bits = bits }) inside

-- a stream with these bytes
abbrev pub with_bytes : List ℕ → Object → Object
with_bytes content (a_stream name state_bits bytes) = a_stream name state_bits content
with_bytes content (a_storage name facts inside) = a_storage name facts inside

-- a change of the object at a path below another
abbrev pub changed_below : CaseTable → (Object → Object) → Path → Object → Object
changed_below letters change [] object = change object
changed_below letters change (name ∷ names) object = holding (with_changed letters name (changed_below letters change names)) object

-- the tree with a change of the object at a path
abbrev pub changed : CaseTable → (Object → Object) → Path → Tree → Tree
changed letters change path tree = tree_of tree (changed_below letters change path (root_object tree))

-- the tree with one more object at a path
abbrev pub added : CaseTable → Object → Path → Tree → Tree
added letters object path tree = changed letters (holding (with_child letters object)) (parent_of path) tree

-- the tree without the object at a path; the root is only emptied
abbrev pub removed : CaseTable → Path → Tree → Tree
removed letters [] tree = record { root = tree.root; content = nothing }
removed letters (name ∷ names) tree =
    changed letters (holding (without_child letters (last_of (name ∷ names)))) (parent_of (name ∷ names)) tree

-- facts of which all bytes are zero ([MS-CFB] 2.6.1)
abbrev pub no_facts : Facts
no_facts = record { clsid = replicate 16 0; state_bits = 0; created = 0; modified = 0 }

-- the facts of a storage made at a moment ([MS-CFB] 2.6.1)
abbrev pub made_at : ℕ → Facts
made_at moment = record { clsid = replicate 16 0; state_bits = 0; created = moment; modified = moment }

-- the change, for all storages but the root ([MS-CFB] 2.6.2)
abbrev pub below_root : Path → (Facts → Facts) → Facts → Facts
below_root [] change facts = facts
below_root (name ∷ names) change facts = change facts
