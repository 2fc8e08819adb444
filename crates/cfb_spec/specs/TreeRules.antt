-- What each call on a compound file does to its tree and answers, by paths and names alone. The refusals stand in the order
-- in which they are tested. A call that changes the tree is tried only on a sound file that hasn't failed.
use Rattle.std.specs.Prelude.{ℕ, Bool, true, false, not, ◌&&◌, List, [], ◌∷◌, ◌++◌, length, Option, Some, None, if◌then◌else◌, is_some}
use Rattle.cfb_medium.specs.declared.error.Error.{Error}
use Rattle.cfb_medium.specs.declared.error.Error.TheVariants.{InvalidInput, NotFound, AlreadyExists}
use Rattle.cfb_tree.specs.Names.{CaseTable, is_name}
use Rattle.cfb_tree.specs.Paths.{Path}
use Rattle.cfb_tree.specs.Tree.{Facts, Content, nothing, stream, storage, Tree}
-- ---- objects of a tree, and where paths lead

pub use Rattle.cfb_tree.specs.Objects.{Object, a_stream, a_storage, before, name_of, inside_of, root_object, tree_of, is_same_name, child, object_from, object_at}
-- ---- changes

pub use Rattle.cfb_tree.specs.Changes.{parent_of, last_of, with_child, without_child, with_changed, holding, having, with_state_bits, with_bytes, changed_below, changed, added, removed, no_facts, made_at, below_root}

-- ---- what is shown of an object

-- what a listing shows of an object: a stream has state bits and a length alone, a storage the length 0 ([MS-CFB] 2.6.1)
pub record ShownObject : Type 0 where
  pub path : Path
  pub name : List ℕ
  pub is_storage : Bool
  pub len : ℕ
  pub facts : Facts

-- an object at a path, as it is shown ([MS-CFB] 2.6.1)
abbrev pub shown : Path → Object → ShownObject
shown path (a_stream name state_bits bytes) =
    record { path = path; name = name; is_storage = false; len = length bytes; facts = record no_facts { state_bits = state_bits } }
shown path (a_storage name facts inside) = record { path = path; name = name; is_storage = true; len = 0; facts = facts }

-- the children of the storage at a path, in their order ([MS-CFB] 2.6.4)
abbrev pub children_shown : Path → Content → List ShownObject
children_shown path nothing = []
children_shown path (stream name state_bits bytes later) =
    shown (path ++ name ∷ []) (a_stream name state_bits bytes) ∷ children_shown path later
children_shown path (storage name facts inside later) =
    shown (path ++ name ∷ []) (a_storage name facts inside) ∷ children_shown path later

-- all objects in the storage at a path, a storage before what it holds ([MS-CFB] 2.6.4)
abbrev pub all_shown : Path → Content → List ShownObject
all_shown path nothing = []
all_shown path (stream name state_bits bytes later) =
    shown (path ++ name ∷ []) (a_stream name state_bits bytes) ∷ all_shown path later
all_shown path (storage name facts inside later) =
    shown (path ++ name ∷ []) (a_storage name facts inside) ∷ all_shown (path ++ name ∷ []) inside ++ all_shown path later

-- the path of an object that was found: its last name is the stored one
abbrev pub stored_path : Path → Object → Path
stored_path [] object = []
stored_path (name ∷ names) object = parent_of (name ∷ names) ++ name_of object ∷ []

-- ---- calls

-- a call, with paths as names; a path of text that leads above the root is refused as invalid input before all else, and at
-- `exists`, `is_stream` and `is_storage` is a no. The state of an open stream is its own: `close_stream` is the end of one,
-- with the bytes that it then has.
pub data Call : Type 0 where
  root_entry : Call
  entry : Path → Call
  exists : Path → Call
  is_stream : Path → Call
  is_storage : Path → Call
  read_root_storage : Call
  read_storage : Path → Call
  walk : Call
  walk_storage : Path → Call
  create_storage : (path : Path) (moment : ℕ) → Call
  create_storage_all : (path : Path) (moment : ℕ) → Call
  remove_storage : Path → Call
  remove_storage_all : Path → Call
  set_storage_clsid : (path : Path) (clsid : List ℕ) → Call
  set_state_bits : (path : Path) (bits : ℕ) → Call
  touch : (path : Path) (moment : ℕ) → Call
  set_created_time : (path : Path) (moment : ℕ) → Call
  set_modified_time : (path : Path) (moment : ℕ) → Call
  create_stream : Path → Call
  create_new_stream : Path → Call
  open_stream : Path → Call
  open_read_stream : Path → Call
  close_stream : (path : Path) (bytes : List ℕ) → Call
  remove_stream : Path → Call
  flush : Call
  commit : Call

-- what a call answers: that it is done, yes or no, an object, a list of them, a stream's bytes, or a refusal
pub data Answer : Type 0 where
  done : Answer
  yes : Bool → Answer
  an_entry : ShownObject → Answer
  entries : List ShownObject → Answer
  has_bytes : List ℕ → Answer
  refused : Error → Answer

-- the next tree and the answer
abbrev pub Outcome : Type 0
Outcome = Tree × Answer

-- an object that has to be there: else not found
abbrev pub on_object : Tree → (Object → Outcome) → Option Object → Outcome
on_object tree next None = (tree, refused NotFound)
on_object tree next (Some object) = next object

-- not found; then invalid input for a stream
abbrev pub on_storage : Tree → (Object → Outcome) → Option Object → Outcome
on_storage tree next None = (tree, refused NotFound)
on_storage tree next (Some (a_stream name state_bits bytes)) = (tree, refused InvalidInput)
on_storage tree next (Some (a_storage name facts inside)) = next (a_storage name facts inside)

-- not found; then invalid input for a storage
abbrev pub on_stream : Tree → (List ℕ → Outcome) → Option Object → Outcome
on_stream tree next None = (tree, refused NotFound)
on_stream tree next (Some (a_stream name state_bits bytes)) = next bytes
on_stream tree next (Some (a_storage name facts inside)) = (tree, refused InvalidInput)

-- the object is there and is a stream
abbrev pub is_stream_found : Option Object → Bool
is_stream_found None = false
is_stream_found (Some (a_stream name state_bits bytes)) = true
is_stream_found (Some (a_storage name facts inside)) = false

-- the object is there and is a storage
abbrev pub is_storage_found : Option Object → Bool
is_storage_found None = false
is_storage_found (Some (a_stream name state_bits bytes)) = false
is_storage_found (Some (a_storage name facts inside)) = true

-- a storage that holds nothing
abbrev pub is_empty : Content → Bool
is_empty nothing = true
is_empty (stream name state_bits bytes later) = false
is_empty (storage name facts inside later) = false

-- a new object where none is: not found without a parent; invalid input where the parent is a stream or the name is invalid
abbrev pub made : CaseTable → Tree → Path → Object → Outcome
made letters tree path object =
    on_storage tree
    (λ parent. if is_name (last_of path) then (added letters object path tree, done) else (tree, refused InvalidInput))
    (object_at letters tree (parent_of path))

-- `create_storage`: already exists; then as every new object
abbrev pub storage_made : CaseTable → Tree → Path → ℕ → Outcome
storage_made letters tree path moment =
    if is_some (object_at letters tree path)
    then (tree, refused AlreadyExists)
    else made letters tree path (a_storage (last_of path) (made_at moment) nothing)

-- the call was not refused
abbrev pub is_accepted : Answer → Bool
is_accepted done = true
is_accepted (yes b) = true
is_accepted (an_entry e) = true
is_accepted (entries es) = true
is_accepted (has_bytes bytes) = true
is_accepted (refused error) = false

-- a storage at the path, where nothing was refused so far; one that is there is passed
abbrev pub with_storage : CaseTable → ℕ → Path → Outcome → Outcome
with_storage letters moment path so_far =
    if is_accepted so_far.1 && not (is_storage_found (object_at letters so_far.0 path))
    then storage_made letters so_far.0 path moment
    else so_far

-- storages at all the paths from one on, a name longer each
abbrev pub with_storages : CaseTable → ℕ → Path → Path → Outcome → Outcome
with_storages letters moment front [] so_far = so_far
with_storages letters moment front (name ∷ names) so_far =
    with_storages letters moment (front ++ name ∷ []) names (with_storage letters moment (front ++ name ∷ []) so_far)

-- a refusal leaves the tree as it was
abbrev pub settled : Tree → Outcome → Outcome
settled tree outcome = if is_accepted outcome.1 then outcome else (tree, outcome.1)

-- an empty stream at the path, where one may be: a storage there already exists; a stream that is there is emptied, and
-- keeps its name and state bits
abbrev pub stream_made : CaseTable → Tree → Path → Option Object → Outcome
stream_made letters tree path None = made letters tree path (a_stream (last_of path) 0 [])
stream_made letters tree path (Some (a_stream name state_bits bytes)) = (changed letters (with_bytes []) path tree, done)
stream_made letters tree path (Some (a_storage name facts inside)) = (tree, refused AlreadyExists)

-- `remove_storage`: invalid input for the root, and for a storage with content
abbrev pub storage_removed : CaseTable → Tree → Path → Object → Outcome
storage_removed letters tree [] object = (tree, refused InvalidInput)
storage_removed letters tree (name ∷ names) object =
    if is_empty (inside_of object) then (removed letters (name ∷ names) tree, done) else (tree, refused InvalidInput)

-- THE RULES: the next tree and the answer of a call
abbrev pub tree_step : CaseTable → Tree → Call → Outcome
tree_step letters tree root_entry = (tree, an_entry (shown [] (root_object tree)))
tree_step letters tree (entry path) = on_object tree (λ o. (tree, an_entry (shown path o))) (object_at letters tree path)
tree_step letters tree (exists path) = (tree, yes (is_some (object_at letters tree path)))
tree_step letters tree (is_stream path) = (tree, yes (is_stream_found (object_at letters tree path)))
tree_step letters tree (is_storage path) = (tree, yes (is_storage_found (object_at letters tree path)))
tree_step letters tree read_root_storage = (tree, entries (children_shown [] tree.content))
tree_step letters tree (read_storage path) =
    on_storage tree (λ o. (tree, entries (children_shown path (inside_of o)))) (object_at letters tree path)
tree_step letters tree walk = (tree, entries (shown [] (root_object tree) ∷ all_shown [] tree.content))
tree_step letters tree (walk_storage path) =
    on_storage tree
    (λ o. (tree, entries (shown (stored_path path o) o ∷ all_shown (stored_path path o) (inside_of o))))
    (object_at letters tree path)
tree_step letters tree (create_storage path moment) = storage_made letters tree path moment
tree_step letters tree (create_storage_all path moment) = settled tree (with_storages letters moment [] path (tree, done))
tree_step letters tree (remove_storage path) = on_storage tree (storage_removed letters tree path) (object_at letters tree path)
tree_step letters tree (remove_storage_all path) = on_storage tree (λ o. (removed letters path tree, done)) (object_at letters tree path)
tree_step letters tree (set_storage_clsid path clsid) =
    on_storage tree
    (λ o. (changed letters (having (λ facts. record facts { clsid = clsid })) path tree, done))
    (object_at letters tree path)
tree_step letters tree (set_state_bits path bits) =
    on_object tree (λ o. (changed letters (with_state_bits bits) path tree, done)) (object_at letters tree path)
tree_step letters tree (touch path moment) =
    on_object tree
    (λ o. (changed letters (having (below_root path (λ facts. record facts { modified = moment }))) path tree, done))
    (object_at letters tree path)
tree_step letters tree (set_created_time path moment) =
    on_object tree
    (λ o. (changed letters (having (below_root path (λ facts. record facts { created = moment }))) path tree, done))
    (object_at letters tree path)
tree_step letters tree (set_modified_time path moment) =
    on_object tree
    (λ o. (changed letters (having (below_root path (λ facts. record facts { modified = moment }))) path tree, done))
    (object_at letters tree path)
tree_step letters tree (create_stream path) = stream_made letters tree path (object_at letters tree path)
tree_step letters tree (create_new_stream path) =
    if is_some (object_at letters tree path)
    then (tree, refused AlreadyExists)
    else made letters tree path (a_stream (last_of path) 0 [])
tree_step letters tree (open_stream path) = on_stream tree (λ bytes. (tree, has_bytes bytes)) (object_at letters tree path)
tree_step letters tree (open_read_stream path) = on_stream tree (λ bytes. (tree, has_bytes bytes)) (object_at letters tree path)
tree_step letters tree (close_stream path content) =
    on_stream tree (λ bytes. (changed letters (with_bytes content) path tree, done)) (object_at letters tree path)
tree_step letters tree (remove_stream path) = on_stream tree (λ bytes. (removed letters path tree, done)) (object_at letters tree path)
tree_step letters tree flush = (tree, done)
tree_step letters tree commit = (tree, done)
