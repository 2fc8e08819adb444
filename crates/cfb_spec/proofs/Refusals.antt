-- A call that is refused leaves the tree.
use Rattle.std.proofs.Common.{◌≡◌, ℕ, List, [], ◌∷◌, refl, Bool, true, false}
use Rattle.std.specs.Prelude.{Option, Some, None, if◌then◌else◌, is_some}
use Rattle.cfb_medium.specs.declared.error.Error.{Error}
use Rattle.cfb_medium.specs.declared.error.Error.TheVariants.{InvalidInput}
use Rattle.cfb_tree.specs.Names.{CaseTable, is_name}
use Rattle.cfb_tree.specs.Paths.{Path}
use Rattle.cfb_tree.specs.Tree.{nothing, Tree}
use Rattle.cfb_spec.specs.TreeRules.{shown, stored_path, children_shown, all_shown, added, removed, changed, having, below_root, with_state_bits, with_bytes, Object, a_stream, a_storage, Call, root_entry, entry, exists, is_stream, is_storage, read_root_storage, read_storage, walk, walk_storage, create_storage, create_storage_all, remove_storage, remove_storage_all, set_storage_clsid, set_state_bits, touch, set_created_time, set_modified_time, create_stream, create_new_stream, open_stream, open_read_stream, close_stream, remove_stream, flush, commit, Answer, done, yes, an_entry, entries, has_bytes, refused, Outcome, on_object, on_storage, on_stream, made, storage_made, stream_made, storage_removed, settled, with_storages, is_empty, inside_of, made_at, last_of, parent_of, object_at, tree_step}

-- the outcome has this tree wherever it is a refusal
abbrev Keeps : Tree → Outcome → Type 0
Keeps tree outcome = (error : Error) → outcome.1 ≡ refused error → outcome.0 ≡ tree

either : (tree : Tree) (b : Bool) (x y : Outcome) → Keeps tree x → Keeps tree y → Keeps tree (if b then x else y)
either tree true x y h k = h
either tree false x y h k = k

finished : (tree new : Tree) → Keeps tree (new, done)
finished tree new error e = absurd (cc)

object_keeps : (tree : Tree) (next : Object → Outcome) (found : Option Object) → ((o : Object) → Keeps tree (next o)) → Keeps tree (on_object tree next found)
object_keeps tree next None h = λ error e. refl
object_keeps tree next (Some o) h = h o

storage_keeps : (tree : Tree) (next : Object → Outcome) (found : Option Object) → ((o : Object) → Keeps tree (next o)) → Keeps tree (on_storage tree next found)
storage_keeps tree next None h = λ error e. refl
storage_keeps tree next (Some (a_stream n s b)) h = λ error e. refl
storage_keeps tree next (Some (a_storage n f i)) h = h (a_storage n f i)

stream_keeps : (tree : Tree) (next : List ℕ → Outcome) (found : Option Object) → ((bytes : List ℕ) → Keeps tree (next bytes)) → Keeps tree (on_stream tree next found)
stream_keeps tree next None h = λ error e. refl
stream_keeps tree next (Some (a_stream n s b)) h = h b
stream_keeps tree next (Some (a_storage n f i)) h = λ error e. refl

object_done : (tree new : Tree) (found : Option Object) → Keeps tree (on_object tree (λ o. (new, done)) found)
object_done tree new found = object_keeps tree (λ o. (new, done)) found (λ o. finished tree new)

storage_done : (tree new : Tree) (found : Option Object) → Keeps tree (on_storage tree (λ o. (new, done)) found)
storage_done tree new found = storage_keeps tree (λ o. (new, done)) found (λ o. finished tree new)

stream_done : (tree new : Tree) (found : Option Object) → Keeps tree (on_stream tree (λ bytes. (new, done)) found)
stream_done tree new found = stream_keeps tree (λ bytes. (new, done)) found (λ bytes. finished tree new)

made_keeps : (letters : CaseTable) (tree : Tree) (path : Path) (object : Object) → Keeps tree (made letters tree path object)
made_keeps letters tree path object =
    storage_keeps tree
    (λ parent. if is_name (last_of path) then (added letters object path tree, done) else (tree, refused InvalidInput))
    (object_at letters tree (parent_of path))
    (λ parent. either tree (is_name (last_of path)) (added letters object path tree, done) (tree, refused InvalidInput)
    (finished tree (added letters object path tree)) (λ error e. refl))

storage_made_keeps : (letters : CaseTable) (tree : Tree) (path : Path) (moment : ℕ) → Keeps tree (storage_made letters tree path moment)
storage_made_keeps letters tree path moment =
    either tree (is_some (object_at letters tree path)) _ _ (λ error e. refl) (made_keeps letters tree path (a_storage (last_of path) (made_at moment) nothing))

stream_made_keeps : (letters : CaseTable) (tree : Tree) (path : Path) (found : Option Object) → Keeps tree (stream_made letters tree path found)
stream_made_keeps letters tree path None = made_keeps letters tree path (a_stream (last_of path) 0 [])
stream_made_keeps letters tree path (Some (a_stream n s b)) = finished tree _
stream_made_keeps letters tree path (Some (a_storage n f i)) = λ error e. refl

removed_keeps : (letters : CaseTable) (tree : Tree) (path : Path) (object : Object) → Keeps tree (storage_removed letters tree path object)
removed_keeps letters tree [] object = λ error e. refl
removed_keeps letters tree (name ∷ names) object = either tree (is_empty (inside_of object)) _ _ (finished tree _) (λ error e. refl)

settled_keeps : (tree new : Tree) (answer : Answer) → Keeps tree (settled tree (new, answer))
settled_keeps tree new done error e = absurd (cc)
settled_keeps tree new (yes b) error e = absurd (cc)
settled_keeps tree new (an_entry x) error e = absurd (cc)
settled_keeps tree new (entries xs) error e = absurd (cc)
settled_keeps tree new (has_bytes b) error e = absurd (cc)
settled_keeps tree new (refused r) error e = refl

pub refused_keeps : (letters : CaseTable) (tree : Tree) (call : Call) (error : Error) → (tree_step letters tree call).1 ≡ refused error → (tree_step letters tree call).0 ≡ tree
refused_keeps letters tree root_entry = λ error e. refl
refused_keeps letters tree (entry path) = object_keeps tree _ (object_at letters tree path) (λ o error e. refl)
refused_keeps letters tree (exists path) = λ error e. refl
refused_keeps letters tree (is_stream path) = λ error e. refl
refused_keeps letters tree (is_storage path) = λ error e. refl
refused_keeps letters tree read_root_storage = λ error e. refl
refused_keeps letters tree (read_storage path) =
    storage_keeps tree (λ o. (tree, entries (children_shown path (inside_of o)))) (object_at letters tree path) (λ o error e. refl)
refused_keeps letters tree walk = λ error e. refl
refused_keeps letters tree (walk_storage path) =
    storage_keeps tree (λ o. (tree, entries (shown (stored_path path o) o ∷ all_shown (stored_path path o) (inside_of o))))
    (object_at letters tree path) (λ o error e. refl)
refused_keeps letters tree (create_storage path moment) = storage_made_keeps letters tree path moment
refused_keeps letters tree (create_storage_all path moment) =
    let all = with_storages letters moment [] path (tree, done) in settled_keeps tree all.0 all.1
refused_keeps letters tree (remove_storage path) = storage_keeps tree _ (object_at letters tree path) (removed_keeps letters tree path)
refused_keeps letters tree (remove_storage_all path) =
    storage_done tree (removed letters path tree) (object_at letters tree path)
refused_keeps letters tree (set_storage_clsid path clsid) =
    storage_done tree (changed letters (having (λ facts. record facts { clsid = clsid })) path tree) (object_at letters tree path)
refused_keeps letters tree (set_state_bits path bits) =
    object_done tree (changed letters (with_state_bits bits) path tree) (object_at letters tree path)
refused_keeps letters tree (touch path moment) =
    object_done tree (changed letters (having (below_root path (λ facts. record facts { modified = moment }))) path tree) (object_at letters tree path)
refused_keeps letters tree (set_created_time path moment) =
    object_done tree (changed letters (having (below_root path (λ facts. record facts { created = moment }))) path tree) (object_at letters tree path)
refused_keeps letters tree (set_modified_time path moment) =
    object_done tree (changed letters (having (below_root path (λ facts. record facts { modified = moment }))) path tree) (object_at letters tree path)
refused_keeps letters tree (create_stream path) = stream_made_keeps letters tree path (object_at letters tree path)
refused_keeps letters tree (create_new_stream path) =
    either tree (is_some (object_at letters tree path)) _ _ (λ error e. refl) (made_keeps letters tree path (a_stream (last_of path) 0 []))
refused_keeps letters tree (open_stream path) = stream_keeps tree _ (object_at letters tree path) (λ b error e. refl)
refused_keeps letters tree (open_read_stream path) = stream_keeps tree _ (object_at letters tree path) (λ b error e. refl)
refused_keeps letters tree (close_stream path content) =
    stream_done tree (changed letters (with_bytes content) path tree) (object_at letters tree path)
refused_keeps letters tree (remove_stream path) =
    stream_done tree (removed letters path tree) (object_at letters tree path)
refused_keeps letters tree flush = λ error e. refl
refused_keeps letters tree commit = λ error e. refl
