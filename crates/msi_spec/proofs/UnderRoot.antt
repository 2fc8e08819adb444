-- Paths of one name lead to the objects under the root, and what is read there is what stands at the name.
use Rattle.std.proofs.Common.{◌≡◌, ◌∙◌, ℕ, false, cond, List, [], ◌∷◌, refl, sym, ap, Some, None}
use Rattle.std.specs.Prelude.{Option, option_and_then}
use Rattle.cfb_tree.specs.Names.{CaseTable}
use Rattle.cfb_tree.specs.Tree.{Content, nothing, stream, storage, Tree}
use Rattle.cfb_spec.specs.TreeRules.{Answer, Object, a_storage, a_stream, child, has_bytes, is_same_name, is_stream, is_stream_found, object_at, object_from, on_stream, open_read_stream, tree_step, yes}
use Rattle.msi_spec.specs.Package.{at_name, object_bytes, objects, stream_at}

pub child_is : (letters : CaseTable) (content : Content) (name : List ℕ) → child letters content name ≡ at_name letters (objects content) name
child_is letters nothing name = refl
child_is letters (stream key bits bytes later) name = ap (cond (is_same_name letters name key) (Some (a_stream key bits bytes))) (child_is letters later name)
child_is letters (storage key facts inside later) name = ap (cond (is_same_name letters name key) (Some (a_storage key facts inside))) (child_is letters later name)

from_child : (letters : CaseTable) (o : Option Object) → object_from letters o [] ≡ o
from_child letters None = refl
from_child letters (Some o) = refl

pub at_path : (letters : CaseTable) (tree : Tree) (name : List ℕ) → object_at letters tree (name ∷ []) ≡ at_name letters (objects tree.content) name
at_path letters tree name = from_child letters (child letters tree.content name) ∙ child_is letters tree.content name

abbrev bytes_told : Answer → List ℕ
bytes_told (has_bytes bytes) = bytes
bytes_told _ = []

-- the rules answer with bytes: these stand at the name
pub read_at : (letters : CaseTable) (tree : Tree) (name bytes : List ℕ) → (tree_step letters tree (open_read_stream (name ∷ []))).1 ≡ has_bytes bytes
    → stream_at letters (objects tree.content) name ≡ Some bytes
read_at letters tree name bytes e = told (object_at letters tree (name ∷ [])) (at_path letters tree name) e
  where
    told : (o : Option Object) → o ≡ at_name letters (objects tree.content) name → (on_stream tree (λ b. (tree, has_bytes b)) o).1 ≡ has_bytes bytes
        → stream_at letters (objects tree.content) name ≡ Some bytes
    told None same e = absurd (cc)
    told (Some (a_stream key bits content)) same e = ap (option_and_then object_bytes) (sym same) ∙ ap (λ b. Some b) (ap bytes_told e)
    told (Some (a_storage key facts inside)) same e = absurd (cc)

-- the rules say that no stream is there: none stands at the name
pub none_at : (letters : CaseTable) (tree : Tree) (name : List ℕ) → yes false ≡ (tree_step letters tree (is_stream (name ∷ []))).1
    → stream_at letters (objects tree.content) name ≡ None
none_at letters tree name e = told (object_at letters tree (name ∷ [])) (at_path letters tree name) e
  where
    told : (o : Option Object) → o ≡ at_name letters (objects tree.content) name → yes false ≡ yes (is_stream_found o) → stream_at letters (objects tree.content) name ≡ None
    told None same e = ap (option_and_then object_bytes) (sym same)
    told (Some (a_stream key bits content)) same e = absurd (cc)
    told (Some (a_storage key facts inside)) same e = ap (option_and_then object_bytes) (sym same)
