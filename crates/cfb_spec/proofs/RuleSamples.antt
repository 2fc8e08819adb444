-- The rules at work on small trees, under the letter table of ASCII.
use Rattle.std.proofs.Common.{◌≡◌, List, [], ◌∷◌, refl, false}
use Rattle.std.specs.Prelude.{codes, Some, None}
use Rattle.cfb_medium.specs.declared.error.Error.TheVariants.{InvalidInput, NotFound, AlreadyExists}
use Rattle.cfb_tree.specs.Names.{ascii_letters, is_name, name_key, letter}
use Rattle.cfb_tree.specs.Paths.{path_names, path_text}
use Rattle.cfb_tree.specs.Tree.{nothing, stream, storage, Tree, child_names}
use Rattle.cfb_spec.specs.TreeRules.{tree_step, create_storage, create_storage_all, remove_storage, remove_storage_all, create_stream, close_stream, has_bytes, open_stream, refused, no_facts, made_at, Call}

empty : Tree
empty = record { root = no_facts; content = nothing }

-- one call after another
after : Tree → List Call → Tree
after tree [] = tree
after tree (call ∷ calls) = after (tree_step ascii_letters tree call).0 calls

-- fewer units come first, and letters of either case are one
siblings_rise : child_names (after empty (create_stream (codes "aa" ∷ []) ∷ create_stream (codes "Z" ∷ []) ∷ create_stream (codes "b" ∷ []) ∷ [])).content
    ≡ codes "b" ∷ codes "Z" ∷ codes "aa" ∷ []
unfolding empty after name_key letter
siblings_rise = refl

-- a stream that is there is emptied and keeps its name
stream_again : (after empty (create_stream (codes "a" ∷ []) ∷ close_stream (codes "a" ∷ []) (1 ∷ 2 ∷ []) ∷ create_stream (codes "A" ∷ []) ∷ [])).content
    ≡ stream (codes "a") 0 [] nothing
unfolding empty after name_key letter
stream_again = refl

stream_kept : tree_step ascii_letters (after empty (create_stream (codes "a" ∷ []) ∷ close_stream (codes "A" ∷ []) (1 ∷ 2 ∷ []) ∷ [])) (open_stream (codes "a" ∷ []))
    ≡ (record { root = no_facts; content = stream (codes "a") 0 (1 ∷ 2 ∷ []) nothing }, has_bytes (1 ∷ 2 ∷ []))
unfolding empty after name_key letter
stream_kept = refl

-- refusals
no_parent : (tree_step ascii_letters empty (create_stream (codes "x" ∷ codes "b" ∷ []))).1 ≡ refused NotFound
unfolding empty name_key letter
no_parent = refl

root_is_there : (tree_step ascii_letters empty (create_storage [] 5)).1 ≡ refused AlreadyExists
unfolding empty name_key letter
root_is_there = refl

with_content : (tree_step ascii_letters (after empty (create_storage_all (codes "x" ∷ codes "y" ∷ []) 5 ∷ [])) (remove_storage (codes "x" ∷ []))).1 ≡ refused InvalidInput
unfolding empty after name_key letter
with_content = refl

all_made : (after empty (create_storage_all (codes "x" ∷ codes "y" ∷ []) 5 ∷ [])).content
    ≡ storage (codes "x") (made_at 5) (storage (codes "y") (made_at 5) nothing nothing) nothing
unfolding empty after name_key letter
all_made = refl

tested_first : tree_step ascii_letters empty (create_storage_all (codes "x" ∷ codes "y:" ∷ []) 5) ≡ (empty, refused InvalidInput)
unfolding empty name_key letter
tested_first = refl

emptied : (after empty (create_storage_all (codes "x" ∷ codes "y" ∷ []) 5 ∷ remove_storage_all [] ∷ [])).content ≡ nothing
unfolding empty after name_key letter
emptied = refl

-- paths
path_taken_back : path_names (codes "/a/./b/../c") ≡ Some (codes "a" ∷ codes "c" ∷ [])
path_taken_back = refl

path_above : path_names (codes "..") ≡ None
path_above = refl

path_of_none : path_text [] ≡ codes "/"
path_of_none = refl

path_of_two : path_text (codes "a" ∷ codes "c" ∷ []) ≡ codes "/a/c"
path_of_two = refl

too_long : is_name (codes "ThisNameIsMostDefinitelyMuchTooLong") ≡ false
too_long = refl
