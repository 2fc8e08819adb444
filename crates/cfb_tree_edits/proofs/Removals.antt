-- What the rules say where an object is to be removed.
use Rattle.std.proofs.Common.{◌≡◌, ℕ, ◌-◌, ◌<◌, chars, get_or, List, [], ◌∷◌, ◌++◌, length, refl, ap, sym, subst, ◌∙◌, arith}
use Rattle.std.specs.Borrow.{Bor}
use Rattle.std.specs.Prelude.{slice_get, None, Option, Some}
use Rattle.cfb_spec.specs.TreeRules.{done, refused, remove_stream, tree_step}
use Rattle.cfb_medium.specs.declared.error.Error.TheVariants.{InvalidInput, NotFound}
use Rattle.cfb_siblings.specs.Places.{path_of, path_to}
use Rattle.cfb_tree.specs.Changes.{last_of, parent_of, removed}
use Rattle.cfb_tree.specs.Directory.{kind_storage, kind_stream, Entry}
use Rattle.cfb_tree.specs.Names.{CaseTable}
use Rattle.cfb_tree.specs.Objects.{a_storage, a_stream, child, inside_of, object_at, object_from, root_object, IsObject, Object}
use Rattle.cfb_tree.specs.Paths.{Path}
use Rattle.cfb_tree.specs.Tree.{Content, Facts, Tree}
use Rattle.cfb_tree.proofs.OneContent.{Some_same}
use Rattle.cfb_tree_edits.proofs.FactRules.{MatchObject}
use Rattle.cfb_tree_edits.proofs.NewPlaces.{last_is, length-path}
use Rattle.cfb_entries.proofs.Others.{path_is}
use Rattle.cfb_siblings.proofs.Following.{object_from_none}

from_joined : (letters : CaseTable) (xs : Path) (o : Option Object) (ys : Path) → object_from letters o (xs ++ ys) ≡ object_from letters (object_from letters o xs) ys
from_joined letters xs None ys = object_from_none letters (xs ++ ys) ∙ sym (ap (λ o. object_from letters o ys) (object_from_none letters xs) ∙ object_from_none letters ys)
from_joined letters [] (Some o) ys = refl
from_joined letters (x ∷ xs) (Some o) ys = from_joined letters xs (child letters (inside_of o) x) ys

module _ (letters : CaseTable) (tree : Tree) (path : Path) (some : 0 < length path) where
  at_last : (up : Option Object) → object_at letters tree (parent_of path) ≡ up → object_at letters tree path ≡ object_from letters up (last_of path ∷ [])
  at_last up is =
      ap (object_at letters tree) (sym (path_is path some)) ∙ from_joined letters (parent_of path) (Some (root_object tree)) (last_of path ∷ []) ∙ ap (λ o. object_from letters o (last_of path ∷ [])) is

  -- nothing is below nothing, nor below a stream
  pub none_below_none : object_at letters tree (parent_of path) ≡ None → object_at letters tree path ≡ None
  none_below_none up = at_last None up

  pub none_below_stream : (name : List ℕ) (bits : ℕ) (bytes : List ℕ) → object_at letters tree (parent_of path) ≡ Some (a_stream name bits bytes) → object_at letters tree path ≡ None
  none_below_stream name bits bytes up = at_last (Some (a_stream name bits bytes)) up

-- a stream's entry is one
pub kind_of_object : (directory : List Entry) (Reads : Entry → List ℕ → Type 0) (id : ℕ) (o : Object) (own : List ℕ) (e : Entry) → IsObject directory Reads id o own → slice_get directory id ≡ Some e → MatchObject o (e.kind ≡ kind_stream) (e.kind ≡ kind_stream → ⊥)
kind_of_object directory Reads id (a_stream name bits bytes) own e (x, is, reads, none) found =
    let same : x ≡ e = Some_same (sym is.found ∙ found) in ap (λ (y : Entry). y.kind) (sym same) ∙ is.of_kind
kind_of_object directory Reads id (a_storage name facts inside) own e (x, children, is, siblings, holds) found =
    let same : x ≡ e = Some_same (sym is.found ∙ found) in
    let kind : e.kind ≡ kind_storage = ap (λ (y : Entry). y.kind) (sym same) ∙ is.of_kind in (λ wrong. omega (arith, kind, wrong))

module _ (letters : CaseTable) (tree : Tree) (path : Path) where
  pub step_missing : object_at letters tree path ≡ None → (tree_step letters tree (remove_stream path)).1 ≡ refused NotFound
  step_missing at = rw at refl

  pub step_storage : (name : List ℕ) (facts : Facts) (inside : Content) → object_at letters tree path ≡ Some (a_storage name facts inside) → (tree_step letters tree (remove_stream path)).1 ≡ refused InvalidInput
  step_storage name facts inside at = rw at refl

  pub step_removed : (name : List ℕ) (bits : ℕ) (bytes : List ℕ) → object_at letters tree path ≡ Some (a_stream name bits bytes) → tree_step letters tree (remove_stream path) ≡ (removed letters path tree, done)
  step_removed name bits bytes at = rw at refl

-- the root is no stream
pub step_root : (letters : CaseTable) (tree : Tree) (path : Path) → path ≡ [] → (tree_step letters tree (remove_stream path)).1 ≡ refused InvalidInput
step_root letters tree path is = subst (λ p. (tree_step letters tree (remove_stream p)).1 ≡ refused InvalidInput) (sym is) refl

-- names are those of the last one's parent, and the last one
pub last_path : (names : List (Bor (List ℕ))) (other : Bor (List ℕ)) → 0 < length names → path_to (parent_of (path_of names)) (chars (get_or names (length names - 1) other).now) ≡ path_of names
last_path names other some = ap (path_to (parent_of (path_of names))) (sym (last_is names other some)) ∙ path_is (path_of names) (subst (λ n. 0 < n) (sym (length-path names)) some)
