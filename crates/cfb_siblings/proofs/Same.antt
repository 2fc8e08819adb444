-- A change that changes nothing, and what an object has inside.
use Rattle.std.proofs.Common.{◌≡◌, ℕ, Bool, true, false, List, [], ◌∷◌, ◌++◌, append-nil, refl, sym, ◌∙◌, ap}
use Rattle.std.specs.Prelude.{if◌then◌else◌}
use Rattle.cfb_tree.specs.Names.{CaseTable}
use Rattle.cfb_tree.specs.Paths.{Path}
use Rattle.cfb_tree.specs.Tree.{Content, nothing, stream, storage, Tree}
use Rattle.cfb_tree.specs.Directory.{Entry, Holds}
use Rattle.cfb_tree.specs.Objects.{Object, a_stream, a_storage, before, is_same_name, root_object, tree_of, IsObject}
use Rattle.cfb_tree.specs.Changes.{changed, changed_below, holding, with_changed}
use Rattle.cfb_tree.proofs.OneContent.{holds_unique}
use Rattle.cfb_siblings.specs.Places.{HasEntry}
use Rattle.cfb_siblings.proofs.Joining.{head}

module _ (letters : CaseTable) where
  same_content : (name : List ℕ) (f : Object → Object) → ((o : Object) → f o ≡ o) → (c : Content) → with_changed letters name f c ≡ c
  same_content name f same nothing = refl
  same_content name f same (stream n b x l) = either (is_same_name letters name n) (same_content name f same l)
    where
      either : (t : Bool) → with_changed letters name f l ≡ l
          → (if t then before (f (a_stream n b x)) l else stream n b x (with_changed letters name f l)) ≡ stream n b x l
      either true rest = ap (λ o. before o l) (same (a_stream n b x))
      either false rest = ap (stream n b x) rest
  same_content name f same (storage n g i l) = either (is_same_name letters name n) (same_content name f same l)
    where
      either : (t : Bool) → with_changed letters name f l ≡ l
          → (if t then before (f (a_storage n g i)) l else storage n g i (with_changed letters name f l)) ≡ storage n g i l
      either true rest = ap (λ o. before o l) (same (a_storage n g i))
      either false rest = ap (storage n g i) rest

  same_below : (change : Object → Object) → ((o : Object) → change o ≡ o) → (path : Path) (o : Object) → changed_below letters change path o ≡ o
  same_below change same [] o = same o
  same_below change same (name ∷ names) (a_stream n b x) = refl
  same_below change same (name ∷ names) (a_storage n f i) =
      ap (a_storage n f) (same_content name (changed_below letters change names) (same_below change same names) i)

  held_same : (o : Object) → holding (λ c. c) o ≡ o
  held_same (a_stream n b x) = refl
  held_same (a_storage n f i) = refl

  pub changed_same : (path : Path) (tree : Tree) → changed letters (holding (λ c. c)) path tree ≡ tree
  changed_same path tree = ap (tree_of tree) (same_below (holding (λ c. c)) held_same path (root_object tree))

-- whatever bytes streams have, the entries inside of an object are these
no_bytes : Entry → List ℕ → Type 0
no_bytes e bytes = bytes ≡ []

module _ (directory : List Entry) (Reads : Entry → List ℕ → Type 0) where
  emptied : (c : Content) (ids all : List ℕ) → Holds directory Reads ids c all → (d : Content) × Holds directory no_bytes ids d all
  unfolding no_bytes
  emptied nothing ids all h = (nothing, h)
  emptied (stream n b x l) ids all (e, id, others, rest, is, all_is, at, reads, later) =
      let tail = emptied l others rest later in (stream n b [] tail.0, (e, id, others, rest, is, all_is, at, refl, tail.1))
  emptied (storage n f i l) ids all (e, id, others, children, within, rest, is, all_is, at, siblings, inside, later) =
      let deep = emptied i children within inside in
      let tail = emptied l others rest later in
      (storage n f deep.0 tail.0, (e, id, others, children, within, rest, is, all_is, at, siblings, deep.1, tail.1))

  all_unique : (c d : Content) (ids xs ys : List ℕ) → Holds directory Reads ids c xs → Holds directory Reads ids d ys → xs ≡ ys
  unfolding no_bytes
  all_unique c d ids xs ys h k =
      let one = emptied c ids xs h in
      let other = emptied d ids ys k in
      (holds_unique directory no_bytes no_bytes (λ e a b is is'. is ∙ sym is') one.0 other.0 ids xs ys one.1 other.1).1

  pub own_unique : (id : ℕ) (o o' : Object) (own own' : List ℕ) → IsObject directory Reads id o own → IsObject directory Reads id o' own' → own ≡ own'
  own_unique id o o' own own' h k =
      let whole : id ∷ (own ++ []) ≡ id ∷ (own' ++ []) = all_unique (before o nothing) (before o' nothing) (id ∷ []) (id ∷ (own ++ [])) (id ∷ (own' ++ []))
      (head directory Reads id [] o nothing own [] h (refl, refl)) (head directory Reads id [] o' nothing own' [] k (refl, refl)) in
      let rest : own ++ [] ≡ own' ++ [] = cc in
      sym (append-nil own) ∙ rest ∙ append-nil own'

  pub object_found : (id : ℕ) (o : Object) (own : List ℕ) → IsObject directory Reads id o own → HasEntry directory id
  object_found id (a_stream n b x) own (e, at, reads, none) = (e, at.found)
  object_found id (a_storage n f i) own (e, children, at, siblings, inside) = (e, at.found)
