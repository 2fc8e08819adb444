-- A path that leads to a stream's entry leads to that stream in the tree, whichever bytes streams have.
use Rattle.std.proofs.Common.{◌≡◌, ◌==◌, ◌∙◌, ℕ, true, arith, List, [], ◌∷◌, ap, refl, sym, subst}
use Rattle.std.specs.Prelude.{codes, slice_get, Some}
use Rattle.cfb_spec.specs.TreeRules.{has_bytes, open_read_stream, tree_step}
use Rattle.cfb_siblings.specs.Places.{LeadsTo}
use Rattle.cfb_siblings.proofs.Spots.{spot}
use Rattle.cfb_tree.specs.Names.{CaseTable}
use Rattle.cfb_tree.specs.Paths.{Path}
use Rattle.cfb_tree.specs.Tree.{Tree}
use Rattle.cfb_tree.specs.Directory.{Entry, kind_root, kind_storage, kind_stream}
use Rattle.cfb_tree.specs.Objects.{Object, a_storage, a_stream, object_at, EntriesHoldTree, IsObject}
use Rattle.cfb_tree.proofs.OneContent.{Some_same}

-- what a test on kinds tells
pub is_kind : (a b : ℕ) → (a == b) ≡ true → a ≡ b
is_kind a b h = grind (arith, h)

-- the stream to which a path leads has these bytes
pub record StreamHeld (letters : CaseTable) (Reads : Entry → List ℕ → Type 0) (tree : Tree) (path : Path) (e : Entry) : Type 0 where
  pub bytes : List ℕ
  pub answer : (tree_step letters tree (open_read_stream path)).1 ≡ has_bytes bytes
  pub reads : Reads e bytes

module _ (letters : CaseTable) (Reads : Entry → List ℕ → Type 0) (directory : List Entry) (tree : Tree) (e : Entry) (kind : e.kind ≡ kind_stream) where
  object_held : (path : Path) (id : ℕ) (object : Object) (own : List ℕ) → slice_get directory id ≡ Some e → object_at letters tree path ≡ Some object
      → IsObject directory Reads id object own → StreamHeld letters Reads tree path e
  object_held path id (a_stream n b x) own at is (f, has, reads, empty) =
      record { bytes = x; answer = rw is refl; reads = subst (λ y. Reads y x) (Some_same (sym has.found ∙ at)) reads }
  object_held path id (a_storage n f i) own at is (g, children, has, siblings, inside) =
      let other : kind_storage ≡ kind_stream = sym has.of_kind ∙ ap (λ y. y.kind) (Some_same (sym has.found ∙ at)) ∙ kind in absurd (cc)

  pub stream_held : EntriesHoldTree letters Reads directory tree → (path : Path) (id : ℕ) → LeadsTo letters directory 0 path id → slice_get directory id ≡ Some e
      → StreamHeld letters Reads tree path e
  stream_held h [] id leads at =
      let root : h.root ≡ e = Some_same (sym h.root_found ∙ ap (slice_get directory) (sym leads) ∙ at) in
      let other : kind_root ≡ kind_stream = sym h.root_kind ∙ ap (λ y. y.kind) root ∙ kind in absurd (cc)
  stream_held h (name ∷ names) id leads at =
      let s = spot directory Reads Reads letters names name 0 h.root h.children tree.content h.ids id h.root_found h.siblings h.holds h.ordered leads in
      object_held (name ∷ names) id s.object s.own at (s.found (codes "Root Entry") tree.root) s.is_object
