-- An object of a tree is changed in its place.
use Rattle.std.proofs.Common.{◌≡◌, ℕ, false, List, [], ◌∷◌, ◌++◌, refl, sym, ◌∙◌, ap, subst}
use Rattle.std.specs.Prelude.{slice_get, slice_set, Some, nat_eq, codes}
use Rattle.std.specs.List.{AllByRecursion, IsDistinct}
use Rattle.cfb_tree.specs.Names.{CaseTable}
use Rattle.cfb_tree.specs.Paths.{Path}
use Rattle.cfb_tree.specs.Tree.{IsOrdered, Tree}
use Rattle.cfb_tree.specs.Directory.{Entry, Siblings, Holds}
use Rattle.cfb_tree.specs.Objects.{Object, a_stream, a_storage, name_of, root_object, tree_of, object_at, IsObject, EntriesHoldTree}
use Rattle.cfb_tree.specs.Changes.{changed}
use Rattle.cfb_tree.proofs.OneContent.{Some_same}
use Rattle.cfb_siblings.specs.Changes.{IsApart, HasSameLinks, ObjectBecomes, KeepBytes, HoldsOn}
use Rattle.cfb_siblings.specs.Places.{LeadsTo}
use Rattle.cfb_siblings.proofs.Parts.{Stays, AllStay, LinksStay}
use Rattle.cfb_siblings.proofs.Lists.{all_parts, apart_in, apart_turned}
use Rattle.cfb_siblings.proofs.Frames.{set_changes_only, set_found, siblings_links, siblings_stay, holds_stays, outermost}
use Rattle.cfb_siblings.proofs.Changing.{stream_changed, storage_changed}
use Rattle.cfb_siblings.proofs.Ordering.{IsOrderedObject}
use Rattle.cfb_siblings.proofs.Spots.{spot}

module _ (old : List Entry) (Reads Reads' : Entry → List ℕ → Type 0) (id : ℕ) (e f : Entry) (found : slice_get old id ≡ Some e) (same : HasSameLinks e f) where
  abbrev new : List Entry
  new = slice_set old id f

  now : slice_get new id ≡ Some f
  now = set_found old id e f found

  -- the others stay
  others_stay : (ids : List ℕ) → IsApart id ids → KeepBytes Reads Reads' old id ids → AllStay old new Reads Reads' ids
  others_stay [] apart keep = tt
  others_stay (k ∷ ids) apart keep = (
    λ g g_found. record {
      now = g;
      found = set_changes_only old id f k g apart.0 g_found;
      same = record { name_units = refl; name_len = refl; kind = refl; facts = refl };
      left = refl;
      right = refl;
      child = refl;
      reads = λ bytes r. keep.0 apart.0 g bytes g_found r;
    },
    others_stay ids apart.1 keep.1,
  )

  links_stay : LinksStay old new id
  links_stay g g_found =
      let is : e ≡ g = Some_same (sym found ∙ g_found) in
      (f, now, same.left ∙ ap (λ y. y.left) is, same.right ∙ ap (λ y. y.right) is)

  became : (o other : Object) (own : List ℕ) → IsObject old Reads id o own → ObjectBecomes Reads' f o other → AllStay old new Reads Reads' own
      → IsObject new Reads' id other own
  became (a_stream n b x) (a_stream n' b' x') own is (named, bits, reads) stay =
      subst (λ m. IsObject new Reads' id (a_stream m b' x') own) (sym named)
      (let it = stream_changed old new Reads Reads' id n b b' x x' own e f found now same.name_units same.name_len same.kind bits reads is in
      (it.0, it.1, it.2, is.3))
  became (a_storage n h i) (a_storage n' h' i') own (g, children, at, siblings, inside) (named, facts, is) stay =
      let one : g ≡ e = Some_same (sym at.found ∙ found) in
      let ids = outermost old new Reads Reads' (λ k. (x : Entry) → slice_get old k ≡ Some x → Stays old new Reads Reads' k x) i children own inside stay in
      subst (λ m. IsObject new Reads' id (a_storage m h' i') own) (sym named)
      (subst (λ c. IsObject new Reads' id (a_storage n h' c) own) (sym is)
      (storage_changed old new Reads Reads' id n h h' i i own own children e f found now same.name_units same.name_len same.kind facts
      (subst (λ k. Siblings new k children) (ap (λ y. y.child) one ∙ sym same.child) (siblings_stay old new Reads Reads' g.child children ids siblings))
      (holds_stays old new Reads Reads' i children own stay inside) (g, children, at, siblings, inside)))
  became (a_stream n b x) (a_storage n' h' i') own is never stay = absurd never
  became (a_storage n h i) (a_stream n' b' x') own is never stay = absurd never

name_stays : (Reads : Entry → List ℕ → Type 0) (f : Entry) (o other : Object) → ObjectBecomes Reads f o other → name_of other ≡ name_of o
name_stays Reads f (a_stream n b x) (a_stream n' b' x') is = is.0
name_stays Reads f (a_storage n h i) (a_storage n' h' i') is = is.0
name_stays Reads f (a_stream n b x) (a_storage n' h' i') is = absurd is
name_stays Reads f (a_storage n h i) (a_stream n' b' x') is = absurd is

order_stays : (letters : CaseTable) (Reads : Entry → List ℕ → Type 0) (f : Entry) (o other : Object) → ObjectBecomes Reads f o other
    → IsOrderedObject letters o → IsOrderedObject letters other
order_stays letters Reads f (a_stream n b x) (a_stream n' b' x') is h = tt
order_stays letters Reads f (a_storage n h' i) (a_storage n' h'' i') is h = subst (IsOrdered letters) (sym is.2) h
order_stays letters Reads f (a_stream n b x) (a_storage n' h' i') is h = absurd is
order_stays letters Reads f (a_storage n h' i) (a_stream n' b' x') is h = absurd is

once_parts : (ids : List ℕ) → IsDistinct nat_eq (0 ∷ ids) → IsApart 0 ids × IsDistinct nat_eq ids
unfolding IsDistinct
once_parts ids once = (once.0, once.1)

module _ (letters : CaseTable) (Reads Reads' : Entry → List ℕ → Type 0) (old : List Entry) (tree : Tree) (f : Entry) (h : EntriesHoldTree letters Reads old tree) where
  -- the root's facts
  root_became : (other : Object) (e : Entry) → slice_get old 0 ≡ Some e → HasSameLinks e f → ObjectBecomes Reads' f (root_object tree) other
      → KeepBytes Reads Reads' old 0 h.ids → HoldsOn letters Reads' (slice_set old 0 f) (tree_of tree other) h.ids
  root_became (a_stream n b x) e found same never keep = absurd never
  root_became (a_storage n g i) e found same (named, facts, is) keep =
      let one : h.root ≡ e = Some_same (sym h.root_found ∙ found) in
      let stay = others_stay old Reads Reads' 0 e f found same h.ids (once_parts h.ids h.once).0 keep in
      let new = slice_set old 0 f in
      let ids = outermost old new Reads Reads' (λ k. (x : Entry) → slice_get old k ≡ Some x → Stays old new Reads Reads' k x) tree.content h.children h.ids h.holds stay in
      record {
        holds = record {
          root = f;
          root_found = set_found old 0 e f found;
          root_kind = same.kind ∙ ap (λ y. y.kind) (sym one) ∙ h.root_kind;
          facts = facts;
          children = h.children;
          ids = h.ids;
          siblings = subst (λ k. Siblings new k h.children) (ap (λ y. y.child) one ∙ sym same.child)
              (siblings_stay old new Reads Reads' h.root.child h.children ids h.siblings);
          holds = subst (λ c. Holds new Reads' h.children c h.ids) (sym is) (holds_stays old new Reads Reads' tree.content h.children h.ids stay h.holds);
          once = h.once;
          ordered = subst (IsOrdered letters) (sym is) h.ordered;
        };
        ids_are = refl;
      }

  -- LAW: the tree with the object changed
  pub edited : (path : Path) (id : ℕ) (change : Object → Object) (object : Object) (e : Entry) → LeadsTo letters old 0 path id
      → object_at letters tree path ≡ Some object → slice_get old id ≡ Some e → HasSameLinks e f → ObjectBecomes Reads' f object (change object)
      → KeepBytes Reads Reads' old id h.ids → HoldsOn letters Reads' (slice_set old id f) (changed letters change path tree) h.ids
  edited [] id change object e leads at found same is keep =
      subst (λ k. HoldsOn letters Reads' (slice_set old k f) (changed letters change [] tree) h.ids) (sym leads)
      (root_became (change (root_object tree)) e (subst (λ k. slice_get old k ≡ Some e) leads found) same
      (subst (λ o. ObjectBecomes Reads' f o (change o)) (sym (Some_same at)) is)
      (subst (λ k. KeepBytes Reads Reads' old k h.ids) leads keep))
  edited (wanted ∷ names) id change object e leads at found same is keep =
      let s = spot old Reads Reads' letters names wanted 0 h.root h.children tree.content h.ids id h.root_found h.siblings h.holds h.ordered leads in
      let one : object ≡ s.object = Some_same (sym at ∙ s.found (codes "Root Entry") tree.root) in
      let becomes : ObjectBecomes Reads' f s.object (change s.object) = subst (λ o. ObjectBecomes Reads' f o (change o)) one is in
      let once = (once_parts h.ids h.once).1 in
      let apart = apart_in s.sooner id (s.own ++ s.further) (subst (IsDistinct nat_eq) s.all_is once) in
      let behind = all_parts (λ k. nat_eq id k ≡ false) s.own s.further apart.1 in
      let Keeps = λ (k : ℕ). nat_eq id k ≡ false → (g : Entry) (bytes : List ℕ) → slice_get old k ≡ Some g → Reads g bytes → Reads' g bytes in
      let keeps = all_parts Keeps s.sooner (id ∷ (s.own ++ s.further)) (subst (AllByRecursion Keeps) s.all_is keep) in
      let after = all_parts Keeps s.own s.further keeps.1.1 in
      let sooner = others_stay old Reads Reads' id e f found same s.sooner apart.0 keeps.0 in
      let own = others_stay old Reads Reads' id e f found same s.own behind.0 after.0 in
      let further = others_stay old Reads Reads' id e f found same s.further behind.1 after.1 in
      let new = slice_set old id f in
      let links = links_stay old Reads Reads' id e f found same in
      let root = apart_turned 0 id ((all_parts (λ k. nat_eq 0 k ≡ false) s.sooner (id ∷ (s.own ++ s.further))
      (subst (IsApart 0) s.all_is (once_parts h.ids h.once).0)).1.0) in
      record {
        holds = record {
          root = h.root;
          root_found = set_changes_only old id f 0 h.root root h.root_found;
          root_kind = h.root_kind;
          facts = h.facts;
          children = h.children;
          ids = s.sooner ++ id ∷ (s.own ++ s.further);
          siblings = siblings_links old new h.root.child h.children (s.links new links sooner further) h.siblings;
          holds = s.held new change s.own links sooner further
              (became old Reads Reads' id e f found same s.object (change s.object) s.own s.is_object becomes own);
          once = subst (λ xs. IsDistinct nat_eq (0 ∷ xs)) s.all_is h.once;
          ordered = s.reordered change (name_stays Reads' f s.object (change s.object) becomes)
              (order_stays letters Reads' f s.object (change s.object) becomes (s.ordered h.ordered)) h.ordered;
        };
        ids_are = sym s.all_is;
      }
