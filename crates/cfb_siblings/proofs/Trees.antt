-- The storage at the end of a path of a tree, and another content in it.
use Rattle.std.proofs.Common.{◌≡◌, ℕ, List, [], ◌∷◌, ◌++◌, refl, sym, ◌∙◌, ap, subst, append-nil, arith}
use Rattle.std.specs.Prelude.{slice_get, Some, nat_eq, codes}
use Rattle.std.specs.List.{IsDistinct}
use Rattle.std.specs.declared.cmp.Ordering.TheVariants.{Equal}
use Rattle.cfb_tree.specs.Names.{CaseTable}
use Rattle.cfb_tree.specs.Paths.{Path}
use Rattle.cfb_tree.specs.Tree.{Facts, Content, Tree, IsOrdered}
use Rattle.cfb_tree.specs.Directory.{Entry, Siblings, Holds, HasName, kind_root, kind_stream}
use Rattle.cfb_tree.specs.Objects.{a_storage, name_of, object_at, IsObject, EntriesHoldTree}
use Rattle.cfb_tree.specs.Changes.{holding, changed}
use Rattle.cfb_tree.proofs.OneContent.{Some_same}
use Rattle.cfb_siblings.specs.Places.{IsEntryNamed, IsOwner, LeadsTo, LeadsBy, IsStorageAt}
use Rattle.cfb_siblings.proofs.Parts.{HasSameFacts, LinksStay, AllStay}
use Rattle.cfb_siblings.proofs.Lists.{distinct_parts}
use Rattle.cfb_siblings.proofs.Frames.{name_stays, siblings_links}
use Rattle.cfb_siblings.proofs.Changing.{storage_changed}
use Rattle.cfb_siblings.proofs.Ordering.{IsOrderedObject}
use Rattle.cfb_siblings.proofs.Spots.{spot, as_storage}

-- the entries hold the tree, and these are all of it
pub record HoldsJust (letters : CaseTable) (Reads : Entry → List ℕ → Type 0) (directory : List Entry) (tree : Tree) (all : List ℕ) : Type 0 where
  pub holds : EntriesHoldTree letters Reads directory tree
  pub all_is : 0 ∷ holds.ids ≡ all

module _ (old : List Entry) (Reads Reads' : Entry → List ℕ → Type 0) (letters : CaseTable) (tree : Tree) where
  -- the path leads to storage p, which holds a content; and the tree with another content in it
  pub record Storing (path : Path) (p : ℕ) (ids : List ℕ) : Type 0 where
    pub entry : Entry
    pub found : slice_get old p ≡ Some entry
    pub name : List ℕ
    pub facts : Facts
    pub inside : Content
    pub children : List ℕ
    pub sooner : List ℕ
    pub within : List ℕ
    pub further : List ℕ
    pub all_is : 0 ∷ ids ≡ sooner ++ p ∷ (within ++ further)
    pub at_path : object_at letters tree path ≡ Some (a_storage name facts inside)
    pub siblings : Siblings old entry.child children
    pub holds : Holds old Reads children inside within
    pub ordered : IsOrdered letters inside
    pub changed_so : (new : List Entry) (change : Content → Content) (within' children' : List ℕ) (f : Entry) → slice_get new p ≡ Some f → HasSameFacts entry f
        → f.left ≡ entry.left → f.right ≡ entry.right → AllStay old new Reads Reads' sooner → AllStay old new Reads Reads' further
        → Siblings new f.child children' → Holds new Reads' children' (change inside) within' → IsDistinct nat_eq (sooner ++ p ∷ (within' ++ further))
        → IsOrdered letters (change inside)
        → HoldsJust letters Reads' new (changed letters (holding change) path tree) (sooner ++ p ∷ (within' ++ further))
    pub leads_so : (new : List Entry) (f : Entry) → slice_get new p ≡ Some f → HasSameFacts entry f → f.left ≡ entry.left → f.right ≡ entry.right
        → AllStay old new Reads Reads' sooner → AllStay old new Reads Reads' further
        → LeadsTo letters new 0 path p × ((way : List ℕ) → LeadsBy letters old 0 path way → LeadsBy letters new 0 path way)

  module _ (h : EntriesHoldTree letters Reads old tree) where
    root_owns : h.root.kind ≡ kind_stream → ⊥
    root_owns kind = let never : kind_root ≡ kind_stream = sym h.root_kind ∙ kind in omega (arith, never)

    -- the root
    storing_root : Storing [] 0 h.ids
    storing_root = record {
      entry = h.root;
      found = h.root_found;
      name = codes "Root Entry";
      facts = tree.root;
      inside = tree.content;
      children = h.children;
      sooner = [];
      within = h.ids;
      further = [];
      all_is = ap (λ ids. 0 ∷ ids) (sym (append-nil h.ids));
      at_path = refl;
      siblings = h.siblings;
      holds = h.holds;
      ordered = h.ordered;
      changed_so = λ new change within' children' f found same left right sooner further siblings holds once ordered. record {
        holds = record {
          root = f;
          root_found = found;
          root_kind = same.kind ∙ h.root_kind;
          facts = same.facts ∙ h.facts;
          children = children';
          ids = within';
          siblings = siblings;
          holds = holds;
          once = subst (λ ids. IsDistinct nat_eq (0 ∷ ids)) (append-nil within') once;
          ordered = ordered;
        };
        all_is = ap (λ ids. 0 ∷ ids) (sym (append-nil within'));
      };
      leads_so = λ new f found same left right sooner further. (refl, λ way by. by);
    }

    -- a storage that stays but for what hangs below it keeps its links and its name
    links_still : (p : ℕ) (owner : IsOwner old p) (new : List Entry) (f : Entry) → slice_get new p ≡ Some f → f.left ≡ owner.entry.left → f.right ≡ owner.entry.right
        → LinksStay old new p
    links_still p owner new f found left right x x_found =
        subst (λ y. (z : Entry) × (slice_get new p ≡ Some z) × (z.left ≡ y.left) × (z.right ≡ y.right)) (Some_same (sym owner.found ∙ x_found))
        (f, found, left, right)

    name_still : (p : ℕ) (owner : IsOwner old p) (new : List Entry) (f : Entry) → slice_get new p ≡ Some f → HasSameFacts owner.entry f
        → (wanted : List ℕ) → IsEntryNamed letters old wanted Equal p → IsEntryNamed letters new wanted Equal p
    name_still p owner new f found same wanted is = record {
      entry = f;
      found = found;
      name = is.name;
      named = name_stays owner.entry f is.name same (subst (λ y. HasName y is.name) (Some_same (sym is.found ∙ owner.found)) is.named);
      compared = is.compared;
    }

    -- a storage below it
    storing_below : (wanted : List ℕ) (names : Path) (p : ℕ) → LeadsTo letters old 0 (wanted ∷ names) p → (owner : IsOwner old p)
        → Storing (wanted ∷ names) p h.ids
    storing_below wanted names p leads owner =
        let s = spot old Reads Reads' letters names wanted 0 h.root h.children tree.content h.ids p h.root_found h.siblings h.holds h.ordered leads in
        let so = as_storage old Reads p owner.entry s.object s.own s.is_object owner.found owner.holds in
        record {
          entry = owner.entry;
          found = owner.found;
          name = so.name;
          facts = so.facts;
          inside = so.inside;
          children = so.children;
          sooner = 0 ∷ s.sooner;
          within = s.own;
          further = s.further;
          all_is = ap (λ ids. 0 ∷ ids) s.all_is;
          at_path = s.found (codes "Root Entry") tree.root ∙ ap Some so.object_is;
          siblings = so.siblings;
          holds = so.holds;
          ordered = subst (IsOrderedObject letters) so.object_is (s.ordered h.ordered);
          changed_so = λ new change within' children' f found same left right sooner further siblings holds once ordered.
              let root = sooner.0 h.root h.root_found in
              let p_links = links_still p owner new f found left right in
              let object = storage_changed old new Reads Reads' p so.name so.facts so.facts so.inside (change so.inside) s.own within' children' owner.entry f
              owner.found found same.name_units same.name_len same.kind (same.facts ∙ so.facts_are) siblings holds
              (subst (λ o. IsObject old Reads p o s.own) so.object_is s.is_object) in
              record {
                holds = record {
                  root = root.now;
                  root_found = root.found;
                  root_kind = root.same.kind ∙ h.root_kind;
                  facts = root.same.facts ∙ h.facts;
                  children = h.children;
                  ids = s.sooner ++ p ∷ (within' ++ s.further);
                  siblings = subst (λ k. Siblings new k h.children) (sym root.child)
                      (siblings_links old new h.root.child h.children (s.links new p_links sooner.1 further) h.siblings);
                  holds = s.held new (holding change) within' p_links sooner.1 further
                      (subst (λ o. IsObject new Reads' p (holding change o) within') (sym so.object_is) object);
                  once = once;
                  ordered = s.reordered (holding change) (subst (λ o. name_of (holding change o) ≡ name_of o) (sym so.object_is) refl)
                      (subst (λ o. IsOrderedObject letters (holding change o)) (sym so.object_is) ordered) h.ordered;
                };
                all_is = refl;
              };
          leads_so = λ new f found same left right sooner further.
              let root = sooner.0 h.root h.root_found in
              let p_links = links_still p owner new f found left right in
              let led = s.leads new p_links (name_still p owner new f found same) sooner.1 further 0
              (record { entry = root.now; found = root.found; holds = λ kind. root_owns (sym root.same.kind ∙ kind) })
              (subst (λ k. Siblings new k h.children) (sym root.child) (siblings_links old new h.root.child h.children (s.links new p_links sooner.1 further) h.siblings)) in
              let before : IsOwner old 0 = record { entry = h.root; found = h.root_found; holds = root_owns } in
              (led.0, λ way by. subst (LeadsBy letters new 0 (wanted ∷ names)) (sym (s.one_way 0 before h.siblings way by)) led.1);
        }

    -- LAW: the storage to which a path leads
    pub storing : (path : Path) (p : ℕ) → IsStorageAt letters old path p → Storing path p h.ids
    storing [] p at = subst (λ k. Storing [] k h.ids) (sym at.leads) storing_root
    storing (wanted ∷ names) p at = storing_below wanted names p at.leads at.owner

  -- no entry of it stands twice
  pub storing_once : (path : Path) (p : ℕ) (ids : List ℕ) (it : Storing path p ids) → IsDistinct nat_eq (0 ∷ ids) → IsDistinct nat_eq (p ∷ it.within)
  storing_once path p ids it once =
      let whole = (distinct_parts it.sooner (p ∷ (it.within ++ it.further)) (subst (IsDistinct nat_eq) it.all_is once)).1 in
      (distinct_parts (p ∷ it.within) it.further whole).0
