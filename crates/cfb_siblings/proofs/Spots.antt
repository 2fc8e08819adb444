-- The object at the end of a path below a storage, and another in its place.
use Rattle.std.proofs.Common.{◌≡◌, ℕ, List, [], ◌∷◌, ◌++◌, refl, sym, ◌∙◌, ap, subst, append_assoc}
use Rattle.std.specs.Prelude.{slice_get, Some}
use Rattle.std.specs.List.{AllByRecursion}
use Rattle.std.specs.declared.cmp.Ordering.TheVariants.{Equal}
use Rattle.cfb_tree.specs.Names.{CaseTable}
use Rattle.cfb_tree.specs.Paths.{Path}
use Rattle.cfb_tree.specs.Tree.{Facts, Content, IsOrdered}
use Rattle.cfb_tree.specs.Directory.{Entry, Siblings, Holds, kind_stream}
use Rattle.cfb_tree.specs.Objects.{Object, a_stream, a_storage, name_of, object_from, IsObject}
use Rattle.cfb_tree.specs.Changes.{with_changed, changed_below}
use Rattle.cfb_tree.proofs.NamesRead.{all_append}
use Rattle.cfb_tree.proofs.OneContent.{siblings_unique, Some_same}
use Rattle.cfb_siblings.specs.Places.{IsChild, IsEntryNamed, IsOwner, LeadsTo, LeadsBy}
use Rattle.cfb_siblings.proofs.Parts.{LinksStay, Stays, AllStay}
use Rattle.cfb_siblings.proofs.Records.{Chosen}
use Rattle.cfb_siblings.proofs.Lists.{all_parts, all_map}
use Rattle.cfb_siblings.proofs.Frames.{name_stays, outermost, siblings_links}
use Rattle.cfb_siblings.proofs.Changing.{storage_changed, changed_holds}
use Rattle.cfb_siblings.proofs.Choosing.{choose, chosen_child, chosen_once}
use Rattle.cfb_siblings.proofs.Ordering.{IsOrderedObject}
use Rattle.cfb_siblings.proofs.KeptOrder.{chosen_ordered, changed_ordered}

-- a content with a change of the object at a path in it
abbrev pub changed_inside : CaseTable → (Object → Object) → Path → Content → Content
changed_inside letters change [] c = c
changed_inside letters change (name ∷ names) c = with_changed letters name (changed_below letters change names) c

-- entry `id` is no stream, so it is a storage
pub record AsStorage (directory : List Entry) (Reads : Entry → List ℕ → Type 0) (id : ℕ) (e : Entry) (object : Object) (own : List ℕ) : Type 0 where
  pub name : List ℕ
  pub facts : Facts
  pub inside : Content
  pub children : List ℕ
  pub object_is : object ≡ a_storage name facts inside
  pub facts_are : e.facts ≡ facts
  pub siblings : Siblings directory e.child children
  pub holds : Holds directory Reads children inside own

pub as_storage : (directory : List Entry) (Reads : Entry → List ℕ → Type 0) (id : ℕ) (e : Entry) (object : Object) (own : List ℕ)
    → IsObject directory Reads id object own → slice_get directory id ≡ Some e → (e.kind ≡ kind_stream → ⊥)
    → AsStorage directory Reads id e object own
as_storage directory Reads id e (a_stream n b x) own (f, at, reads, empty) found holds =
    absurd (holds (ap (λ y. y.kind) (Some_same (sym found ∙ at.found)) ∙ at.of_kind))
as_storage directory Reads id e (a_storage n f i) own (g, children, at, siblings, inside) found holds =
    let is : g ≡ e = Some_same (sym at.found ∙ found) in
    record {
      name = n;
      facts = f;
      inside = i;
      children = children;
      object_is = refl;
      facts_are = ap (λ y. y.facts) (sym is) ∙ at.has_facts;
      siblings = subst (λ y. Siblings directory y.child children) is siblings;
      holds = inside;
    }

module _ (old : List Entry) (Reads Reads' : Entry → List ℕ → Type 0) (letters : CaseTable) where
  -- entry `id` keeps its name
  abbrev pub NameStays : List Entry → ℕ → Type 0
  NameStays new id = (wanted : List ℕ) → IsEntryNamed letters old wanted Equal id → IsEntryNamed letters new wanted Equal id

  -- the path leads from the siblings `ids`, which hold the content, over the entries `way` alone to entry `at`; and what they hold
  -- with another object there
  pub record Spot (ids : List ℕ) (c : Content) (all : List ℕ) (path : Path) (at : ℕ) : Type 0 where
    pub object : Object
    pub sooner : List ℕ
    pub own : List ℕ
    pub further : List ℕ
    pub way : List ℕ
    pub all_is : all ≡ sooner ++ at ∷ (own ++ further)
    pub is_object : IsObject old Reads at object own
    pub found : (name : List ℕ) (facts : Facts) → object_from letters (Some (a_storage name facts c)) path ≡ Some object
    pub ordered : IsOrdered letters c → IsOrderedObject letters object
    pub links : (new : List Entry) → LinksStay old new at → AllStay old new Reads Reads' sooner → AllStay old new Reads Reads' further → AllByRecursion (LinksStay old new) ids
    pub leads : (new : List Entry) → LinksStay old new at → NameStays new at → AllStay old new Reads Reads' sooner → AllStay old new Reads Reads' further
        → (parent : ℕ) → (owner : IsOwner new parent) → Siblings new owner.entry.child ids
        → LeadsTo letters new parent path at × LeadsBy letters new parent path way
    pub one_way : (parent : ℕ) → (owner : IsOwner old parent) → Siblings old owner.entry.child ids
        → (others : List ℕ) → LeadsBy letters old parent path others → others ≡ way
    pub held : (new : List Entry) (change : Object → Object) (own' : List ℕ) → LinksStay old new at → AllStay old new Reads Reads' sooner
        → AllStay old new Reads Reads' further → IsObject new Reads' at (change object) own'
        → Holds new Reads' ids (changed_inside letters change path c) (sooner ++ at ∷ (own' ++ further))
    pub reordered : (change : Object → Object) → name_of (change object) ≡ name_of object → IsOrderedObject letters (change object)
        → IsOrdered letters c → IsOrdered letters (changed_inside letters change path c)

  abbrev Whole : List Entry → ℕ → Type 0
  Whole new k = (x : Entry) → slice_get old k ≡ Some x → Stays old new Reads Reads' k x

  stays_linked : (new : List Entry) (k : ℕ) → Whole new k → LinksStay old new k
  stays_linked new k stays x found = let here = stays x found in (here.now, here.found, here.left, here.right)

  stays_named : (new : List Entry) (k : ℕ) → Whole new k → NameStays new k
  stays_named new k stays wanted is =
      let here = stays is.entry is.found in
      record { entry = here.now; found = here.found; name = is.name; named = name_stays is.entry here.now is.name here.same is.named; compared = is.compared }

  -- siblings keep their links where one does and the others stay
  around_linked : (new : List Entry) (wanted : List ℕ) (ids : List ℕ) (c : Content) (all : List ℕ) (at : ℕ) (it : Chosen old Reads letters wanted ids c all at)
      → LinksStay old new at → AllStay old new Reads Reads' it.earlier_all → AllStay old new Reads Reads' it.later_all
      → AllByRecursion (LinksStay old new) ids
  around_linked new wanted ids c all at it links sooner further =
      let fronts = all_map (Whole new) (LinksStay old new) it.front (stays_linked new)
      (outermost old new Reads Reads' (Whole new) it.earlier it.front it.earlier_all it.holds_earlier sooner) in
      let backs = all_map (Whole new) (LinksStay old new) it.back (stays_linked new)
      (outermost old new Reads Reads' (Whole new) it.later it.back it.later_all it.holds_later further) in
      subst (AllByRecursion (LinksStay old new)) (sym it.ids_are) (all_append (LinksStay old new) it.front (at ∷ it.back) fronts (links, backs))

  -- the chosen entry is still the child of the name where siblings stay, and it is the only one
  child_now : (new : List Entry) (wanted : List ℕ) (ids : List ℕ) (c : Content) (all : List ℕ) (at : ℕ) → Chosen old Reads letters wanted ids c all at
      → IsEntryNamed letters new wanted Equal at → (parent : ℕ) → (owner : IsOwner new parent) → Siblings new owner.entry.child ids → IsChild letters new parent wanted at
  child_now new wanted ids c all at it named parent owner siblings = record {
    owner = owner;
    front = it.front;
    back = it.back;
    siblings = subst (Siblings new owner.entry.child) it.ids_are siblings;
    named = named;
  }

  chosen_of : (wanted : List ℕ) (parent : ℕ) (e : Entry) (ids : List ℕ) (c : Content) (all : List ℕ) (next : ℕ) → slice_get old parent ≡ Some e
      → Siblings old e.child ids → Holds old Reads ids c all → IsOrdered letters c → IsChild letters old parent wanted next
      → Chosen old Reads letters wanted ids c all next
  chosen_of wanted parent e ids c all next found siblings holds ordered child =
      let is : child.owner.entry ≡ e = Some_same (sym child.owner.found ∙ found) in
      choose old Reads letters wanted child.front next child.back ids c all
      (siblings_unique siblings (subst (λ y. Siblings old y.child (child.front ++ next ∷ child.back)) is child.siblings)) holds ordered.0 child.named

  only_child : (wanted : List ℕ) (ids : List ℕ) (c : Content) (all : List ℕ) (at : ℕ) → Holds old Reads ids c all → IsOrdered letters c
      → Chosen old Reads letters wanted ids c all at → IsEntryNamed letters old wanted Equal at → (parent : ℕ) → (owner : IsOwner old parent)
      → Siblings old owner.entry.child ids → (other : ℕ) → IsChild letters old parent wanted other → other ≡ at
  only_child wanted ids c all at holds ordered it named parent owner siblings other child =
      chosen_once old Reads letters wanted ids c all other at
      (chosen_of wanted parent owner.entry ids c all other owner.found siblings holds ordered child) it child.named named

  -- one name
  spot_one : (wanted : List ℕ) (ids : List ℕ) (c : Content) (all : List ℕ) (at : ℕ) → Chosen old Reads letters wanted ids c all at
      → IsEntryNamed letters old wanted Equal at → Holds old Reads ids c all → IsOrdered letters c → Spot ids c all (wanted ∷ []) at
  spot_one wanted ids c all at it named holds ordered = record {
    object = it.object;
    sooner = it.earlier_all;
    own = it.own;
    further = it.later_all;
    way = at ∷ [];
    all_is = it.all_is;
    is_object = it.is_object;
    found = λ name facts. ap (λ o. object_from letters o []) (chosen_child old Reads letters wanted ids c all at it);
    ordered = chosen_ordered old Reads letters wanted ids c all at it;
    links = λ new. around_linked new wanted ids c all at it;
    leads = λ new links still sooner further parent owner siblings.
        let child = child_now new wanted ids c all at it (still wanted named) parent owner siblings in
        ((at, child, refl), (at, [], refl, child, refl));
    one_way = λ parent owner siblings others by.
        by.2 ∙ ap (λ k. k ∷ by.1) (only_child wanted ids c all at holds ordered it named parent owner siblings by.0 by.3) ∙ ap (λ ks. at ∷ ks) by.4;
    held = λ new change own' links sooner further h. changed_holds old new Reads Reads' letters wanted ids c all at it change own' sooner further h;
    reordered = λ change named inside ordered. changed_ordered old Reads letters wanted ids c all at it change named inside ordered;
  }

  -- one name more in front
  spot_more : (wanted : List ℕ) (ids : List ℕ) (c : Content) (all : List ℕ) (p : ℕ) (it : Chosen old Reads letters wanted ids c all p)
      → IsEntryNamed letters old wanted Equal p → (e : Entry) → slice_get old p ≡ Some e → (e.kind ≡ kind_stream → ⊥) → (so : AsStorage old Reads p e it.object it.own)
      → Holds old Reads ids c all → IsOrdered letters c
      → (next : List ℕ) (names : Path) (at : ℕ) → Spot so.children so.inside it.own (next ∷ names) at → Spot ids c all (wanted ∷ next ∷ names) at
  spot_more wanted ids c all p it named e e_found owns so holds ordered next names at inner = record {
    object = inner.object;
    sooner = it.earlier_all ++ p ∷ inner.sooner;
    own = inner.own;
    further = inner.further ++ it.later_all;
    way = p ∷ inner.way;
    all_is = it.all_is ∙ ap (λ xs. it.earlier_all ++ p ∷ (xs ++ it.later_all)) inner.all_is ∙ simp append_assoc refl;
    is_object = inner.is_object;
    found = λ name facts. ap (λ o. object_from letters o (next ∷ names)) (chosen_child old Reads letters wanted ids c all p it)
        ∙ ap (λ o. object_from letters (Some o) (next ∷ names)) so.object_is ∙ inner.found so.name so.facts;
    ordered = λ h. inner.ordered (inner_ordered h);
    links = λ new links sooner further.
        let a = all_parts (Whole new) it.earlier_all (p ∷ inner.sooner) sooner in
        let b = all_parts (Whole new) inner.further it.later_all further in
        around_linked new wanted ids c all p it (stays_linked new p a.1.0) a.0 b.1;
    leads = λ new links still sooner further parent owner siblings.
        let a = all_parts (Whole new) it.earlier_all (p ∷ inner.sooner) sooner in
        let b = all_parts (Whole new) inner.further it.later_all further in
        let here = a.1.0 e e_found in
        let below : Siblings new here.now.child so.children = subst (λ k. Siblings new k so.children) (sym here.child)
        (siblings_links old new e.child so.children (inner.links new links a.1.1 b.0) so.siblings) in
        let child = child_now new wanted ids c all p it (stays_named new p a.1.0 wanted named) parent owner siblings in
        let rest = inner.leads new links still a.1.1 b.0 p (record { entry = here.now; found = here.found; holds = λ kind. owns (sym here.same.kind ∙ kind) }) below in
        ((p, child, rest.0), (p, inner.way, refl, child, rest.1));
    one_way = λ parent owner siblings others by.
        let is = only_child wanted ids c all p holds ordered it named parent owner siblings by.0 by.3 in
        by.2 ∙ ap (λ k. k ∷ by.1) is
        ∙ ap (λ ks. p ∷ ks) (inner.one_way p (record { entry = e; found = e_found; holds = owns }) so.siblings by.1
        (subst (λ k. LeadsBy letters old k (next ∷ names) by.1) is by.4));
    held = λ new change own' links sooner further h.
        let a = all_parts (Whole new) it.earlier_all (p ∷ inner.sooner) sooner in
        let b = all_parts (Whole new) inner.further it.later_all further in
        let here = a.1.0 e e_found in
        let siblings : Siblings new here.now.child so.children = subst (λ k. Siblings new k so.children) (sym here.child)
        (siblings_links old new e.child so.children (inner.links new links a.1.1 b.0) so.siblings) in
        let storage = storage_changed old new Reads Reads' p so.name so.facts so.facts so.inside (changed_inside letters change (next ∷ names) so.inside) it.own
        (inner.sooner ++ at ∷ (own' ++ inner.further)) so.children e here.now e_found here.found here.same.name_units here.same.name_len here.same.kind
        (here.same.facts ∙ so.facts_are) siblings (inner.held new change own' links a.1.1 b.0 h)
        (subst (λ o. IsObject old Reads p o it.own) so.object_is it.is_object) in
        let whole = changed_holds old new Reads Reads' letters wanted ids c all p it (changed_below letters change (next ∷ names))
        (inner.sooner ++ at ∷ (own' ++ inner.further)) a.0 b.1
        (subst (λ o. IsObject new Reads' p (changed_below letters change (next ∷ names) o) (inner.sooner ++ at ∷ (own' ++ inner.further)))
        (sym so.object_is) storage) in
        subst (Holds new Reads' ids (changed_inside letters change (wanted ∷ next ∷ names) c)) (simp append_assoc refl) whole;
    reordered = λ change named inside ordered. changed_ordered old Reads letters wanted ids c all p it (changed_below letters change (next ∷ names))
        (subst (λ o. name_of (changed_below letters change (next ∷ names) o) ≡ name_of o) (sym so.object_is) refl)
        (subst (λ o. IsOrderedObject letters (changed_below letters change (next ∷ names) o)) (sym so.object_is)
        (inner.reordered change named inside (inner_ordered ordered))) ordered;
  }
    where
      inner_ordered : IsOrdered letters c → IsOrdered letters so.inside
      inner_ordered h = subst (IsOrderedObject letters) so.object_is (chosen_ordered old Reads letters wanted ids c all p it h)

  -- LAW: where a path leads, there is an object, which can be changed
  pub spot : (names : Path) (wanted : List ℕ) (parent : ℕ) (e : Entry) (ids : List ℕ) (c : Content) (all : List ℕ) (at : ℕ)
      → slice_get old parent ≡ Some e → Siblings old e.child ids → Holds old Reads ids c all → IsOrdered letters c
      → LeadsTo letters old parent (wanted ∷ names) at → Spot ids c all (wanted ∷ names) at
  spot [] wanted parent e ids c all at found siblings holds ordered (next, child, at_is) =
      subst (Spot ids c all (wanted ∷ [])) (sym at_is)
      (spot_one wanted ids c all next (chosen_of wanted parent e ids c all next found siblings holds ordered child) child.named holds ordered)
  spot (name ∷ names) wanted parent e ids c all at found siblings holds ordered (next, child, (after, deeper, rest)) =
      let it = chosen_of wanted parent e ids c all next found siblings holds ordered child in
      let so = as_storage old Reads next deeper.owner.entry it.object it.own it.is_object deeper.owner.found deeper.owner.holds in
      spot_more wanted ids c all next it child.named deeper.owner.entry deeper.owner.found deeper.owner.holds so holds ordered name names at
      (spot names name next deeper.owner.entry so.children so.inside it.own at deeper.owner.found so.siblings so.holds
      (subst (IsOrderedObject letters) so.object_is (chosen_ordered old Reads letters wanted ids c all next it ordered)) (after, deeper, rest))
