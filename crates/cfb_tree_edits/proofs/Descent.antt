-- The way down by links to children, to an object that holds nothing.
use Rattle.std.proofs.Common.{◌≡◌, ◌≢◌, ℕ, ◌+◌, ◌<◌, ◌≤◌, Bool, List, [], ◌∷◌, ◌++◌, length, length-append, refl, ap, sym, subst, ◌∙◌, arith}
use Rattle.std.specs.Prelude.{slice_get, None, Some}
use Rattle.std.specs.List.{AllByRecursion}
use Rattle.std.specs.Ordering.{ordering_reverse}
use Rattle.std.specs.declared.cmp.Ordering.{Ordering}
use Rattle.std.specs.declared.cmp.Ordering.TheVariants.{Equal, Greater, Less}
use Rattle.std.proofs.lemmas.Map.Steps.{length-le_from_distinct_below}
use Rattle.std.proofs.lemmas.Option.{slice_get_within}
use Rattle.cfb_siblings.specs.Places.{first, path_to, IsChild, IsEntryNamed, IsStorageAt, LeadsTo}
use Rattle.cfb_siblings.specs.Reading.{ReadBy}
use Rattle.cfb_siblings.specs.declared.links.Link.TheVariants.{Child}
use Rattle.cfb_siblings.proofs.Leading.{leads_on}
use Rattle.cfb_siblings.proofs.Searching.{middle, no_siblings, nothing_held, object_named, Middle}
use Rattle.cfb_siblings.proofs.Spots.{as_storage}
use Rattle.cfb_siblings.proofs.Trees.{storing}
use Rattle.cfb_tree.specs.Directory.{kind_stream, no_entry, none, some, Entry, Holds, Siblings}
use Rattle.cfb_tree.specs.Names.{name_cmp, CaseTable}
use Rattle.cfb_tree.specs.Objects.{a_storage, name_of, EntriesHoldTree}
use Rattle.cfb_tree.specs.Paths.{Path}
use Rattle.cfb_tree.specs.Tree.{nothing, storage, stream, Content, Tree}
use Rattle.cfb_tree.proofs.NameOrder.{name_cmp_total}
use Rattle.cfb_tree.proofs.NamesRead.{all_append}
use Rattle.cfb_tree.proofs.OneContent.{Some_same}
use Rattle.cfb_tree_edits.specs.WholeRemoval.{HasEmptyStorage, IsLeafAt}
use Rattle.cfb_siblings.proofs.Bounds.{member_below}

pub equal_self : (o : Ordering) → o ≡ ordering_reverse o → o ≡ Equal
equal_self Less is = absurd (cc)
equal_self Equal is = refl
equal_self Greater is = absurd (cc)

module _ (directory : List Entry) (Reads : Entry → List ℕ → Type 0) where
  all_within : (c : Content) (ids all : List ℕ) → Holds directory Reads ids c all → AllByRecursion (λ k. k < length directory) all
  all_within nothing ids all (is, empty) = subst (AllByRecursion (λ k. k < length directory)) (sym empty) tt
  all_within (stream n b x l) ids all (e, id, others, rest, is, all_is, at, reads, later) =
      subst (AllByRecursion (λ k. k < length directory)) (sym all_is) (slice_get_within directory id e at.found, all_within l others rest later)
  all_within (storage n f i l) ids all (e, id, others, children, within, rest, is, all_is, at, siblings, inside, later) =
      subst (AllByRecursion (λ k. k < length directory)) (sym all_is)
      (slice_get_within directory id e at.found, all_append (λ k. k < length directory) within rest (all_within i children within inside) (all_within l others rest later))

  -- the root and the entries of a tree are no more than there are
  pub tree_fits : (letters : CaseTable) (tree : Tree) (h : EntriesHoldTree letters Reads directory tree) → length h.ids < length directory
  tree_fits letters tree h =
      let fits : length (0 ∷ h.ids) ≤ length directory =
      length-le_from_distinct_below (0 ∷ h.ids) (length directory) h.once
      (λ q m. member_below q (length directory) (0 ∷ h.ids) (slice_get_within directory 0 h.root h.root_found, all_within tree.content h.children h.ids h.holds) m) in
      omega (arith, fits)

-- the way down came over so many links to children, of which that of storage `parent`, to which the path leads, is the last, to
-- entry `at`; below it are no more objects than there are steps left
pub record Down (directory : List Entry) (Reads : Entry → List ℕ → Type 0) (letters : CaseTable) (path : Path) (parent at steps : ℕ) : Type 0 where
  pub storage : IsStorageAt letters directory path parent
  pub child_is : storage.owner.entry.child ≡ at
  pub here : at ≡ no_entry → ⊥
  pub children : List ℕ
  pub inside : Content
  pub within : List ℕ
  pub siblings : Siblings directory at children
  pub holds : Holds directory Reads children inside within
  pub bound : steps + length within ≤ length directory

module _ (directory : List Entry) (Reads : Entry → List ℕ → Type 0) (letters : CaseTable) (path : Path) where
  pub begun : (tree : Tree) (h : EntriesHoldTree letters Reads directory tree) (top : ℕ) (s : IsStorageAt letters directory path top) (e : Entry) (child : ℕ)
      → slice_get directory top ≡ Some e → e.child ≡ child → child ≢ no_entry → Down directory Reads letters path top child 0
  begun tree h top s e child found child_is here =
      let st = storing directory Reads Reads letters tree h path top s in
      let same : st.entry ≡ e = Some_same (sym st.found ∙ found) in
      let own : s.owner.entry ≡ e = Some_same (sym s.owner.found ∙ found) in
      let fits = tree_fits directory Reads letters tree h in
      let parts = ap length st.all_is in
      record {
        storage = s;
        child_is = ap (λ (x : Entry). x.child) own ∙ child_is;
        here = here;
        children = st.children;
        inside = st.inside;
        within = st.within;
        siblings = subst (λ k. Siblings directory k st.children) (ap (λ (x : Entry). x.child) same ∙ child_is) st.siblings;
        holds = st.holds;
        bound = omega (arith, fits, parts, length-append st.sooner (top ∷ (st.within ++ st.further)), length-append st.within st.further);
      }

  module _ (parent at steps : ℕ) (d : Down directory Reads letters path parent at steps) where
    pub there : slice_get directory at ≡ None → ⊥
    there lost = by_siblings d.siblings
      where
        by_siblings : Siblings directory at d.children → ⊥
        by_siblings (none is empty) = d.here is
        by_siblings (some e before after fits found left right whole) = let never : Some e ≡ None = sym found ∙ lost in absurd (cc)

    module _ (e : Entry) (found : slice_get directory at ≡ Some e) where
      pub mid : Middle directory Reads at e d.children d.inside d.within
      mid = middle directory Reads at e d.children d.inside d.within d.here found d.siblings d.holds

      named : IsEntryNamed letters directory (name_of mid.object) Equal at
      named = record {
        entry = e;
        found = found;
        name = name_of mid.object;
        named = object_named directory Reads at mid.object mid.own e mid.is_object found;
        compared = equal_self (name_cmp letters (name_of mid.object) (name_of mid.object)) ((name_cmp_total letters).antisymm (name_of mid.object) (name_of mid.object));
      }

      pub child : IsChild letters directory parent (name_of mid.object) at
      child = record {
        owner = d.storage.owner;
        front = mid.front;
        back = mid.back;
        siblings = subst (λ k. Siblings directory k (mid.front ++ at ∷ mid.back)) (sym d.child_is) (subst (Siblings directory at) mid.here_is d.siblings);
        named = named;
      }

      leads : LeadsTo letters directory 0 (path_to path (name_of mid.object)) at
      leads = leads_on letters directory path 0 parent (name_of mid.object) at d.storage.leads child

      -- what holds nothing
      pub leaf : ((e.kind ≡ kind_stream → ⊥) → e.child ≡ no_entry) → IsLeafAt letters directory path (name_of mid.object) (Child parent) at
      leaf empty = record {
        parent = parent;
        storage = d.storage;
        taken = record { owner = d.storage.owner; front = []; back = []; hangs = first refl (sym d.child_is) refl refl; fits = mid.fits; named = named };
        leads = leads;
        empty = λ f f_found never.
            let same : e ≡ f = Some_same (sym found ∙ f_found) in
            ap (λ (x : Entry). x.child) (sym same) ∙ empty (λ kind. never (ap (λ (x : Entry). x.kind) (sym same) ∙ kind));
      }

      -- it isn't the storage to whose link it hangs
      pub apart : ((e.kind ≡ kind_stream → ⊥) → e.child ≡ no_entry) → parent ≡ at → ⊥
      apart empty is =
          let same : d.storage.owner.entry ≡ e = Some_same (sym d.storage.owner.found ∙ ap (slice_get directory) is ∙ found) in
          d.here (sym d.child_is ∙ ap (λ (x : Entry). x.child) same ∙ empty (λ kind. d.storage.owner.holds (ap (λ (x : Entry). x.kind) same ∙ kind)))

      -- one step down
      pub deeper : (e.kind ≡ kind_stream → ⊥) → (e.child ≡ no_entry → ⊥) → Down directory Reads letters (path_to path (name_of mid.object)) at e.child (steps + 1)
      deeper never further =
          let so = as_storage directory Reads at e mid.object mid.own mid.is_object found never in
          let size = ap length mid.all_is in
          let bound = d.bound in
          record {
            storage = record { leads = leads; owner = record { entry = e; found = found; holds = never } };
            child_is = refl;
            here = further;
            children = so.children;
            inside = so.inside;
            within = mid.own;
            siblings = so.siblings;
            holds = so.holds;
            bound = omega (arith, bound, size, length-append mid.earlier_all (at ∷ (mid.own ++ mid.later_all)), length-append mid.own mid.later_all);
          }

    -- it comes to an end
    pub ends : length directory ≤ steps → ⊥
    ends past = by_siblings d.siblings
      where
        by_siblings : Siblings directory at d.children → ⊥
        by_siblings (none is empty) = d.here is
        by_siblings (some e before after fits found left right whole) =
            let m = mid e found in
            let size = ap length m.all_is in
            let bound = d.bound in
            omega (arith, past, bound, size, length-append m.earlier_all (at ∷ (m.own ++ m.later_all)))

-- a storage without a child holds nothing
pub storage_empty : (directory : List Entry) (reads : ℕ → ℕ → List ℕ → Bool) (letters : CaseTable) (tree : Tree) → EntriesHoldTree letters (ReadBy reads) directory tree → (path : Path) (id : ℕ) → IsStorageAt letters directory path id → (e : Entry)
    → slice_get directory id ≡ Some e → e.child ≡ no_entry → HasEmptyStorage letters tree path
storage_empty directory reads letters tree h path id s e found child =
    let st = storing directory (ReadBy reads) (ReadBy reads) letters tree h path id s in
    let same : st.entry ≡ e = Some_same (sym st.found ∙ found) in
    let none : st.children ≡ [] = no_siblings directory (ReadBy reads) st.entry.child st.children (ap (λ (x : Entry). x.child) same ∙ child) st.siblings in
    let held = nothing_held directory (ReadBy reads) st.inside st.within (subst (λ ids. Holds directory (ReadBy reads) ids st.inside st.within) none st.holds) in
    record { name = st.name; facts = st.facts; at_path = st.at_path ∙ ap (λ c. Some (a_storage st.name st.facts c)) held.0 }
