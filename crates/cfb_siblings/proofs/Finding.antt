-- The search for a name among the children of a storage of a tree.
use Rattle.std.proofs.Common.{◌≡◌, ℕ, ◌+◌, ◌≤◌, List, [], ◌∷◌, ◌++◌, length, sym, ◌∙◌, ap, subst, arith}
use Rattle.std.specs.Prelude.{Some, None, slice_get}
use Rattle.std.specs.declared.cmp.Ordering.TheVariants.{Less, Equal, Greater}
use Rattle.cfb_tree.specs.Names.{CaseTable, name_cmp}
use Rattle.cfb_tree.specs.Paths.{Path}
use Rattle.cfb_tree.specs.Tree.{Tree}
use Rattle.cfb_tree.specs.Directory.{Entry, Siblings, none, some, HasName, no_entry}
use Rattle.cfb_tree.specs.Objects.{name_of, root_object, object_from, EntriesHoldTree}
use Rattle.cfb_tree.proofs.OneContent.{Some_same}
use Rattle.cfb_siblings.specs.declared.links.Link.{Link}
use Rattle.cfb_siblings.specs.declared.links.Link.TheVariants.{Child, Left, Right}
use Rattle.cfb_siblings.specs.declared.places.Place.TheVariants.{Taken, Free}
use Rattle.cfb_siblings.specs.Places.{Hangs, IsEntryNamed, IsStorageAt, IsPlace}
use Rattle.cfb_siblings.specs.Rotations.{IsReached}
use Rattle.cfb_siblings.proofs.Records.{Searched}
use Rattle.cfb_siblings.proofs.Bounds.{owner_fits}
use Rattle.cfb_siblings.proofs.Choosing.{entries_in_order, found_of, chosen_child}
use Rattle.cfb_siblings.proofs.Leading.{object_from_last, leads_on}
use Rattle.cfb_siblings.proofs.Owners.{holder_found}
use Rattle.cfb_siblings.proofs.Searching.{begun, not_found, middle, object_named, go_left, go_right}
use Rattle.cfb_siblings.proofs.Trees.{Storing, storing, storing_once}
use Rattle.cfb_siblings.proofs.Turning.{hung_fits}

module _ (letters : CaseTable) (directory : List Entry) (Reads : Entry → List ℕ → Type 0) (wanted : List ℕ) (tree : Tree) (path : Path) (parent : ℕ)
    (h : EntriesHoldTree letters Reads directory tree) (s : IsStorageAt letters directory path parent) where
  pub at_storage : Storing directory Reads Reads letters tree path parent h.ids
  at_storage = storing directory Reads Reads letters tree h path parent s

  -- how far the search among its children has come
  abbrev pub Came : Link → ℕ → ℕ → Type 0
  Came link at steps = Searched directory Reads letters wanted parent at_storage.entry.child at_storage.children at_storage.inside at_storage.within link at steps

  pub came_first : (e : Entry) → slice_get directory parent ≡ Some e → Came (Child parent) e.child 0
  came_first e found =
      let is : at_storage.entry ≡ e = Some_same (sym at_storage.found ∙ found) in
      subst (λ y. Came (Child parent) y.child 0) is
      (begun directory Reads letters wanted parent at_storage.entry.child at_storage.children at_storage.inside at_storage.within at_storage.siblings at_storage.holds)

  module _ (link : Link) (at steps : ℕ) (it : Came link at steps) where
    -- more steps than there are entries are never made
    pub never_ended : length directory ≤ steps → ⊥
    never_ended many = omega (
      arith,
      many,
      it.bound,
      owner_fits directory Reads parent at_storage.entry at_storage.inside at_storage.children at_storage.within at_storage.found at_storage.siblings at_storage.holds
          (storing_once directory Reads Reads letters tree path parent h.ids at_storage h.once),
    )

    -- the end of the walk
    pub on_free : at ≡ no_entry → IsPlace Reads letters directory tree path parent wanted (Free link)
    on_free is =
        let same : at_storage.entry ≡ s.owner.entry = Some_same (sym at_storage.found ∙ s.owner.found) in (
          record {
            owner = s.owner;
            front = it.front;
            back = it.back;
            hangs = subst (λ y. Hangs directory parent y.child link no_entry it.front it.back) same
                (subst (λ k. Hangs directory parent at_storage.entry.child link k it.front it.back) is it.hangs);
            before = entries_in_order directory Reads letters wanted Greater it.earlier it.front it.earlier_all it.holds_earlier it.below;
            after = entries_in_order directory Reads letters wanted Less it.later it.back it.later_all it.holds_later it.above;
          },
          holder_found directory parent at_storage.entry.child link at it.front it.back it.hangs (at_storage.entry, at_storage.found),
          object_from_last letters (Some (root_object tree)) path wanted ∙ ap (λ o. object_from letters o (wanted ∷ [])) at_storage.at_path
              ∙ ap (λ o. object_from letters o []) (not_found directory Reads letters wanted parent at_storage.entry.child at_storage.children at_storage.inside
              at_storage.within link at steps it is),
        )

    module _ (some_entry : at ≡ no_entry → ⊥) where
      -- an entry on the way
      pub on_way : IsReached directory parent link at
      on_way =
          let same : at_storage.entry ≡ s.owner.entry = Some_same (sym at_storage.found ∙ s.owner.found) in
          record {
            owner = s.owner;
            front = it.front;
            back = it.back;
            hangs = subst (λ y. Hangs directory parent y.child link at it.front it.back) same it.hangs;
            fits = hung_fits directory at it.here some_entry it.siblings;
          }

      pub some_there : slice_get directory at ≡ None → ⊥
      some_there lost = by_siblings it.siblings
        where
          by_siblings : {here : List ℕ} → Siblings directory at here → ⊥
          by_siblings (none is empty) = some_entry is
          by_siblings (some e front back fits found left right whole) = let never : Some e ≡ None = sym found ∙ lost in absurd (cc)

      module _ (e : Entry) (found : slice_get directory at ≡ Some e) where
        pub some_name : ((name : List ℕ) → HasName e name → ⊥) → ⊥
        some_name unnamed =
            let m = middle directory Reads at e it.here it.there it.there_all some_entry found it.siblings it.holds_there in
            unnamed (name_of m.object) (object_named directory Reads at m.object m.own e m.is_object found)

        -- one step, by the order of the two names
        pub on_left : (own : List ℕ) → HasName e own → name_cmp letters wanted own ≡ Less → Came (Left at) e.left (steps + 1)
        on_left own named less = go_left directory Reads letters wanted parent at_storage.entry.child at_storage.children at_storage.inside at_storage.within
            link at steps it e own at_storage.ordered.0 some_entry found named less

        pub on_right : (own : List ℕ) → HasName e own → name_cmp letters wanted own ≡ Greater → Came (Right at) e.right (steps + 1)
        on_right own named greater = go_right directory Reads letters wanted parent at_storage.entry.child at_storage.children at_storage.inside at_storage.within
            link at steps it e own at_storage.ordered.0 some_entry found named greater

        pub on_level : (own : List ℕ) → HasName e own → name_cmp letters wanted own ≡ Equal → IsPlace Reads letters directory tree path parent wanted (Taken link at)
        on_level own named level =
            let same : at_storage.entry ≡ s.owner.entry = Some_same (sym at_storage.found ∙ s.owner.found) in
            let m = middle directory Reads at e it.here it.there it.there_all some_entry found it.siblings it.holds_there in
            let is : IsEntryNamed letters directory wanted Equal at = record { entry = e; found = found; name = own; named = named; compared = level } in
            let f = found_of directory Reads letters wanted parent at_storage.entry.child at_storage.children at_storage.inside at_storage.within link at it.front it.back
            it.hangs m.fits is at_storage.siblings at_storage.holds at_storage.ordered.0 in (
              record {
                owner = s.owner;
                front = it.front;
                back = it.back;
                hangs = subst (λ y. Hangs directory parent y.child link at it.front it.back) same it.hangs;
                fits = m.fits;
                named = is;
              },
              leads_on letters directory path 0 parent wanted at s.leads record {
                owner = s.owner;
                front = f.chosen.front;
                back = f.chosen.back;
                siblings = subst (λ y. Siblings directory y.child (f.chosen.front ++ at ∷ f.chosen.back)) same
                    (subst (Siblings directory at_storage.entry.child) f.chosen.ids_are at_storage.siblings);
                named = is;
              },
              f.chosen.object,
              object_from_last letters (Some (root_object tree)) path wanted ∙ ap (λ o. object_from letters o (wanted ∷ [])) at_storage.at_path
                  ∙ ap (λ o. object_from letters o []) (chosen_child directory Reads letters wanted at_storage.children at_storage.inside at_storage.within at f.chosen),
              f.chosen.own,
              f.chosen.is_object,
            )
