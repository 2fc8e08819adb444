-- Colours stay right where entries came behind those of a tree, as long as no link that leads nowhere leads to one of them.
use Rattle.std.proofs.Common.{◌≡◌, ◌⊎◌, ℕ, List, ◌∷◌, sym, subst}
use Rattle.std.specs.Prelude.{slice_get, Option, Some, None, IfSome}
use Rattle.std.specs.List.{AllByRecursion}
use Rattle.cfb_tree.specs.Directory.{black, no_entry, red, Entry, Holds, Siblings, none, some}
use Rattle.cfb_tree.specs.Entries.{IsBlackAt, IsColored}
use Rattle.cfb_tree.specs.Names.{CaseTable}
use Rattle.cfb_tree.specs.Objects.{EntriesHoldTree}
use Rattle.cfb_tree.specs.Tree.{nothing, storage, stream, Content, Tree}
use Rattle.cfb_tree.proofs.NamesRead.{all_append}
use Rattle.cfb_siblings.specs.Changes.{AreColored}
use Rattle.cfb_siblings.proofs.Frames.{outermost}
use Rattle.cfb_siblings.proofs.Lists.{all_parts}

module _ (old new : List Entry) (keep : (id : ℕ) (e : Entry) → slice_get old id ≡ Some e → slice_get new id ≡ Some e) (nowhere : slice_get new no_entry ≡ None) where
  abbrev IsBlack : Option Entry → Type 0
  IsBlack o = IfSome o (λ e. e.color ≡ black)

  abbrev IsRight : List Entry → Option Entry → Type 0
  IsRight directory o = IfSome o (λ e. ((e.color ≡ red) ⊎ (e.color ≡ black)) × (e.color ≡ red → IsBlackAt directory e.left × IsBlackAt directory e.right))

  found_black : (id : ℕ) (e : Entry) → slice_get old id ≡ Some e → IsBlackAt old id → IsBlackAt new id
  found_black id e found is = subst IsBlack (sym (keep id e found)) (subst IsBlack found is)

  link_black : (id : ℕ) (ids : List ℕ) → Siblings old id ids → IsBlackAt old id → IsBlackAt new id
  link_black id ids (none at empty) is = subst IsBlack (sym (subst (λ k. slice_get new k ≡ None) (sym at) nowhere)) tt
  link_black id ids (some e before after fits found left right whole) is = found_black id e found is

  siblings_colored : (id : ℕ) (ids : List ℕ) → Siblings old id ids → AllByRecursion (IsColored old) ids → AllByRecursion (IsColored new) ids
  siblings_colored id ids (none at empty) all = subst (AllByRecursion (IsColored new)) (sym empty) tt
  siblings_colored id ids (some e before after fits found left right whole) all =
      let parts = all_parts (IsColored old) before (id ∷ after) (subst (AllByRecursion (IsColored old)) whole all) in
      let was = subst (IsRight old) found parts.1.0 in
      let is : IsColored new id = subst (IsRight new) (sym (keep id e found))
      (was.0, λ at_red. let both = was.1 at_red in (link_black e.left before left both.0, link_black e.right after right both.1)) in
      subst (AllByRecursion (IsColored new)) (sym whole)
      (all_append (IsColored new) before (id ∷ after) (siblings_colored e.left before left parts.0) (is, siblings_colored e.right after right parts.1.1))

  -- at all depths
  held_colored : (Reads : Entry → List ℕ → Type 0) (c : Content) (ids all : List ℕ) → Holds old Reads ids c all → AllByRecursion (IsColored old) all → AllByRecursion (IsColored new) ids
      → AllByRecursion (IsColored new) all
  held_colored Reads nothing ids all (is, empty) was now = subst (AllByRecursion (IsColored new)) (sym empty) tt
  held_colored Reads (stream n b x l) ids all (e, id, others, rest, is, all_is, at, reads, later) was now =
      let before = subst (AllByRecursion (IsColored old)) all_is was in
      let here = subst (AllByRecursion (IsColored new)) is now in
      subst (AllByRecursion (IsColored new)) (sym all_is) (here.0, held_colored Reads l others rest later before.1 here.1)
  held_colored Reads (storage n f i l) ids all (e, id, others, children, within, rest, is, all_is, at, siblings, inside, later) was now =
      let before = subst (AllByRecursion (IsColored old)) all_is was in
      let parts = all_parts (IsColored old) within rest before.1 in
      let here = subst (AllByRecursion (IsColored new)) is now in
      let beneath = siblings_colored e.child children siblings (outermost old old Reads Reads (IsColored old) i children within inside parts.0) in
      subst (AllByRecursion (IsColored new)) (sym all_is)
      (here.0, all_append (IsColored new) within rest (held_colored Reads i children within inside parts.0 beneath) (held_colored Reads l others rest later parts.1 here.1))

  -- of a tree
  pub tree_colored : (letters : CaseTable) (Reads : Entry → List ℕ → Type 0) (tree : Tree) (h : EntriesHoldTree letters Reads old tree) → AreColored old h.ids → AreColored new h.ids
  tree_colored letters Reads tree h right = (
    found_black 0 h.root h.root_found right.0,
    held_colored Reads tree.content h.children h.ids h.holds right.1
        (siblings_colored h.root.child h.children h.siblings (outermost old old Reads Reads (IsColored old) tree.content h.children h.ids h.holds right.1)),
  )
