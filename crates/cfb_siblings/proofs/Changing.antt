-- An object changes among its siblings.
use Rattle.std.proofs.Common.{◌≡◌, ℕ, List, ◌∷◌, ◌++◌, sym, ◌∙◌, ap, subst}
use Rattle.std.specs.Prelude.{slice_get, Some}
use Rattle.cfb_tree.specs.Names.{CaseTable}
use Rattle.cfb_tree.specs.Tree.{Facts, Content}
use Rattle.cfb_tree.specs.Directory.{Entry, Siblings, Holds, HasName}
use Rattle.cfb_tree.proofs.OneContent.{Some_same}
use Rattle.cfb_tree.specs.Objects.{Object, a_stream, a_storage, before, joined_contents, IsObject}
use Rattle.cfb_tree.specs.Changes.{with_changed}
use Rattle.cfb_siblings.proofs.Parts.{AllStay}
use Rattle.cfb_siblings.proofs.Records.{Chosen}
use Rattle.cfb_siblings.proofs.Frames.{name_kept, holds_stays}
use Rattle.cfb_siblings.proofs.Joining.{join, head}
use Rattle.cfb_siblings.proofs.Naming.{changed_past, changed_here}

module _ (old new : List Entry) (Reads Reads' : Entry → List ℕ → Type 0) where
  -- a stream gets other bits and bytes
  pub stream_changed : (p : ℕ) (name : List ℕ) (bits bits' : ℕ) (bytes bytes' : List ℕ) (own : List ℕ) (e f : Entry)
      → slice_get old p ≡ Some e → slice_get new p ≡ Some f → f.name_units ≡ e.name_units → f.name_len ≡ e.name_len → f.kind ≡ e.kind
      → f.facts.state_bits ≡ bits' → Reads' f bytes' → IsObject old Reads p (a_stream name bits bytes) own
      → IsObject new Reads' p (a_stream name bits' bytes') own
  stream_changed p name bits bits' bytes bytes' own e f was now units len kind has reads (g, at, old_reads, empty) =
      let is : g ≡ e = Some_same (sym at.found ∙ was) in (
        f,
        record {
          found = now;
          of_kind = kind ∙ ap (λ y. y.kind) (sym is) ∙ at.of_kind;
          named = name_kept e f name len units (subst (λ y. HasName y name) is at.named);
          bits = has;
        },
        reads,
        empty,
      )

  -- a storage gets other facts and another content
  pub storage_changed : (p : ℕ) (name : List ℕ) (facts facts' : Facts) (inside inside' : Content) (own own' children' : List ℕ) (e f : Entry)
      → slice_get old p ≡ Some e → slice_get new p ≡ Some f → f.name_units ≡ e.name_units → f.name_len ≡ e.name_len → f.kind ≡ e.kind
      → f.facts ≡ facts' → Siblings new f.child children' → Holds new Reads' children' inside' own'
      → IsObject old Reads p (a_storage name facts inside) own → IsObject new Reads' p (a_storage name facts' inside') own'
  storage_changed p name facts facts' inside inside' own own' children' e f was now units len kind has siblings holds (g, children, at, old_siblings, old_holds) =
      let is : g ≡ e = Some_same (sym at.found ∙ was) in (
        f,
        children',
        record {
          found = now;
          of_kind = kind ∙ ap (λ y. y.kind) (sym is) ∙ at.of_kind;
          named = name_kept e f name len units (subst (λ y. HasName y name) is at.named);
          has_facts = has;
        },
        siblings,
        holds,
      )

  module _ (letters : CaseTable) where
    -- LAW: the content with a change of the object that was found
    pub changed_holds : (wanted : List ℕ) (ids : List ℕ) (c : Content) (all : List ℕ) (at : ℕ)
        (it : Chosen old Reads letters wanted ids c all at) (change : Object → Object) (own : List ℕ)
        → AllStay old new Reads Reads' it.earlier_all → AllStay old new Reads Reads' it.later_all → IsObject new Reads' at (change it.object) own
        → Holds new Reads' ids (with_changed letters wanted change c) (it.earlier_all ++ at ∷ (own ++ it.later_all))
    changed_holds wanted ids c all at it change own sooner further h =
        let content : with_changed letters wanted change c ≡ joined_contents it.earlier (before (change it.object) it.later) =
        ap (with_changed letters wanted change) it.content_is ∙ changed_past letters wanted change it.earlier (before it.object it.later) it.others
        ∙ ap (joined_contents it.earlier) (changed_here letters wanted change it.object it.later it.level) in
        let whole = join new Reads' it.front (at ∷ it.back) it.earlier (before (change it.object) it.later) it.earlier_all
        (at ∷ (own ++ it.later_all)) (holds_stays old new Reads Reads' it.earlier it.front it.earlier_all sooner it.holds_earlier)
        (head new Reads' at it.back (change it.object) it.later own it.later_all h
        (holds_stays old new Reads Reads' it.later it.back it.later_all further it.holds_later)) in
        subst (λ xs. Holds new Reads' xs (with_changed letters wanted change c) (it.earlier_all ++ at ∷ (own ++ it.later_all))) (sym it.ids_are)
        (subst (λ d. Holds new Reads' (it.front ++ at ∷ it.back) d (it.earlier_all ++ at ∷ (own ++ it.later_all)))
        (sym content) whole)
