-- Entries that are not in use lie outside of a tree.
use Rattle.std.proofs.Common.{◌≡◌, ℕ, false, List, [], ◌∷◌, ◌++◌, refl, sym, ◌∙◌, ap, subst, arith, inl, inr}
use Rattle.std.specs.Prelude.{slice_get, Some, nat_eq, Bool}
use Rattle.std.specs.List.Sorted.{IsStrictlySortedBy}
use Rattle.cfb_tree.specs.Names.{CaseTable}
use Rattle.cfb_tree.specs.Tree.{Content, nothing, stream, storage, Tree, IsOrdered}
use Rattle.cfb_tree.specs.Directory.{Entry, Siblings, none, Holds, kind_unallocated}
use Rattle.cfb_tree.specs.Objects.{Object, a_stream, a_storage, IsObject, EntriesHoldTree}
use Rattle.cfb_tree.proofs.NamesRead.{all_append}
use Rattle.cfb_tree.proofs.OneContent.{Some_same}
use Rattle.cfb_siblings.specs.Changes.{IsApart, IsUnused, Is}
use Rattle.cfb_siblings.proofs.Parts.{ChangesOnly, Stays, AllStay, ReadsByPlace}
use Rattle.cfb_siblings.proofs.Frames.{either_same, append_keeps, stay_apart, siblings_stay, holds_stays, outermost}
use Rattle.cfb_siblings.specs.Reading.{ReadBy}
use Rattle.cfb_siblings.proofs.Ordering.{IsOrderedObject}

-- an entry of another kind is another entry
other_entry : (directory : List Entry) (n id : ℕ) (e f : Entry) → slice_get directory n ≡ Some e → slice_get directory id ≡ Some f
    → (e.kind ≡ f.kind → ⊥) → nat_eq n id ≡ false
other_entry directory n id e f was found other = elim (either_same n id) [
  | inl same ↦ absurd (other (ap (λ y. y.kind) (Some_same (sym was ∙ ap (slice_get directory) same ∙ found))))
  | inr apart ↦ apart
]

held_apart : (directory : List Entry) (Reads : Entry → List ℕ → Type 0) (n : ℕ) (e : Entry) → slice_get directory n ≡ Some e → e.kind ≡ kind_unallocated
    → (c : Content) (ids all : List ℕ) → Holds directory Reads ids c all → IsApart n all
held_apart directory Reads n e was free nothing ids all (is, empty) = subst (IsApart n) (sym empty) tt
held_apart directory Reads n e was free (stream m b x l) ids all (g, id, others, rest, is, all_is, at, reads, later) =
    subst (IsApart n) (sym all_is) (
      other_entry directory n id e g was at.found (λ same. absurd (omega (arith, same, free, at.of_kind))),
      held_apart directory Reads n e was free l others rest later,
    )
held_apart directory Reads n e was free (storage m f i l) ids all (g, id, others, children, within, rest, is, all_is, at, siblings, inside, later) =
    subst (IsApart n) (sym all_is) (
      other_entry directory n id e g was at.found (λ same. absurd (omega (arith, same, free, at.of_kind))),
      all_append (λ k. nat_eq n k ≡ false) within rest (held_apart directory Reads n e was free i children within inside)
          (held_apart directory Reads n e was free l others rest later),
    )

module _ (letters : CaseTable) (Reads : Entry → List ℕ → Type 0) (directory : List Entry) (tree : Tree) (h : EntriesHoldTree letters Reads directory tree) where
  -- LAW: an entry that is not in use is none of a tree's
  pub unused_apart : (n : ℕ) → IsUnused directory n → IsApart n (0 ∷ h.ids)
  unused_apart n it = (
    other_entry directory n 0 it.entry h.root it.found h.root_found (λ same. absurd (omega (arith, same, it.of_kind, h.root_kind))),
    held_apart directory Reads n it.entry it.found it.of_kind tree.content h.children h.ids h.holds,
  )

  -- LAW: a tree stays where its entries do
  pub tree_stays : (new : List Entry) (Reads' : Entry → List ℕ → Type 0) → AllStay directory new Reads Reads' (0 ∷ h.ids) → EntriesHoldTree letters Reads' new tree
  tree_stays new Reads' stay =
      let root = stay.0 h.root h.root_found in
      record {
        root = root.now;
        root_found = root.found;
        root_kind = root.same.kind ∙ h.root_kind;
        facts = root.same.facts ∙ h.facts;
        children = h.children;
        ids = h.ids;
        siblings = subst (λ k. Siblings new k h.children) (sym root.child) (siblings_stay directory new Reads Reads' h.root.child h.children
            (outermost directory new Reads Reads' (λ k. (x : Entry) → slice_get directory k ≡ Some x → Stays directory new Reads Reads' k x)
            tree.content h.children h.ids h.holds stay.1) h.siblings);
        holds = holds_stays directory new Reads Reads' tree.content h.children h.ids stay.1 h.holds;
        once = h.once;
        ordered = h.ordered;
      }

  -- LAW: so it does where only one other entry changes
  pub tree_apart : (new : List Entry) (n : ℕ) → ChangesOnly n directory new → IsApart n (0 ∷ h.ids) → EntriesHoldTree letters Reads new tree
  tree_apart new n only apart = tree_stays new Reads (stay_apart directory new Reads Reads n (0 ∷ h.ids) only (λ e bytes r. r) apart)

-- an entry that was made is an object with nothing inside
pub made_object : (directory : List Entry) (Reads : Entry → List ℕ → Type 0) (n : ℕ) (f : Entry) (object : Object) → slice_get directory n ≡ Some f
    → Is Reads f object → IsObject directory Reads n object []
made_object directory Reads n f (a_stream name bits bytes) found (kind, named, has, reads) =
    (f, record { found = found; of_kind = kind; named = named; bits = has }, reads, refl)
made_object directory Reads n f (a_storage name facts inside) found (kind, named, has, child, empty) = (
  f,
  [],
  record { found = found; of_kind = kind; named = named; has_facts = has },
  none child refl,
  subst (λ c. Holds directory Reads [] c []) (sym empty) (refl, refl),
)

-- and is in order
pub made_ordered : (letters : CaseTable) (Reads : Entry → List ℕ → Type 0) (f : Entry) (object : Object) → Is Reads f object → IsOrderedObject letters object
unfolding IsStrictlySortedBy
made_ordered letters Reads f (a_stream name bits bytes) is = tt
made_ordered letters Reads f (a_storage name facts inside) (kind, named, has, child, empty) = subst (IsOrdered letters) (sym empty) (tt, tt)

-- entries that stay whole
pub same_stay : (old new : List Entry) (Reads : Entry → List ℕ → Type 0) (ids : List ℕ)
    → ((k : ℕ) (e : Entry) → slice_get old k ≡ Some e → slice_get new k ≡ Some e) → AllStay old new Reads Reads ids
same_stay old new Reads [] same = tt
same_stay old new Reads (id ∷ ids) same = (
  λ e found. record {
    now = e;
    found = same id e found;
    same = record { name_units = refl; name_len = refl; kind = refl; facts = refl };
    left = refl;
    right = refl;
    child = refl;
    reads = λ bytes r. r;
  },
  same_stay old new Reads ids same,
)

-- LAW: a tree stays where entries are appended
pub tree_appended : (letters : CaseTable) (Reads : Entry → List ℕ → Type 0) (old more : List Entry) (tree : Tree) → EntriesHoldTree letters Reads old tree
    → EntriesHoldTree letters Reads (old ++ more) tree
tree_appended letters Reads old more tree h = tree_stays letters Reads old tree h (old ++ more) Reads
    (same_stay old (old ++ more) Reads (0 ∷ h.ids) (λ k e found. append_keeps old more k e found))

-- the bytes that are told by a place
pub read_by_place : (reads : ℕ → ℕ → List ℕ → Bool) → ReadsByPlace (ReadBy reads)
read_by_place reads e f bytes start size r = rw (start, size) r

-- LAW: a tree is one with other bytes
pub tree_reads : (letters : CaseTable) (Reads Reads' : Entry → List ℕ → Type 0) (directory : List Entry) (tree : Tree)
    → ((e : Entry) (bytes : List ℕ) → Reads e bytes → Reads' e bytes) → EntriesHoldTree letters Reads directory tree → EntriesHoldTree letters Reads' directory tree
tree_reads letters Reads Reads' directory tree reads h = tree_stays letters Reads directory tree h directory Reads' (all_read (0 ∷ h.ids))
  where
    all_read : (ids : List ℕ) → AllStay directory directory Reads Reads' ids
    all_read [] = tt
    all_read (id ∷ ids) = (
      λ e found. record {
        now = e;
        found = found;
        same = record { name_units = refl; name_len = refl; kind = refl; facts = refl };
        left = refl;
        right = refl;
        child = refl;
        reads = reads e;
      },
      all_read ids,
    )
