-- A tree stays where its entries do.
use Rattle.std.proofs.Common.{◌≡◌, ℕ, false, List, [], ◌∷◌, ◌++◌, refl, sym, ◌∙◌, ap, subst, zero, suc, arith, ◌⊎◌, inl, inr}
use Rattle.std.specs.Prelude.{slice_get, slice_set, Some, nat_eq}
use Rattle.std.specs.List.{AllByRecursion}
use Rattle.cfb_tree.specs.Tree.{Content, nothing, stream, storage}
use Rattle.cfb_tree.specs.Directory.{Entry, Siblings, none, some, Holds, HasName}
use Rattle.cfb_tree.proofs.OneContent.{Some_same}
use Rattle.cfb_siblings.specs.Changes.{IsApart}
use Rattle.cfb_siblings.proofs.Parts.{ChangesOnly, HasSameFacts, LinksStay, Stays, AllStay}
use Rattle.cfb_siblings.proofs.Lists.{all_parts, all_map}

-- an entry is replaced; entries are appended
pub set_changes_only : (old : List Entry) (p : ℕ) (f : Entry) → ChangesOnly p old (slice_set old p f)
set_changes_only [] p f id e apart h = h
set_changes_only (x ∷ old) zero f zero e apart h = absurd (cc)
set_changes_only (x ∷ old) zero f (suc id) e apart h = h
set_changes_only (x ∷ old) (suc p) f zero e apart h = h
set_changes_only (x ∷ old) (suc p) f (suc id) e apart h = let lower : nat_eq p id ≡ false = grind arith in set_changes_only old p f id e lower h

pub set_found : (old : List Entry) (p : ℕ) (e f : Entry) → slice_get old p ≡ Some e → slice_get (slice_set old p f) p ≡ Some f
set_found [] p e f h = absurd (cc)
set_found (x ∷ old) zero e f h = refl
set_found (x ∷ old) (suc p) e f h = set_found old p e f h

pub append_keeps : (old more : List Entry) (id : ℕ) (e : Entry) → slice_get old id ≡ Some e → slice_get (old ++ more) id ≡ Some e
append_keeps [] more id e h = absurd (cc)
append_keeps (x ∷ old) more zero e h = h
append_keeps (x ∷ old) more (suc id) e h = append_keeps old more id e h

pub name_kept : (e f : Entry) (name : List ℕ) → f.name_len ≡ e.name_len → f.name_units ≡ e.name_units → HasName e name → HasName f name
name_kept e f name len units h = record { even = rw len h.even; fits = rw len h.fits; spelled = rw (len, units) h.spelled }

pub name_stays : (e f : Entry) (name : List ℕ) → HasSameFacts e f → HasName e name → HasName f name
name_stays e f name same h = name_kept e f name same.name_len same.name_units h

-- siblings stay where their links do
pub siblings_links : (old new : List Entry) (id : ℕ) (ids : List ℕ) → AllByRecursion (LinksStay old new) ids → Siblings old id ids → Siblings new id ids
siblings_links old new id ids h (none is empty) = none is empty
siblings_links old new id ids h (some e before after fits found left right whole) =
    let parts = all_parts (LinksStay old new) before (id ∷ after) (subst (AllByRecursion (LinksStay old new)) whole h) in
    let here = parts.1.0 e found in
    some here.0 before after fits here.1
    (rw here.2 (siblings_links old new e.left before parts.0 left)) (rw here.3 (siblings_links old new e.right after parts.1.1 right)) whole

module _ (old new : List Entry) (Reads Reads' : Entry → List ℕ → Type 0) where
  -- entries that are apart from the one that changes stay, where their bytes do
  pub stay_apart : (p : ℕ) (ids : List ℕ) → ChangesOnly p old new → ((e : Entry) (bytes : List ℕ) → Reads e bytes → Reads' e bytes)
      → IsApart p ids → AllStay old new Reads Reads' ids
  stay_apart p ids only reads apart = all_map (λ id. nat_eq p id ≡ false)
      (λ id. (e : Entry) → slice_get old id ≡ Some e → Stays old new Reads Reads' id e) ids
      (λ id other e found. record {
        now = e;
        found = only id e other found;
        same = record { name_units = refl; name_len = refl; kind = refl; facts = refl };
        left = refl;
        right = refl;
        child = refl;
        reads = reads e;
      }) apart

  pub siblings_stay : (id : ℕ) (ids : List ℕ) → AllStay old new Reads Reads' ids → Siblings old id ids → Siblings new id ids
  siblings_stay id ids h = siblings_links old new id ids (all_map (λ k. (e : Entry) → slice_get old k ≡ Some e → Stays old new Reads Reads' k e)
      (LinksStay old new) ids (λ k stays e found. let here = stays e found in (here.now, here.found, here.left, here.right)) h)

  -- what holds of all entries at all depths holds of the outermost
  pub outermost : (P : ℕ → Type 0) (c : Content) (ids all : List ℕ) → Holds old Reads ids c all → AllByRecursion P all → AllByRecursion P ids
  outermost P nothing ids all (is, empty) h = subst (AllByRecursion P) (sym is) tt
  outermost P (stream n b x l) ids all (e, id, others, rest, is, all_is, at, reads, later) h =
      let here = subst (AllByRecursion P) all_is h in
      subst (AllByRecursion P) (sym is) (here.0, outermost P l others rest later here.1)
  outermost P (storage n f i l) ids all (e, id, others, children, within, rest, is, all_is, at, siblings, inside, later) h =
      let here = subst (AllByRecursion P) all_is h in
      subst (AllByRecursion P) (sym is) (here.0, outermost P l others rest later ((all_parts P within rest here.1).1))

  pub holds_stays : (c : Content) (ids all : List ℕ) → AllStay old new Reads Reads' all → Holds old Reads ids c all → Holds new Reads' ids c all
  holds_stays nothing ids all h same = same
  holds_stays (stream n b x l) ids all h (e, id, others, rest, is, all_is, at, reads, later) =
      let all_stay = subst (AllStay old new Reads Reads') all_is h in
      let here : Stays old new Reads Reads' id e = all_stay.0 e at.found in (
        here.now,
        id,
        others,
        rest,
        is,
        all_is,
        record {
          found = here.found;
          of_kind = here.same.kind ∙ at.of_kind;
          named = name_stays e here.now n here.same at.named;
          bits = ap (λ f. f.state_bits) here.same.facts ∙ at.bits;
        },
        here.reads x reads,
        holds_stays l others rest all_stay.1 later,
      )
  holds_stays (storage n f i l) ids all h (e, id, others, children, within, rest, is, all_is, at, siblings, inside, later) =
      let all_stay = subst (AllStay old new Reads Reads') all_is h in
      let here : Stays old new Reads Reads' id e = all_stay.0 e at.found in
      let parts = all_parts (λ k. (e : Entry) → slice_get old k ≡ Some e → Stays old new Reads Reads' k e) within rest all_stay.1 in
      let child_ids = outermost (λ k. (e : Entry) → slice_get old k ≡ Some e → Stays old new Reads Reads' k e) i children within inside parts.0 in (
        here.now,
        id,
        others,
        children,
        within,
        rest,
        is,
        all_is,
        record {
          found = here.found;
          of_kind = here.same.kind ∙ at.of_kind;
          named = name_stays e here.now n here.same at.named;
          has_facts = here.same.facts ∙ at.has_facts;
        },
        rw here.child (siblings_stay e.child children child_ids siblings),
        holds_stays i children within parts.0 inside,
        holds_stays l others rest parts.1 later,
      )

-- siblings apart from the one that changes stay
pub siblings_apart : (old new : List Entry) (p id : ℕ) (ids : List ℕ) → ChangesOnly p old new → IsApart p ids → Siblings old id ids → Siblings new id ids
siblings_apart old new p id ids only apart =
    let Any = λ (e : Entry) (bytes : List ℕ). Unit {0} in
    siblings_stay old new Any Any id ids (stay_apart old new Any Any p ids only (λ e bytes any. any) apart)

-- so does what they hold, where the bytes do
pub holds_apart : (old new : List Entry) (Reads Reads' : Entry → List ℕ → Type 0) (p : ℕ) (c : Content) (ids all : List ℕ)
    → ChangesOnly p old new → ((e : Entry) (bytes : List ℕ) → Reads e bytes → Reads' e bytes) → IsApart p all
    → Holds old Reads ids c all → Holds new Reads' ids c all
holds_apart old new Reads Reads' p c ids all only reads apart =
    holds_stays old new Reads Reads' c ids all (stay_apart old new Reads Reads' p all only reads apart)

-- two changes in turn
pub stay_then : (old mid new : List Entry) (Reads Reads' Reads'' : Entry → List ℕ → Type 0) (ids : List ℕ)
    → AllStay old mid Reads Reads' ids → AllStay mid new Reads' Reads'' ids → AllStay old new Reads Reads'' ids
stay_then old mid new Reads Reads' Reads'' [] h k = tt
stay_then old mid new Reads Reads' Reads'' (id ∷ ids) h k = (
  λ e found.
      let first = h.0 e found in
      let second = k.0 first.now first.found in
      record {
        now = second.now;
        found = second.found;
        same = record {
          name_units = second.same.name_units ∙ first.same.name_units;
          name_len = second.same.name_len ∙ first.same.name_len;
          kind = second.same.kind ∙ first.same.kind;
          facts = second.same.facts ∙ first.same.facts;
        };
        left = second.left ∙ first.left;
        right = second.right ∙ first.right;
        child = second.child ∙ first.child;
        reads = λ bytes r. second.reads bytes (first.reads bytes r);
      },
  stay_then old mid new Reads Reads' Reads'' ids h.1 k.1,
)

pub either_same : (m n : ℕ) → (m ≡ n) ⊎ (nat_eq m n ≡ false)
either_same zero zero = inl refl
either_same zero (suc n) = inr (grind arith)
either_same (suc m) zero = inr (grind arith)
either_same (suc m) (suc n) = elim (either_same m n) [ inl same ↦ inl (ap suc same) | inr other ↦ inr (grind arith) ]

module _ (old new : List Entry) (p : ℕ) (e f : Entry) (only : ChangesOnly p old new) (was : slice_get old p ≡ Some e) (now : slice_get new p ≡ Some f) where
  -- one entry changes, but for its links to siblings: siblings stay, wherever it is
  pub links_stay : (id : ℕ) → f.left ≡ e.left → f.right ≡ e.right → LinksStay old new id
  links_stay id on_left on_right g found = elim (either_same p id) [
    | inl same ↦
        let is : e ≡ g = Some_same (sym was ∙ ap (λ k. slice_get old k) same ∙ found) in
        (f, subst (λ k. slice_get new k ≡ Some f) same now, on_left ∙ ap (λ y. y.left) is, on_right ∙ ap (λ y. y.right) is)
    | inr other ↦ (g, only id g other found, refl, refl)
  ]
