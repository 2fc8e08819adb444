-- Colours of a tree's entries after one was added or taken out.
use Rattle.std.proofs.Common.{◌≡◌, ◌⊎◌, ℕ, ◌≤◌, true, false, List, [], ◌∷◌, ◌++◌, inl, inr, refl, sym, ◌∙◌, ap, subst, arith}
use Rattle.std.specs.Prelude.{slice_get, slice_set, nat_eq, Some, None, Option, IfSome}
use Rattle.std.specs.List.{AllByRecursion, IsDistinct}
use Rattle.cfb_tree.specs.Names.{CaseTable}
use Rattle.cfb_tree.specs.Tree.{Content, nothing, stream, storage, Tree}
use Rattle.cfb_tree.specs.Directory.{Entry, Siblings, none, some, Holds, no_entry, greatest_entry}
use Rattle.cfb_tree.specs.Objects.{EntriesHoldTree}
use Rattle.cfb_tree.proofs.NamesRead.{all_append}
use Rattle.cfb_tree.proofs.OneContent.{Some_same}
use Rattle.cfb_tree.specs.Entries.{IsColored}
use Rattle.cfb_siblings.specs.Changes.{IsApart}
use Rattle.cfb_siblings.proofs.Lists.{all_parts, all_map}
use Rattle.cfb_siblings.proofs.Frames.{either_same, outermost}
use Rattle.cfb_siblings.proofs.Colors.{IsColoredIn, set_other, colored_cleared}

-- what holds of each member holds of all
for_members : (P : ℕ → Type 0) (xs : List ℕ) → ((x : ℕ) → (IsApart x xs → ⊥) → P x) → AllByRecursion P xs
for_members P [] h = tt
for_members P (x ∷ xs) h = (
  h x (λ apart. let same : nat_eq x x ≡ true = grind arith in let never : true ≡ false = sym same ∙ apart.0 in absurd (cc)),
  for_members P xs (λ y member. h y (λ apart. member apart.1)),
)

member_or : (P : ℕ → Type 0) (xs : List ℕ) (x : ℕ) → AllByRecursion P xs → P x ⊎ IsApart x xs
member_or P [] x h = inr tt
member_or P (y ∷ xs) x h = elim (either_same x y) [
  | inl same ↦ inl (subst P (sym same) h.0)
  | inr other ↦ elim (member_or P xs x h.1) as (λ m. P x ⊎ IsApart x (y ∷ xs)) [ inl it ↦ inl it | inr apart ↦ inr (other, apart) ]
]

-- a link of an entry leads to one of these, or nowhere
abbrev LinksIn : List Entry → List ℕ → ℕ → Type 0
LinksIn directory ids k = (e : Entry) → slice_get directory k ≡ Some e
    → (IsApart e.left ids → e.left ≡ no_entry) × (IsApart e.right ids → e.right ≡ no_entry)

wider : (directory : List Entry) (few many : List ℕ) → ((x : ℕ) → IsApart x many → IsApart x few) → (k : ℕ) → LinksIn directory few k → LinksIn directory many k
wider directory few many narrow k h e found =
    let both = h e found in (λ apart. both.0 (narrow e.left apart), λ apart. both.1 (narrow e.right apart))

-- where siblings hang is one of them, or nowhere
leads_in : (directory : List Entry) (id : ℕ) (ids : List ℕ) → Siblings directory id ids → IsApart id ids → id ≡ no_entry
leads_in directory id ids (none is empty) apart = is
leads_in directory id ids (some e before after fits found left right whole) apart =
    let here = (all_parts (λ k. nat_eq id k ≡ false) before (id ∷ after) (subst (IsApart id) whole apart)).1.0 in
    let same : nat_eq id id ≡ true = grind arith in
    let never : true ≡ false = sym same ∙ here in absurd (cc)

siblings_in : (directory : List Entry) (id : ℕ) (ids : List ℕ) → Siblings directory id ids → AllByRecursion (LinksIn directory ids) ids
siblings_in directory id ids (none is empty) = subst (λ xs. AllByRecursion (LinksIn directory xs) xs) (sym empty) tt
siblings_in directory id ids (some e before after fits found left right whole) =
    subst (λ xs. AllByRecursion (LinksIn directory xs) xs) (sym whole)
    (all_append (LinksIn directory (before ++ id ∷ after)) before (id ∷ after)
    (all_map (LinksIn directory before) (LinksIn directory (before ++ id ∷ after)) before
    (wider directory before (before ++ id ∷ after) (λ x apart. (all_parts (λ k. nat_eq x k ≡ false) before (id ∷ after) apart).0))
    (siblings_in directory e.left before left)) (
      λ f f_found.
          let is : e ≡ f = Some_same (sym found ∙ f_found) in (
            λ apart. ap (λ y. y.left) (sym is) ∙ leads_in directory e.left before left
                (subst (λ y. IsApart y.left before) (sym is) ((all_parts (λ k. nat_eq f.left k ≡ false) before (id ∷ after) apart).0)),
            λ apart. ap (λ y. y.right) (sym is) ∙ leads_in directory e.right after right
                (subst (λ y. IsApart y.right after) (sym is) ((all_parts (λ k. nat_eq f.right k ≡ false) before (id ∷ after) apart).1.1)),
          ),
      all_map (LinksIn directory after) (LinksIn directory (before ++ id ∷ after)) after
          (wider directory after (before ++ id ∷ after) (λ x apart. (all_parts (λ k. nat_eq x k ≡ false) before (id ∷ after) apart).1.1))
          (siblings_in directory e.right after right),
    ))

-- at all depths
module _ (directory : List Entry) (Reads : Entry → List ℕ → Type 0) where
  links_in : (whole : List ℕ) (c : Content) (ids all : List ℕ) → Holds directory Reads ids c all → ((x : ℕ) → IsApart x whole → IsApart x all)
      → AllByRecursion (LinksIn directory whole) ids → AllByRecursion (LinksIn directory whole) all
  links_in whole nothing ids all (is, empty) narrow h = subst (AllByRecursion (LinksIn directory whole)) (sym empty) tt
  links_in whole (stream n b x l) ids all (e, id, others, rest, is, all_is, at, reads, later) narrow h =
      let here = subst (AllByRecursion (LinksIn directory whole)) is h in
      subst (AllByRecursion (LinksIn directory whole)) (sym all_is)
      (here.0, links_in whole l others rest later (λ x apart. (subst (IsApart x) all_is (narrow x apart)).1) here.1)
  links_in whole (storage n f i l) ids all (e, id, others, children, within, rest, is, all_is, at, siblings, inside, later) narrow h =
      let here = subst (AllByRecursion (LinksIn directory whole)) is h in
      let Narrow = λ (x : ℕ) (apart : IsApart x whole). all_parts (λ k. nat_eq x k ≡ false) within rest ((subst (IsApart x) all_is (narrow x apart)).1) in
      subst (AllByRecursion (LinksIn directory whole)) (sym all_is) (
        here.0,
        all_append (LinksIn directory whole) within rest
            (links_in whole i children within inside (λ x apart. (Narrow x apart).0)
            (all_map (LinksIn directory children) (LinksIn directory whole) children
            (wider directory children whole (λ x apart. outermost directory directory Reads Reads (λ k. nat_eq x k ≡ false) i children within inside ((Narrow x apart).0)))
            (siblings_in directory e.child children siblings)))
            (links_in whole l others rest later (λ x apart. (Narrow x apart).1) here.1),
      )

  -- in a tree
  tree_links : (letters : CaseTable) (tree : Tree) (h : EntriesHoldTree letters Reads directory tree) → AllByRecursion (LinksIn directory h.ids) h.ids
  tree_links letters tree h = links_in h.ids tree.content h.children h.ids h.holds (λ x apart. apart)
      (all_map (LinksIn directory h.children) (LinksIn directory h.ids) h.children
      (wider directory h.children h.ids (λ x apart. outermost directory directory Reads Reads (λ k. nat_eq x k ≡ false) tree.content h.children h.ids h.holds apart))
      (siblings_in directory h.root.child h.children h.siblings))

-- one entry more, which is coloured right
pub colored_more : (old new : List Entry) (ids ids' : List ℕ) (n : ℕ) → ((k : ℕ) → (nat_eq k n ≡ false) × IsApart k (0 ∷ ids) → IsApart k (0 ∷ ids'))
    → IsDistinct nat_eq (0 ∷ ids') → ((k : ℕ) → IsColored old k → IsColored new k) → IsColored new n
    → AllByRecursion (IsColored old) ids → AllByRecursion (IsColored new) ids'
unfolding IsDistinct
colored_more old new ids ids' n only once keeps fresh h = for_members (IsColored new) ids'
    (λ k member. elim (member_or (IsColored old) ids k h) [
      | inl is ↦ keeps k is
      | inr apart ↦ elim (either_same k n) [
        | inl same ↦ subst (IsColored new) (sym same) fresh
        | inr other ↦ elim (either_same k 0) [
          | inl root ↦ absurd (member (subst (λ x. IsApart x ids') (sym root) once.0))
          | inr below ↦ absurd (member (only k (other, (below, apart))).1)
        ]
      ]
    ])

pub root_apart : (ids : List ℕ) → IsDistinct nat_eq (0 ∷ ids) → IsApart 0 ids
unfolding IsDistinct
root_apart ids once = once.0

-- one entry less, to which none leads
pub colored_less : (letters : CaseTable) (Reads : Entry → List ℕ → Type 0) (mid : List Entry) (tree : Tree) (ids : List ℕ) (id : ℕ) (g : Entry)
    (h : EntriesHoldTree letters Reads (slice_set mid id g) tree) → id ≤ greatest_entry → IsApart id (0 ∷ h.ids)
    → ((k : ℕ) → IsApart k (0 ∷ ids) → IsApart k (0 ∷ h.ids)) → AllByRecursion (IsColored mid) ids → AllByRecursion (IsColored (slice_set mid id g)) h.ids
colored_less letters Reads mid tree ids id g h fits gone fewer old = for_members (IsColored (slice_set mid id g)) h.ids
    (λ k member. elim (member_or (IsColored mid) ids k old) [
      | inl is ↦ cleared k member is (slice_get mid k) refl
      | inr apart ↦ elim (either_same k 0) [
        | inl root ↦ absurd (member (subst (λ x. IsApart x h.ids) (sym root) (root_apart h.ids h.once)))
        | inr below ↦ absurd (member (fewer k (below, apart)).1)
      ]
    ])
  where
    other_than : (k : ℕ) → (IsApart k h.ids → ⊥) → nat_eq id k ≡ false
    other_than k member = elim (either_same id k) [ inl same ↦ absurd (member (subst (λ x. IsApart x h.ids) same gone.1)) | inr other ↦ other ]

    not_linked : (x : ℕ) → (IsApart x h.ids → x ≡ no_entry) → nat_eq id x ≡ false
    not_linked x led = elim (either_same id x) [
      | inl same ↦ let is : x ≡ no_entry = led (subst (λ y. IsApart y h.ids) same gone.1) in absurd (omega (arith, fits, same, is))
      | inr other ↦ other
    ]

    linked : (k : ℕ) → (IsApart k h.ids → ⊥) → LinksIn (slice_set mid id g) h.ids k
    linked k member = elim (member_or (LinksIn (slice_set mid id g) h.ids) h.ids k (tree_links (slice_set mid id g) Reads letters tree h)) [
      | inl it ↦ it
      | inr apart ↦ absurd (member apart)
    ]

    cleared : (k : ℕ) → (IsApart k h.ids → ⊥) → IsColored mid k → (o : Option Entry) → slice_get mid k ≡ o → IsColored (slice_set mid id g) k
    cleared k member is None lost = subst (λ o. IfSome o (IsColoredIn (slice_set mid id g))) (sym (set_other mid id k g (other_than k member) ∙ lost)) tt
    cleared k member is (Some e) found =
        let other = other_than k member in
        let both = linked k member e (set_other mid id k g other ∙ found) in
        colored_cleared mid id k g e other found (not_linked e.left both.0) (not_linked e.right both.1) is
