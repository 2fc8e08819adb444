-- Colours stay right where a changed entry is written black.
use Rattle.std.proofs.Common.{◌≡◌, ℕ, false, List, [], ◌∷◌, zero, suc, inl, inr, ◌⊎◌, arith, refl, sym, ◌∙◌, ap, subst}
use Rattle.std.specs.Prelude.{slice_get, slice_set, nat_eq, Option, Some, None, IfSome}
use Rattle.cfb_tree.specs.Directory.{Entry, red, black}
use Rattle.cfb_tree.specs.Entries.{IsBlackAt, IsColored}
use Rattle.cfb_siblings.proofs.Frames.{either_same, set_found}
use Rattle.cfb_siblings.specs.Links.{holder, linked_to, with_entry, relinked}
use Rattle.cfb_siblings.specs.declared.links.Link.{Link}
use Rattle.cfb_siblings.specs.declared.links.Link.TheVariants.{Child, Left, Right}

pub black_stays : (old : List Entry) (p : ℕ) (f : Entry) (id : ℕ) → f.color ≡ black → IsBlackAt old id → IsBlackAt (slice_set old p f) id
black_stays [] p f id is h = h
black_stays (x ∷ old) zero f zero is h = is
black_stays (x ∷ old) zero f (suc id) is h = h
black_stays (x ∷ old) (suc p) f zero is h = h
black_stays (x ∷ old) (suc p) f (suc id) is h = black_stays old p f id is h

-- an entry is red or black, and where red its links are black
abbrev pub IsColoredIn : List Entry → Entry → Type 0
IsColoredIn directory e = ((e.color ≡ red) ⊎ (e.color ≡ black)) × (e.color ≡ red → IsBlackAt directory e.left × IsBlackAt directory e.right)

colored_same : (old new : List Entry) (xs : List Entry) (id : ℕ)
    → ((k : ℕ) → IsBlackAt old k → IsBlackAt new k) → IfSome (slice_get xs id) (IsColoredIn old) → IfSome (slice_get xs id) (IsColoredIn new)
colored_same old new [] id keeps h = h
colored_same old new (x ∷ xs) zero keeps h = (h.0, λ e. let both = h.1 e in (keeps x.left both.0, keeps x.right both.1))
colored_same old new (x ∷ xs) (suc id) keeps h = colored_same old new xs id keeps h

colored_in : (old new : List Entry) (xs : List Entry) (p : ℕ) (f : Entry) (id : ℕ) → f.color ≡ black
    → ((k : ℕ) → IsBlackAt old k → IsBlackAt new k) → IfSome (slice_get xs id) (IsColoredIn old) → IfSome (slice_get (slice_set xs p f) id) (IsColoredIn new)
colored_in old new [] p f id is keeps h = h
colored_in old new (x ∷ xs) zero f zero is keeps h = (inr is, λ other. absurd (omega (arith, is, other)))
colored_in old new (x ∷ xs) (suc p) f (suc id) is keeps h = colored_in old new xs p f id is keeps h
colored_in old new (x ∷ xs) (suc p) f zero is keeps h = (h.0, λ e. let both = h.1 e in (keeps x.left both.0, keeps x.right both.1))
colored_in old new (x ∷ xs) zero f (suc id) is keeps h = colored_same old new xs id keeps h

pub colored_stays : (old : List Entry) (p : ℕ) (f : Entry) (id : ℕ) → f.color ≡ black → IsColored old id → IsColored (slice_set old p f) id
colored_stays old p f id is h = colored_in old (slice_set old p f) old p f id is (λ k. black_stays old p f k is) h

-- an entry that is black is coloured right
pub black_colored : (directory : List Entry) (id : ℕ) (f : Entry) → slice_get directory id ≡ Some f → f.color ≡ black → IsColored directory id
black_colored directory id f found is = subst (λ o. IfSome o (IsColoredIn directory)) (sym found) (inr is, λ other. absurd (omega (arith, is, other)))

linked_black : (link : Link) (target : ℕ) (e : Entry) → (linked_to link target e).color ≡ black
linked_black (Child id) target e = refl
linked_black (Left id) target e = refl
linked_black (Right id) target e = refl

-- colours stay right where a link is set
black_within : (old : List Entry) (link : Link) (target k : ℕ) (o : Option Entry) → IsBlackAt old k → IsBlackAt (with_entry old (holder link) (linked_to link target) o) k
black_within old link target k None h = h
black_within old link target k (Some e) h = black_stays old (holder link) (linked_to link target e) k (linked_black link target e) h

colored_within : (old : List Entry) (link : Link) (target k : ℕ) (o : Option Entry) → IsColored old k → IsColored (with_entry old (holder link) (linked_to link target) o) k
colored_within old link target k None h = h
colored_within old link target k (Some e) h = colored_stays old (holder link) (linked_to link target e) k (linked_black link target e) h

pub black_relinked : (old : List Entry) (link : Link) (target k : ℕ) → IsBlackAt old k → IsBlackAt (relinked link target old) k
black_relinked old link target k h = black_within old link target k (slice_get old (holder link)) h

pub colored_relinked : (old : List Entry) (link : Link) (target k : ℕ) → IsColored old k → IsColored (relinked link target old) k
colored_relinked old link target k h = colored_within old link target k (slice_get old (holder link)) h

-- an entry to which no other leads may have any colour
pub set_other : (xs : List Entry) (id k : ℕ) (g : Entry) → nat_eq id k ≡ false → slice_get (slice_set xs id g) k ≡ slice_get xs k
set_other [] id k g other = refl
set_other (x ∷ xs) zero zero g other = absurd (cc)
set_other (x ∷ xs) zero (suc k) g other = refl
set_other (x ∷ xs) (suc id) zero g other = refl
set_other (x ∷ xs) (suc id) (suc k) g other = let lower : nat_eq id k ≡ false = grind arith in set_other xs id k g lower

pub black_cleared : (old : List Entry) (id k : ℕ) (g : Entry) → nat_eq id k ≡ false → IsBlackAt old k → IsBlackAt (slice_set old id g) k
black_cleared old id k g other h = subst (λ o. IfSome o (λ e. e.color ≡ black)) (sym (set_other old id k g other)) h

pub colored_cleared : (old : List Entry) (id k : ℕ) (g e : Entry) → nat_eq id k ≡ false → slice_get old k ≡ Some e
    → nat_eq id e.left ≡ false → nat_eq id e.right ≡ false → IsColored old k → IsColored (slice_set old id g) k
colored_cleared old id k g e other found left right h =
    let here = subst (λ o. IfSome o (IsColoredIn old)) found h in
    subst (λ o. IfSome o (IsColoredIn (slice_set old id g))) (sym (set_other old id k g other ∙ found)) (
      here.0,
      λ is. let both = here.1 is in (black_cleared old id e.left g left both.0, black_cleared old id e.right g right both.1),
    )

-- an entry that keeps its colour and its links to siblings
module _ (old : List Entry) (id : ℕ) (e f : Entry) (found : slice_get old id ≡ Some e) (same : f.color ≡ e.color) where
  pub black_kept : (k : ℕ) → IsBlackAt old k → IsBlackAt (slice_set old id f) k
  black_kept k h = elim (either_same id k) as (λ x. IsBlackAt (slice_set old id f) k) [
    | inl is ↦ subst (IsBlackAt (slice_set old id f)) is (subst (λ o. IfSome o (λ x. x.color ≡ black)) (sym (set_found old id e f found))
        (same ∙ subst (λ o. IfSome o (λ x. x.color ≡ black)) (ap (slice_get old) (sym is) ∙ found) h))
    | inr other ↦ black_cleared old id k f other h
  ]

  pub colored_kept : f.left ≡ e.left → f.right ≡ e.right → (k : ℕ) → IsColored old k → IsColored (slice_set old id f) k
  colored_kept left right k h = elim (either_same id k) as (λ x. IsColored (slice_set old id f) k) [
    | inl is ↦
        let here = subst (λ o. IfSome o (IsColoredIn old)) (ap (slice_get old) (sym is) ∙ found) h in
        subst (IsColored (slice_set old id f)) is (subst (λ o. IfSome o (IsColoredIn (slice_set old id f))) (sym (set_found old id e f found)) (
          rw same here.0,
          λ red. let both = here.1 (sym same ∙ red) in
              (subst (IsBlackAt (slice_set old id f)) (sym left) (black_kept e.left both.0), subst (IsBlackAt (slice_set old id f)) (sym right) (black_kept e.right both.1)),
        ))
    | inr other ↦ subst (λ o. IfSome o (IsColoredIn (slice_set old id f))) (sym (set_other old id k f other)) (kept_at (slice_get old k) h)
  ]
    where
      kept_at : (o : Option Entry) → IfSome o (IsColoredIn old) → IfSome o (IsColoredIn (slice_set old id f))
      kept_at None h = h
      kept_at (Some x) h = (h.0, λ red. let both = h.1 red in (black_kept x.left both.0, black_kept x.right both.1))
