-- Lists that are alike, and what is left of them behind some elements.
use Rattle.std.proofs.Common.{◌≡◌, ◌↔◌, ℕ, zero, suc, ◌+◌, ◌<◌, ◌≤◌, List, [], ◌∷◌, length, get_or, drop, map, refl, sym, ap, ap₂, subst, add-one, arith, ◌∙◌, Bool, true, false, IsTrue}
use Rattle.msi_listing.specs.Content.{ListingContent, TableContent}
use Rattle.msi_listing.specs.Alike.{AreAlike}

module _ {A : Type 0} (R : A → A → Type 0) where
  pub as_long : (xs ys : List A) → AreAlike R xs ys → length xs ≡ length ys
  as_long [] [] h = refl
  as_long [] (y ∷ ys) h = absurd h
  as_long (x ∷ xs) [] h = absurd h
  as_long (x ∷ xs) (y ∷ ys) h = omega (arith, as_long xs ys h.1)

  down_suc : (xs ys : List A) (i : ℕ) (x y : A) → i < length xs → i < length ys → x ≡ get_or xs i x → y ≡ get_or ys i y
      → AreAlike R (drop i xs) (drop i ys) → R x y × AreAlike R (drop (suc i) xs) (drop (suc i) ys)
  down_suc [] ys i x y h k is too all = absurd (omega arith)
  down_suc (a ∷ xs) [] i x y h k is too all = absurd (omega arith)
  down_suc (a ∷ xs) (b ∷ ys) zero x y h k is too all = (subst (λ v. R v y) (sym is) (subst (R a) (sym too) all.0), all.1)
  down_suc (a ∷ xs) (b ∷ ys) (suc i) x y h k is too all = down_suc xs ys i x y (omega arith) (omega arith) is too all

  up_suc : (xs ys : List A) (i : ℕ) (x y : A) → i < length xs → i < length ys → x ≡ get_or xs i x → y ≡ get_or ys i y
      → R x y → AreAlike R (drop (suc i) xs) (drop (suc i) ys) → AreAlike R (drop i xs) (drop i ys)
  up_suc [] ys i x y h k is too here all = absurd (omega arith)
  up_suc (a ∷ xs) [] i x y h k is too here all = absurd (omega arith)
  up_suc (a ∷ xs) (b ∷ ys) zero x y h k is too here all = (subst (λ v. R v b) is (subst (R x) too here), all)
  up_suc (a ∷ xs) (b ∷ ys) (suc i) x y h k is too here all = up_suc xs ys i x y (omega arith) (omega arith) is too here all

  -- what is left behind one element more decides, where that one is alike
  pub left_more : (xs ys : List A) (i : ℕ) (x y : A) → i < length xs → i < length ys → x ≡ get_or xs i x → y ≡ get_or ys i y → R x y
      → AreAlike R xs ys ↔ AreAlike R (drop i xs) (drop i ys) → AreAlike R xs ys ↔ AreAlike R (drop (i + 1) xs) (drop (i + 1) ys)
  left_more xs ys i x y h k is too here left =
      let P : ℕ → Type 0 = λ j. AreAlike R xs ys ↔ AreAlike R (drop j xs) (drop j ys) in
      subst P (sym (add-one i)) (
        λ all. (down_suc xs ys i x y h k is too (left.0 all)).1,
        λ rest. left.1 (up_suc xs ys i x y h k is too here rest),
      )

  pub unlike_here : (xs ys : List A) (i : ℕ) (x y : A) → i < length xs → i < length ys → x ≡ get_or xs i x → y ≡ get_or ys i y
      → AreAlike R xs ys ↔ AreAlike R (drop i xs) (drop i ys) → AreAlike R xs ys → R x y
  unlike_here xs ys i x y h k is too left all = (down_suc xs ys i x y h k is too (left.0 all)).0

  none_left : (xs ys : List A) (i : ℕ) → length xs ≤ i → length ys ≤ i → AreAlike R (drop i xs) (drop i ys)
  none_left [] [] zero h k = tt
  none_left [] [] (suc i) h k = tt
  none_left [] (y ∷ ys) zero h k = absurd (omega arith)
  none_left [] (y ∷ ys) (suc i) h k = absurd_or ys i (omega arith)
    where
      absurd_or : (ys : List A) (i : ℕ) → length ys ≤ i → AreAlike R [] (drop i ys)
      absurd_or [] zero h = tt
      absurd_or [] (suc i) h = tt
      absurd_or (y ∷ ys) zero h = absurd (omega arith)
      absurd_or (y ∷ ys) (suc i) h = absurd_or ys i (omega arith)
  none_left (x ∷ xs) [] zero h k = absurd (omega arith)
  none_left (x ∷ xs) [] (suc i) h k = absurd_or xs i (omega arith)
    where
      absurd_or : (xs : List A) (i : ℕ) → length xs ≤ i → AreAlike R (drop i xs) []
      absurd_or [] zero h = tt
      absurd_or [] (suc i) h = tt
      absurd_or (x ∷ xs) zero h = absurd (omega arith)
      absurd_or (x ∷ xs) (suc i) h = absurd_or xs i (omega arith)
  none_left (x ∷ xs) (y ∷ ys) zero h k = absurd (omega arith)
  none_left (x ∷ xs) (y ∷ ys) (suc i) h k = none_left xs ys i (omega arith) (omega arith)

  pub all_alike : (xs ys : List A) (i : ℕ) → length xs ≤ i → length xs ≡ length ys → AreAlike R xs ys ↔ AreAlike R (drop i xs) (drop i ys) → AreAlike R xs ys
  all_alike xs ys i h same left = left.1 (none_left xs ys i h (omega arith))

-- lists that say the same, element by element
pub mapped_alike : {A B : Type 0} (f : A → B) (xs ys : List A) → AreAlike (λ x y. f x ≡ f y) xs ys → map f xs ≡ map f ys
mapped_alike f [] [] h = refl
mapped_alike f [] (y ∷ ys) h = absurd h
mapped_alike f (x ∷ xs) [] h = absurd h
mapped_alike f (x ∷ xs) (y ∷ ys) h = ap₂ (λ a bs. a ∷ bs) h.0 (mapped_alike f xs ys h.1)

pub alike_mapped : {A B : Type 0} (f : A → B) (xs ys : List A) → map f xs ≡ map f ys → AreAlike (λ x y. f x ≡ f y) xs ys
alike_mapped f [] [] e = tt
alike_mapped f [] (y ∷ ys) e = absurd (cc e)
alike_mapped f (x ∷ xs) [] e = absurd (cc e)
alike_mapped f (x ∷ xs) (y ∷ ys) e = (cc, alike_mapped f xs ys (cc))

pub same_alike : {A : Type 0} (xs ys : List A) → AreAlike (λ x y. x ≡ y) xs ys → xs ≡ ys
same_alike [] [] h = refl
same_alike [] (y ∷ ys) h = absurd h
same_alike (x ∷ xs) [] h = absurd h
same_alike (x ∷ xs) (y ∷ ys) h = ap₂ (λ a bs. a ∷ bs) h.0 (same_alike xs ys h.1)

pub alike_same : {A : Type 0} (xs ys : List A) → xs ≡ ys → AreAlike (λ x y. x ≡ y) xs ys
alike_same [] [] e = tt
alike_same [] (y ∷ ys) e = absurd (cc e)
alike_same (x ∷ xs) [] e = absurd (cc e)
alike_same (x ∷ xs) (y ∷ ys) e = (cc, alike_same xs ys (cc))

-- a test of lists whose elements say so much
pub told_by_view : {A B : Type 0} (f : A → B) (xs ys : List A) (vs ws : List B) (b : Bool) → IsTrue b ↔ AreAlike (λ x y. f x ≡ f y) xs ys → map f xs ≡ vs → map f ys ≡ ws
    → IsTrue b ↔ (vs ≡ ws)
told_by_view f xs ys vs ws b told is too = (
  λ h. sym is ∙ mapped_alike f xs ys (told.0 h) ∙ too,
  λ e. told.1 (alike_mapped f xs ys (is ∙ e ∙ sym too)),
)

pub told_alike : {A : Type 0} (xs ys vs ws : List A) (b : Bool) → IsTrue b ↔ AreAlike (λ x y. x ≡ y) xs ys → xs ≡ vs → ys ≡ ws → IsTrue b ↔ (vs ≡ ws)
told_alike xs ys vs ws b told is too = (
  λ h. sym is ∙ same_alike xs ys (told.0 h) ∙ too,
  λ e. told.1 (alike_same xs ys (is ∙ e ∙ sym too)),
)

-- ---- records whose parts are the same

pub differs : {A : Type 0} {t u : A} → (t ≡ u → ⊥) → IsTrue false ↔ (t ≡ u)
differs no_more = (λ h. absurd (cc h), λ e. absurd (no_more e))

pub not_so : {P : Type 0} (b : Bool) → b ≡ false → IsTrue b ↔ P → P → ⊥
not_so b is told p = absurd_true b is (told.1 p)
  where
    absurd_true : (b : Bool) → b ≡ false → IsTrue b → ⊥
    absurd_true true e h = cc e
    absurd_true false e h = cc h

pub is_so : {P : Type 0} (b : Bool) → b ≡ true → IsTrue b ↔ P → P
is_so b is told = told.0 is

pub same_tables : (t u : TableContent) → t.name ≡ u.name → t.columns ≡ u.columns → (b : Bool) → IsTrue b ↔ (t.rows ≡ u.rows) → IsTrue b ↔ (t ≡ u)
same_tables t u names columns b told = (
  λ h. let rows = told.0 h in λ i. record { name = names i; columns = columns i; rows = rows i },
  λ e. told.1 (ap (λ v. v.rows) e),
)

pub same_listings : (l m : ListingContent) → l.codepage ≡ m.codepage → l.tables ≡ m.tables → l.streams ≡ m.streams → (b : Bool) → IsTrue b ↔ (l.properties ≡ m.properties) → IsTrue b ↔ (l ≡ m)
same_listings l m pages tables streams b told = (
  λ h. let properties = told.0 h in λ i. record { codepage = pages i; tables = tables i; streams = streams i; properties = properties i },
  λ e. told.1 (ap (λ v. v.properties) e),
)
