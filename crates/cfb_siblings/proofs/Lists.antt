-- Lists with one more element in their midst, or one less.
use Rattle.std.proofs.Common.{◌≡◌, ◌↔◌, ℕ, false, List, [], ◌∷◌, ◌++◌, append-nil, append_assoc, refl, sym, subst, arith}
use Rattle.std.specs.Prelude.{nat_eq}
use Rattle.std.specs.List.{AllByRecursion, IsDistinct}
use Rattle.std.specs.List.Sorted.{IsStrictlySortedBy}
use Rattle.std.specs.declared.cmp.Ordering.{Ordering}
use Rattle.std.specs.declared.cmp.Ordering.TheVariants.{Less}
use Rattle.cfb_tree.proofs.NamesRead.{all_append}
use Rattle.cfb_siblings.specs.Changes.{IsApart}

pub all_parts : {A : Type 0} (P : A → Type 0) (xs ys : List A) → AllByRecursion P (xs ++ ys) → AllByRecursion P xs × AllByRecursion P ys
all_parts P [] ys h = (tt, h)
all_parts P (x ∷ xs) ys h = let rest = all_parts P xs ys h.1 in ((h.0, rest.0), rest.1)

pub all_map : {A : Type 0} (P Q : A → Type 0) (xs : List A) → ((x : A) → P x → Q x) → AllByRecursion P xs → AllByRecursion Q xs
all_map P Q [] f h = tt
all_map P Q (x ∷ xs) f h = (f x h.0, all_map P Q xs f h.1)

-- what comes first in a list of those of which P holds is unique
pub first_same : (P : ℕ → Type 0) (xs : List ℕ) (x : ℕ) (xs' ys : List ℕ) (y : ℕ) (ys' : List ℕ) → xs ++ x ∷ xs' ≡ ys ++ y ∷ ys' → P x → P y
    → AllByRecursion (λ k. P k → ⊥) xs → AllByRecursion (λ k. P k → ⊥) ys → x ≡ y
first_same P [] x xs' [] y ys' same is_x is_y before_x before_y = cc
first_same P [] x xs' (z ∷ ys) y ys' same is_x is_y before_x before_y = let here : x ≡ z = cc in absurd (before_y.0 (subst P here is_x))
first_same P (z ∷ xs) x xs' [] y ys' same is_x is_y before_x before_y = let here : y ≡ z = cc in absurd (before_x.0 (subst P here is_y))
first_same P (z ∷ xs) x xs' (w ∷ ys) y ys' same is_x is_y before_x before_y =
    let later : xs ++ x ∷ xs' ≡ ys ++ y ∷ ys' = cc in first_same P xs x xs' ys y ys' later is_x is_y before_x.1 before_y.1

pub apart_turned : (m n : ℕ) → nat_eq m n ≡ false → nat_eq n m ≡ false
apart_turned m n h = grind arith

-- in a list without repetition an element is apart from those before and after it
pub apart_in : (xs : List ℕ) (p : ℕ) (ys : List ℕ) → IsDistinct nat_eq (xs ++ p ∷ ys) → IsApart p xs × IsApart p ys
unfolding IsDistinct
apart_in [] p ys h = (tt, h.0)
apart_in (x ∷ xs) p ys h =
    let rest = apart_in xs p ys h.1 in
    let here = all_parts (λ y. nat_eq x y ≡ false) xs (p ∷ ys) h.0 in
    ((apart_turned x p here.1.0, rest.0), rest.1)

pub distinct_parts : (xs ys : List ℕ) → IsDistinct nat_eq (xs ++ ys) → IsDistinct nat_eq xs × IsDistinct nat_eq ys
unfolding IsDistinct
distinct_parts [] ys h = (tt, h)
distinct_parts (x ∷ xs) ys h =
    let rest = distinct_parts xs ys h.1 in
    (((all_parts (λ y. nat_eq x y ≡ false) xs ys h.0).0, rest.0), rest.1)

pub distinct_with : (xs : List ℕ) (p : ℕ) (ys : List ℕ) → IsDistinct nat_eq (xs ++ ys) → IsApart p (xs ++ ys) → IsDistinct nat_eq (xs ++ p ∷ ys)
unfolding IsDistinct
distinct_with [] p ys h k = (k, h)
distinct_with (x ∷ xs) p ys h k =
    let here = all_parts (λ y. nat_eq x y ≡ false) xs ys h.0 in
    (all_append (λ y. nat_eq x y ≡ false) xs (p ∷ ys) here.0 (apart_turned p x k.0, here.1), distinct_with xs p ys h.1 k.1)

pub distinct_without : (xs ms ys : List ℕ) → IsDistinct nat_eq (xs ++ (ms ++ ys)) → IsDistinct nat_eq (xs ++ ys)
unfolding IsDistinct
distinct_without [] ms ys h = (distinct_parts ms ys h).1
distinct_without (x ∷ xs) ms ys h =
    let here = all_parts (λ y. nat_eq x y ≡ false) xs (ms ++ ys) h.0 in
    let there = all_parts (λ y. nat_eq x y ≡ false) ms ys here.1 in
    (all_append (λ y. nat_eq x y ≡ false) xs ys here.0 there.1, distinct_without xs ms ys h.1)

module _ {A : Type 0} (cmp : A → A → Ordering) where
  -- in a rising list those before an element are below it, and those after it above
  pub sorted_around : (xs : List A) (x : A) (ys : List A) → IsStrictlySortedBy cmp (xs ++ x ∷ ys)
      → AllByRecursion (λ y. cmp y x ≡ Less) xs × AllByRecursion (λ y. cmp x y ≡ Less) ys
  unfolding IsStrictlySortedBy
  sorted_around [] x ys h = (tt, h.0)
  sorted_around (y ∷ xs) x ys h =
      let rest = sorted_around xs x ys h.1 in
      (((all_parts (λ z. cmp y z ≡ Less) xs (x ∷ ys) h.0).1.0, rest.0), rest.1)

  pub sorted_parts : (xs ys : List A) → IsStrictlySortedBy cmp (xs ++ ys) → IsStrictlySortedBy cmp xs × IsStrictlySortedBy cmp ys
  unfolding IsStrictlySortedBy
  sorted_parts [] ys h = (tt, h)
  sorted_parts (x ∷ xs) ys h =
      let rest = sorted_parts xs ys h.1 in (((all_parts (λ z. cmp x z ≡ Less) xs ys h.0).0, rest.0), rest.1)

  pub sorted_with : (xs : List A) (x : A) (ys : List A) → IsStrictlySortedBy cmp (xs ++ ys)
      → AllByRecursion (λ y. cmp y x ≡ Less) xs → AllByRecursion (λ y. cmp x y ≡ Less) ys → IsStrictlySortedBy cmp (xs ++ x ∷ ys)
  unfolding IsStrictlySortedBy
  sorted_with [] x ys h below above = (above, h)
  sorted_with (y ∷ xs) x ys h below above =
      let here = all_parts (λ z. cmp y z ≡ Less) xs ys h.0 in
      (all_append (λ z. cmp y z ≡ Less) xs (x ∷ ys) here.0 (below.0, here.1), sorted_with xs x ys h.1 below.1 above)

  pub sorted_without : (xs : List A) (x : A) (ys : List A) → IsStrictlySortedBy cmp (xs ++ x ∷ ys) → IsStrictlySortedBy cmp (xs ++ ys)
  unfolding IsStrictlySortedBy
  sorted_without [] x ys h = h.1
  sorted_without (y ∷ xs) x ys h =
      let here = all_parts (λ z. cmp y z ≡ Less) xs (x ∷ ys) h.0 in
      (all_append (λ z. cmp y z ≡ Less) xs ys here.0 here.1.1, sorted_without xs x ys h.1)

pub distinct_swap : (xs ys : List ℕ) → IsDistinct nat_eq (xs ++ ys) → IsDistinct nat_eq (ys ++ xs)
unfolding IsDistinct
distinct_swap [] ys h = rw append-nil h
distinct_swap (x ∷ xs) ys h =
    let here = all_parts (λ y. nat_eq x y ≡ false) xs ys h.0 in
    distinct_with ys x xs (distinct_swap xs ys h.1) (all_append (λ y. nat_eq x y ≡ false) ys xs here.1 here.0)

-- the midst of a list without repetition, moved to its end
pub distinct_moved : (xs ms ys : List ℕ) → IsDistinct nat_eq (xs ++ (ms ++ ys)) → IsDistinct nat_eq ((xs ++ ys) ++ ms)
unfolding IsDistinct
distinct_moved [] ms ys h = distinct_swap ms ys h
distinct_moved (x ∷ xs) ms ys h =
    let here = all_parts (λ y. nat_eq x y ≡ false) xs (ms ++ ys) h.0 in
    let there = all_parts (λ y. nat_eq x y ≡ false) ms ys here.1 in (
      all_append (λ y. nat_eq x y ≡ false) (xs ++ ys) ms (all_append (λ y. nat_eq x y ≡ false) xs ys here.0 there.1) there.0,
      distinct_moved xs ms ys h.1,
    )

-- one more number within a part of a list
module _ (xs : List ℕ) (p : ℕ) (fs bs ys : List ℕ) (n : ℕ) where
  regroup_with : (xs ++ p ∷ fs) ++ n ∷ (bs ++ ys) ≡ xs ++ p ∷ ((fs ++ n ∷ bs) ++ ys)
  regroup_with = simp append_assoc refl

  regroup_plain : (xs ++ p ∷ fs) ++ (bs ++ ys) ≡ xs ++ p ∷ ((fs ++ bs) ++ ys)
  regroup_plain = simp append_assoc refl

  pub distinct_inside : IsDistinct nat_eq (xs ++ p ∷ ((fs ++ bs) ++ ys)) → IsApart n (xs ++ p ∷ ((fs ++ bs) ++ ys))
      → IsDistinct nat_eq (xs ++ p ∷ ((fs ++ n ∷ bs) ++ ys))
  distinct_inside once fresh = subst (IsDistinct nat_eq) regroup_with
      (distinct_with (xs ++ p ∷ fs) n (bs ++ ys) (subst (IsDistinct nat_eq) (sym regroup_plain) once) (subst (IsApart n) (sym regroup_plain) fresh))

  pub apart_inside : (k : ℕ) → IsApart k (xs ++ p ∷ ((fs ++ n ∷ bs) ++ ys)) ↔ (nat_eq k n ≡ false) × IsApart k (xs ++ p ∷ ((fs ++ bs) ++ ys))
  apart_inside k = (
    λ h.
        let parts = all_parts (λ y. nat_eq k y ≡ false) (xs ++ p ∷ fs) (n ∷ (bs ++ ys)) (subst (IsApart k) (sym regroup_with) h) in
        (parts.1.0, subst (IsApart k) regroup_plain (all_append (λ y. nat_eq k y ≡ false) (xs ++ p ∷ fs) (bs ++ ys) parts.0 parts.1.1)),
    λ h.
        let parts = all_parts (λ y. nat_eq k y ≡ false) (xs ++ p ∷ fs) (bs ++ ys) (subst (IsApart k) (sym regroup_plain) h.1) in
        subst (IsApart k) regroup_with (all_append (λ y. nat_eq k y ≡ false) (xs ++ p ∷ fs) (n ∷ (bs ++ ys)) parts.0 (h.0, parts.1)),
  )

-- one number less, with those behind it
module _ (xs : List ℕ) (p : ℕ) (fs : List ℕ) (n : ℕ) (own bs ys : List ℕ) where
  regroup_own : (xs ++ p ∷ fs) ++ (n ∷ own ++ (bs ++ ys)) ≡ xs ++ p ∷ ((fs ++ n ∷ (own ++ bs)) ++ ys)
  regroup_own = simp append_assoc refl

  regroup_rest : (xs ++ p ∷ fs) ++ (bs ++ ys) ≡ xs ++ p ∷ ((fs ++ bs) ++ ys)
  regroup_rest = simp append_assoc refl

  pub distinct_outside : IsDistinct nat_eq (xs ++ p ∷ ((fs ++ n ∷ (own ++ bs)) ++ ys)) → IsDistinct nat_eq (xs ++ p ∷ ((fs ++ bs) ++ ys))
  distinct_outside once = subst (IsDistinct nat_eq) regroup_rest
      (distinct_without (xs ++ p ∷ fs) (n ∷ own) (bs ++ ys) (subst (IsDistinct nat_eq) (sym regroup_own) once))

  pub gone_outside : IsDistinct nat_eq (xs ++ p ∷ ((fs ++ n ∷ (own ++ bs)) ++ ys)) → IsApart n (xs ++ p ∷ ((fs ++ bs) ++ ys))
  gone_outside once =
      let apart = apart_in (xs ++ p ∷ fs) n (own ++ (bs ++ ys)) (subst (IsDistinct nat_eq) (sym regroup_own) once) in
      subst (IsApart n) regroup_rest (all_append (λ y. nat_eq n y ≡ false) (xs ++ p ∷ fs) (bs ++ ys) apart.0
      ((all_parts (λ y. nat_eq n y ≡ false) own (bs ++ ys) apart.1).1))

  pub apart_outside : (k : ℕ) → IsApart k (xs ++ p ∷ ((fs ++ n ∷ (own ++ bs)) ++ ys))
      ↔ (nat_eq k n ≡ false) × IsApart k own × IsApart k (xs ++ p ∷ ((fs ++ bs) ++ ys))
  apart_outside k = (
    λ h.
        let parts = all_parts (λ y. nat_eq k y ≡ false) (xs ++ p ∷ fs) (n ∷ own ++ (bs ++ ys)) (subst (IsApart k) (sym regroup_own) h) in
        let behind = all_parts (λ y. nat_eq k y ≡ false) own (bs ++ ys) parts.1.1 in
        (parts.1.0, behind.0, subst (IsApart k) regroup_rest (all_append (λ y. nat_eq k y ≡ false) (xs ++ p ∷ fs) (bs ++ ys) parts.0 behind.1)),
    λ h.
        let parts = all_parts (λ y. nat_eq k y ≡ false) (xs ++ p ∷ fs) (bs ++ ys) (subst (IsApart k) (sym regroup_rest) h.2) in
        subst (IsApart k) regroup_own (all_append (λ y. nat_eq k y ≡ false) (xs ++ p ∷ fs) (n ∷ own ++ (bs ++ ys)) parts.0
        (h.0, all_append (λ y. nat_eq k y ≡ false) own (bs ++ ys) h.1 parts.1)),
  )
