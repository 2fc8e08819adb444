-- Which places come back, told one by one.
use Rattle.std.proofs.Common.{◌≡◌, ◌≤◌, ◌<◌, ◌+◌, ◌-◌, ◌∙◌, ◌++◌, ℕ, true, false, zero, suc, List, [], ◌∷◌, length, get_or, take, drop, refl, sym, subst, ap, arith, add-one, drop-cons, append_assoc, append-nil, length-append}
use Rattle.std.proofs.lemmas.Bool.Decides.{nat_tests}
use Rattle.std.specs.Prelude.{String, ◌==◌, string_bytes}
use Rattle.std.specs.declared.alloc.Global.{Global}
use Rattle.msi_texts.specs.declared.codepage.CodePage.{CodePage}
use Rattle.msi_pool.specs.Pool.{place_of, places_of}
use Rattle.msi_pool.specs.PoolKept.{AreKept, IsKeptPlace, is_unfit, unfit_among}

abbrev Entry : Type 0
Entry = String Global × ℕ

-- the ones to come decide
abbrev pub KeptTo : CodePage → List Entry → ℕ → Type 0
KeptTo page xs i = AreKept page (places_of (drop i xs)) → AreKept page (places_of xs)

-- one more is kept
pub kept_more : (page : CodePage) (xs : List Entry) (i : ℕ) (e : Entry) → i < length xs → e ≡ get_or xs i e → IsKeptPlace page (place_of e) → KeptTo page xs i → KeptTo page xs (i + 1)
kept_more page xs i e within is kept before = λ rest.
    before (subst (λ ys. AreKept page (places_of ys)) (sym (drop-cons xs i e within)) (subst (λ f. IsKeptPlace page (place_of f)) is kept, subst (λ k. AreKept page (places_of (drop k xs))) (add-one i) rest))

-- each of them is
pub kept_one : (page : CodePage) (xs : List Entry) (i : ℕ) (e : Entry) → i < length xs → e ≡ get_or xs i e → AreKept page (places_of xs) → IsKeptPlace page (place_of e)
kept_one page [] i e within is all = absurd (omega (arith, within))
kept_one page (x ∷ xs) zero e within is all = subst (λ f. IsKeptPlace page (place_of f)) (sym is) all.0
kept_one page (x ∷ xs) (suc i) e within is all = kept_one page xs i e (omega (arith, within)) is all.1

drop_all : (xs : List Entry) → drop (length xs) xs ≡ []
drop_all [] = refl
drop_all (x ∷ xs) = drop_all xs

-- none is left
pub kept_all : (page : CodePage) (xs : List Entry) → KeptTo page xs (length xs) → AreKept page (places_of xs)
kept_all page xs before = before (subst (λ ys. AreKept page (places_of ys)) (sym (drop_all xs)) tt)

-- a text without a byte
pub empty_told : (xs : List ℕ) → (length xs == 0) ≡ true → xs ≡ []
empty_told [] is = refl
empty_told (x ∷ xs) is = absurd (grind (arith, nat_tests, is))

pub empty_tells : (xs : List ℕ) → xs ≡ [] → (length xs == 0) ≡ true
empty_tells xs is = rw is

-- ---- the texts that don't fit

abbrev pub Texts : Type 0
Texts = List (List ℕ)

-- those so far, and as many of those to come as may follow
abbrev pub Gives : CodePage → ℕ → List Entry → ℕ → Texts → Type 0
Gives page most xs i taken = (length taken ≤ most) × (taken ++ take (most - length taken) (unfit_among page (places_of (drop i xs))) ≡ take most (unfit_among page (places_of xs)))

-- one more of them
one_more : (taken : Texts) (t : List ℕ) (more : Texts) (n m : ℕ) → n ≡ suc m → taken ++ take n (t ∷ more) ≡ (taken ++ (t ∷ [])) ++ take m more
one_more taken t more n m is = rw is (sym (append_assoc taken (t ∷ []) (take m more)))

pub gives_more : (page : CodePage) (most : ℕ) (xs : List Entry) (i : ℕ) (e : Entry) (taken : Texts) → i < length xs → e ≡ get_or xs i e → length taken < most → is_unfit page (place_of e) ≡ true → Gives page most xs i taken
    → Gives page most xs (i + 1) (taken ++ (string_bytes e.0 ∷ []))
gives_more page most xs i e taken within is room unfit so = (
  let len = length-append taken (string_bytes e.0 ∷ []) in omega (arith, len, room),
  let len : length (taken ++ (string_bytes e.0 ∷ [])) ≡ length taken + 1 = length-append taken (string_bytes e.0 ∷ []) in
      let here : unfit_among page (places_of (drop i xs)) ≡ string_bytes e.0 ∷ unfit_among page (places_of (drop (suc i) xs)) =
      ap (λ ys. unfit_among page (places_of ys)) (drop-cons xs i e within) ∙ subst (λ f. unfit_among page (places_of (f ∷ drop (suc i) xs)) ≡ string_bytes e.0 ∷ unfit_among page (places_of (drop (suc i) xs))) is (rw unfit) in
      let step = one_more taken (string_bytes e.0) (unfit_among page (places_of (drop (suc i) xs))) (most - length taken) (most - length (taken ++ (string_bytes e.0 ∷ []))) (omega (arith, len, room)) in
      subst (λ k. (taken ++ (string_bytes e.0 ∷ [])) ++ take (most - length (taken ++ (string_bytes e.0 ∷ []))) (unfit_among page (places_of (drop k xs))) ≡ take most (unfit_among page (places_of xs))) (sym (add-one i))
      (sym step ∙ sym (ap (λ more. taken ++ take (most - length taken) more) here) ∙ so.1),
)

-- and none here
pub gives_same : (page : CodePage) (most : ℕ) (xs : List Entry) (i : ℕ) (e : Entry) (taken : Texts) → i < length xs → e ≡ get_or xs i e → is_unfit page (place_of e) ≡ false → Gives page most xs i taken → Gives page most xs (i + 1) taken
gives_same page most xs i e taken within is fit so = (
  so.0,
  let here : unfit_among page (places_of (drop i xs)) ≡ unfit_among page (places_of (drop (suc i) xs)) =
      ap (λ ys. unfit_among page (places_of ys)) (drop-cons xs i e within) ∙ subst (λ f. unfit_among page (places_of (f ∷ drop (suc i) xs)) ≡ unfit_among page (places_of (drop (suc i) xs))) is (rw fit) in
      subst (λ k. taken ++ take (most - length taken) (unfit_among page (places_of (drop k xs))) ≡ take most (unfit_among page (places_of xs))) (sym (add-one i))
      (sym (ap (λ more. taken ++ take (most - length taken) more) here) ∙ so.1),
)

-- no more may follow
pub gives_full : (page : CodePage) (most : ℕ) (xs : List Entry) (i : ℕ) (taken : Texts) → length taken ≡ most → Gives page most xs i taken → taken ≡ take most (unfit_among page (places_of xs))
gives_full page most xs i taken full so =
    let none : most - length taken ≡ 0 = omega (arith, full) in
    sym (append-nil taken) ∙ ap (λ n. taken ++ take n (unfit_among page (places_of (drop i xs)))) (sym none) ∙ so.1

-- none follows
pub gives_all : (page : CodePage) (most : ℕ) (xs : List Entry) (taken : Texts) → Gives page most xs (length xs) taken → taken ≡ take most (unfit_among page (places_of xs))
gives_all page most xs taken so =
    sym (append-nil taken) ∙ ap (λ more. taken ++ more) (sym (empty (most - length taken))) ∙ ap (λ ys. taken ++ take (most - length taken) (unfit_among page (places_of ys))) (sym (drop_all xs)) ∙ so.1
  where
    empty : (n : ℕ) → take n (unfit_among page []) ≡ []
    empty zero = refl
    empty (suc n) = refl
