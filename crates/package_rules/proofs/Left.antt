-- What a loop over numbered elements has left to give.
use Rattle.std.proofs.Common.{◌≡◌, ◌∙◌, ℕ, zero, ◌+◌, ◌<◌, ◌≤◌, List, [], ◌∷◌, ◌++◌, length, get_or, drop, suc, refl, sym, ap, ap₂, append_assoc, add-one, arith}
use Rattle.std.specs.List.{enumerate_from, flat_map}
use Rattle.std.proofs.Math.Seq.{drop-cons}

-- what the elements from number i on give
abbrev pub left : {A B : Type 0} → (ℕ → A → List B) → ℕ → List A → List B
left f i xs = flat_map (λ e. f e.0 e.1) (enumerate_from i (drop i xs))

pub left_step : {A B : Type 0} (f : ℕ → A → List B) (xs : List A) (i : ℕ) (x : A) → i < length xs → x ≡ get_or xs i x → left f i xs ≡ f i x ++ left f (i + 1) xs
left_step f xs i x h is =
    ap (λ ys. flat_map (λ e. f e.0 e.1) (enumerate_from i ys)) (drop-cons xs i x h)
    ∙ ap₂ (λ y j. f i y ++ flat_map (λ e. f e.0 e.1) (enumerate_from (i + 1) (drop j xs))) (sym is) (sym (add-one i))

drop_none : {A : Type 0} (xs : List A) (i : ℕ) → length xs ≤ i → drop i xs ≡ []
drop_none [] zero h = refl
drop_none [] (suc i) h = refl
drop_none (x ∷ xs) zero h = absurd (omega arith)
drop_none (x ∷ xs) (suc i) h = drop_none xs i (omega arith)

pub left_end : {A B : Type 0} (f : ℕ → A → List B) (xs : List A) (i : ℕ) → length xs ≤ i → left f i xs ≡ []
left_end f xs i h = ap (λ ys. flat_map (λ e. f e.0 e.1) (enumerate_from i ys)) (drop_none xs i h)

-- the lists of a loop: what was given so far with what is left makes all
pub given_more : {A B : Type 0} (f : ℕ → A → List B) (xs : List A) (i : ℕ) (x : A) (was done now all : List B) → i < length xs → x ≡ get_or xs i x
    → done ++ left f i xs ≡ was ++ all → now ≡ done ++ f i x → now ++ left f (i + 1) xs ≡ was ++ all
given_more f xs i x was done now all h is so more =
    ap (λ ys. ys ++ left f (i + 1) xs) more ∙ append_assoc done (f i x) (left f (i + 1) xs)
    ∙ ap (λ ys. done ++ ys) (sym (left_step f xs i x h is)) ∙ so

pub given_all : {A B : Type 0} (f : ℕ → A → List B) (xs : List A) (i : ℕ) (done all : List B) → length xs ≤ i → done ++ left f i xs ≡ all → done ≡ all
given_all f xs i done all h so = sym (append_nil done) ∙ ap (λ ys. done ++ ys) (sym (left_end f xs i h)) ∙ so
  where
    append_nil : {B : Type 0} (xs : List B) → xs ++ [] ≡ xs
    append_nil [] = refl
    append_nil (x ∷ xs) = ap (λ ys. x ∷ ys) (append_nil xs)
