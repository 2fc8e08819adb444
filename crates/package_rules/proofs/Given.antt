-- A loop that puts elements into a set or a map: what was put so far, with what is left, is all.
use Rattle.std.proofs.Common.{◌≡◌, ◌∙◌, ℕ, zero, suc, arith, map, ◌+◌, ◌<◌, ◌≤◌, List, [], ◌∷◌, ◌++◌, length, get_or, refl, sym, ap, subst, append_assoc}
use Rattle.std.specs.List.{enumerate_from, flat_map}
use Rattle.package_rules.specs.Places.{numbered}
use Rattle.package_rules.proofs.Left.{left, left_step, given_all}

pub record Given {A B : Type 0} (f : ℕ → A → List B) (xs : List A) (i : ℕ) (before : List B) (P : List B → Type 0) : Type 0 where
  pub done : List B
  pub so : done ++ left f i xs ≡ numbered f xs
  pub are : P (before ++ done)

append_nil : {B : Type 0} (xs : List B) → xs ++ [] ≡ xs
append_nil [] = refl
append_nil (x ∷ xs) = ap (λ ys. x ∷ ys) (append_nil xs)

pub given_start : {A B : Type 0} (f : ℕ → A → List B) (xs : List A) (before : List B) (P : List B → Type 0) → P before → Given f xs 0 before P
given_start f xs before P h = record { done = []; so = refl; are = subst P (sym (append_nil before)) h }

pub given_next : {A B : Type 0} (f : ℕ → A → List B) (xs : List A) (i : ℕ) (x : A) (before : List B) (P Q : List B → Type 0) → i < length xs → x ≡ get_or xs i x
    → ((all : List B) → P all → Q (all ++ f i x)) → Given f xs i before P → Given f xs (i + 1) before Q
given_next f xs i x before P Q h is step g = record {
  done = g.done ++ f i x;
  so = append_assoc g.done (f i x) (left f (i + 1) xs) ∙ ap (λ ys. g.done ++ ys) (sym (left_step f xs i x h is)) ∙ g.so;
  are = subst Q (append_assoc before g.done (f i x)) (step (before ++ g.done) g.are);
}

pub given_end : {A B : Type 0} (f : ℕ → A → List B) (xs : List A) (i : ℕ) (before : List B) (P : List B → Type 0) → length xs ≤ i → Given f xs i before P → P (before ++ numbered f xs)
given_end f xs i before P h g = subst (λ ys. P (before ++ ys)) (given_all f xs i g.done (numbered f xs) h g.so) g.are

-- lists that need no numbers
pub unnumbered : {A B : Type 0} (g : A → List B) (xs : List A) (i : ℕ) → flat_map (λ e. g e.1) (enumerate_from i xs) ≡ flat_map g xs
unnumbered g [] i = refl
unnumbered g (x ∷ xs) i = ap (λ ys. g x ++ ys) (unnumbered g xs (i + 1))

pub each_alone : {A : Type 0} (xs : List A) (i : ℕ) → flat_map (λ e. e.1 ∷ []) (enumerate_from i xs) ≡ xs
each_alone [] i = refl
each_alone (x ∷ xs) i = ap (λ ys. x ∷ ys) (each_alone xs (i + 1))

-- ---- lists of what elements say

pub mapped_less : {A B : Type 0} (g : A → B) (xs : List A) (i : ℕ) → i < length xs → i < length (map g xs)
mapped_less g [] i h = absurd (omega arith)
mapped_less g (x ∷ xs) zero h = omega arith
mapped_less g (x ∷ xs) (suc i) h = omega (arith, mapped_less g xs i (omega arith))

pub mapped_past : {A B : Type 0} (g : A → B) (xs : List A) (i : ℕ) → length xs ≤ i → length (map g xs) ≤ i
mapped_past g [] i h = omega arith
mapped_past g (x ∷ xs) zero h = absurd (omega arith)
mapped_past g (x ∷ xs) (suc i) h = omega (arith, mapped_past g xs i (omega arith))

pub mapped_at : {A B : Type 0} (g : A → B) (xs : List A) (i : ℕ) (x : A) → i < length xs → x ≡ get_or xs i x → g x ≡ get_or (map g xs) i (g x)
mapped_at g [] i x h is = absurd (omega arith)
mapped_at g (y ∷ ys) zero x h is = ap g is
mapped_at g (y ∷ ys) (suc i) x h is = mapped_at g ys i x (omega arith) is
