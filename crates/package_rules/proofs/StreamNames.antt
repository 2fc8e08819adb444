-- Names of streams in a set, and whether a name is one.
use Rattle.std.proofs.Common.{◌≡◌, ◌∙◌, ℕ, zero, suc, ◌+◌, ◌<◌, ◌≤◌, arith, Bool, true, false, cond, List, [], ◌∷◌, ◌++◌, Some, length, get_or, map, take, refl, sym, ap}
use Rattle.std.specs.Prelude.{◌||◌, slice_get, bytes_eq}
use Rattle.std.specs.List.{flat_map, list_any}
use Rattle.std.proofs.lemmas.List.{take_more}
use Rattle.std.proofs.lemmas.Slice.Eq.{bytes_eq-Decides}
use Rattle.package_rules.proofs.Kept.{any_behind}

pub any_mapped : {A B : Type 0} (f : A → B) (p : B → Bool) (xs : List A) → list_any p (map f xs) ≡ list_any (λ x. p (f x)) xs
any_mapped f p [] = refl
any_mapped f p (x ∷ xs) = ap (λ b. p (f x) || b) (any_mapped f p xs)

-- one element more
pub any_more : {A : Type 0} (p : A → Bool) (xs : List A) (i : ℕ) (x : A) → i < length xs → x ≡ get_or xs i x → list_any p (take (i + 1) xs) ≡ cond (p x) true (list_any p (take i xs))
any_more p xs i x h is =
    ap (list_any p) (take_more xs i x h ∙ ap (λ y. take i xs ++ y ∷ []) (sym is)) ∙ any_behind p (take i xs) x

-- the same where the element is read with some default
pub any_one_more : {A : Type 0} (p : A → Bool) (xs : List A) (i : ℕ) (d : A) → i < length xs → list_any p (take (i + 1) xs) ≡ cond (p (get_or xs i d)) true (list_any p (take i xs))
any_one_more p xs i d h = ap (list_any p) (take_more xs i d h) ∙ any_behind p (take i xs) (get_or xs i d)

pub any_at : {A : Type 0} (p : A → Bool) (xs : List A) (i : ℕ) (d : A) → i < length xs → p (get_or xs i d) ≡ true → list_any p xs ≡ true
any_at p [] i d h is = absurd (omega arith)
any_at p (x ∷ xs) zero d h is = ap (λ b. b || list_any p xs) is
any_at p (x ∷ xs) (suc i) d h is = ap (λ b. p x || b) (any_at p xs i d (omega arith) is) ∙ or_true (p x)
  where
    or_true : (b : Bool) → (b || true) ≡ true
    or_true true = refl
    or_true false = refl

either : (a b : Bool) → (a || b) ≡ false → (a ≡ false) × (b ≡ false)
either true b h = absurd (cc h)
either false b h = (refl, h)

-- no name is this one
pub none_there : (xs : List (List ℕ)) (name : List ℕ) → list_any (λ s. bytes_eq s name) xs ≡ false → (k : ℕ) → slice_get xs k ≡ Some name → ⊥
none_there [] name h k at = cc at
none_there (x ∷ xs) name h zero at =
    let same : x ≡ name = cc at in
    absurd (cc (sym ((bytes_eq-Decides x name).1 same) ∙ (either (bytes_eq x name) (list_any (λ s. bytes_eq s name) xs) h).0))
none_there (x ∷ xs) name h (suc k) at = none_there xs name (either (bytes_eq x name) (list_any (λ s. bytes_eq s name) xs) h).1 k at

pub there_none : (xs : List (List ℕ)) (name : List ℕ) → ((k : ℕ) → slice_get xs k ≡ Some name → ⊥) → list_any (λ s. bytes_eq s name) xs ≡ false
there_none [] name none = refl
there_none (x ∷ xs) name none = on (bytes_eq x name) refl (there_none xs name (λ k at. none (suc k) at))
  where
    on : (b : Bool) → bytes_eq x name ≡ b → list_any (λ s. bytes_eq s name) xs ≡ false → (b || list_any (λ s. bytes_eq s name) xs) ≡ false
    on true e rest = absurd (none 0 (ap Some ((bytes_eq-Decides x name).0 e)))
    on false e rest = rest

pub take_whole : {A : Type 0} (xs : List A) (i : ℕ) → length xs ≤ i → take i xs ≡ xs
take_whole [] zero h = refl
take_whole [] (suc i) h = refl
take_whole (x ∷ xs) zero h = absurd (omega arith)
take_whole (x ∷ xs) (suc i) h = ap (λ ys. x ∷ ys) (take_whole xs i (omega arith))

pub flat_mapped : {A B C : Type 0} (f : A → B) (g : B → List C) (xs : List A) → flat_map g (map f xs) ≡ flat_map (λ x. g (f x)) xs
flat_mapped f g [] = refl
flat_mapped f g (x ∷ xs) = ap (λ ys. g (f x) ++ ys) (flat_mapped f g xs)
