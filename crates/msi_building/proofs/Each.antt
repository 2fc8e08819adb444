-- What holds of each in a list that is gone through.
use Rattle.std.proofs.Common.{◌≡◌, ◌∙◌, ℕ, List, [], ◌∷◌, ◌++◌, ◌+◌, ◌<◌, ap, length, subst, sym, take}
use Rattle.std.proofs.lemmas.List.{take_more}
use Rattle.std.specs.List.{AllByRecursion}
use Rattle.std.specs.Prelude.{slice_index_or}

all_push : {A : Type 0} (P : A → Type 0) (x : A) (xs : List A) → AllByRecursion P xs → P x → AllByRecursion P (xs ++ x ∷ [])
all_push P x [] h k = (k, tt)
all_push P x (y ∷ ys) h k = (h.0, all_push P x ys h.1 k)

-- of the first ones, and of the next
pub all_more : {A : Type 0} (P : A → Type 0) (xs : List A) (i : ℕ) (x : A) → i < length xs → x ≡ slice_index_or xs i x → AllByRecursion P (take i xs) → P x → AllByRecursion P (take (i + 1) xs)
all_more {A} P xs i x lt is h k =
    subst (AllByRecursion P) (sym (take_more xs i x lt ∙ ap (λ (y : A). take i xs ++ y ∷ []) (sym is))) (all_push P x (take i xs) h k)
