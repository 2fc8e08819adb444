-- Choices as they are kept, and as they are told.
use Rattle.std.proofs.Common.{◌≡◌, ◌∙◌, ℕ, Bool, true, List, [], ◌∷◌, map, refl, sym, ap}
use Rattle.std.specs.Prelude.{Some, None, bytes_eq}
use Rattle.std.specs.List.{list_any}
use Rattle.msi_columns.specs.Column.{is_listed, listed}

any_of_map : {X Y : Type 0} (p : Y → Bool) (f : X → Y) (xs : List X) → list_any p (map f xs) ≡ list_any (λ x. p (f x)) xs
any_of_map p f [] = refl
any_of_map p f (x ∷ xs) = rw (any_of_map p f xs) refl

-- where choices are told, a text is listed that is one of them
pub listed_there : {X : Type 0} (f : X → List ℕ) (xs : List X) (choices : List (List ℕ)) (t : List ℕ) → Some (map f xs) ≡ listed choices
    → list_any (λ x. bytes_eq (f x) t) xs ≡ is_listed choices t
listed_there f xs [] t told = absurd (cc told)
listed_there f xs (c ∷ cs) t told =
    let same : map f xs ≡ c ∷ cs = cc told in
    sym (any_of_map (λ x. bytes_eq x t) f xs) ∙ ap (λ (l : List (List ℕ)). list_any (λ x. bytes_eq x t) l) same

-- where none are told, each text is listed
pub all_listed : (choices : List (List ℕ)) (t : List ℕ) → None ≡ listed choices → true ≡ is_listed choices t
all_listed [] t told = refl
all_listed (c ∷ cs) t told = absurd (cc told)
