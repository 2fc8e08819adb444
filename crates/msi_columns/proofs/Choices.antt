-- What is searched among texts as they are kept is searched among what they say.
use Rattle.std.proofs.Common.{◌≡◌, ℕ, List, [], ◌∷◌, length, map, refl, Bool, false, nat_eq}
use Rattle.std.specs.Prelude.{bytes_eq}
use Rattle.std.specs.List.{list_any}
use Rattle.msi_columns.specs.Column.{is_listed}

pub list_any_map : {X Y : Type 0} (p : Y → Bool) (f : X → Y) (xs : List X) → list_any p (map f xs) ≡ list_any (λ x. p (f x)) xs
list_any_map p f [] = refl
list_any_map p f (x ∷ xs) = rw (list_any_map p f xs) refl

-- where there are choices, a text is listed that is one of them
pub listed_among : {X : Type 0} (f : X → List ℕ) (xs : List X) (t : List ℕ) → nat_eq (length xs) 0 ≡ false →
    is_listed (map f xs) t ≡ list_any (λ x. bytes_eq (f x) t) xs
listed_among f [] t some = absurd (cc some)
listed_among f (x ∷ xs) t some = list_any_map (λ c. bytes_eq c t) f (x ∷ xs)
