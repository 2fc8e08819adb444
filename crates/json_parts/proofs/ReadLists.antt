-- Lists of what a file holds, read one by one.
use Rattle.std.proofs.Common.{◌≡◌, List, [], ◌∷◌, ◌++◌, refl, Bool, map, arith, Option, None, option_map, length}
use Rattle.std.specs.List.{list_any}
use Rattle.serde_json.specs.View.{items_view}
use Rattle.serde_json.specs.declared.value.Value.{Value}
use Rattle.json_parts.specs.Values.{two_items}

pub list_any_map : {X Y : Type 0} (p : Y → Bool) (f : X → Y) (xs : List X) → list_any p (map f xs) ≡ list_any (λ x. p (f x)) xs
list_any_map p f [] = refl
list_any_map p f (x ∷ xs) = grind (arith, list_any_map p f xs)

-- what was read so far, and then the rest
abbrev pub onto : {X : Type 0} → List X → Option (List X) → Option (List X)
onto done rest = option_map (λ xs. done ++ xs) rest

-- a list of another length holds no pair
pub two_none : (list : List Value) → (length list ≡ 2 → ⊥) → two_items (items_view list) ≡ None
two_none [] other = refl
two_none (a ∷ []) other = refl
two_none (a ∷ b ∷ []) other = absurd (other refl)
two_none (a ∷ b ∷ c ∷ rest) other = refl
