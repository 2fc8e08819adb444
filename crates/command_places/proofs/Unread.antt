-- Lists of which an item isn't read, and lists that aren't two items.
use Rattle.std.proofs.Common.{◌≡◌, ◌<◌, ◌≤◌, ◌||◌, List, [], ◌∷◌, Bool, true, Option, Some, None, option_and_then, option_map, length, arith, refl}
use Rattle.std.specs.List.{list_any}
use Rattle.serde_json.specs.Data.{Data}
use Rattle.serde_json.specs.View.{items_view, view}
use Rattle.serde_json.specs.declared.value.Value.{Value}
use Rattle.json_parts.specs.Values.{all_in}
use Rattle.command_places.specs.Firsts.{is_unread, two_read}

one_more : {X : Type 0} (first : Option X) (rest : Option (List X)) (b : Bool) → b ≡ is_unread rest
    → (is_unread first || b) ≡ is_unread (option_and_then (λ x. option_map (λ xs. x ∷ xs) rest) first)
one_more None rest b is = refl
one_more (Some x) None b is = is
one_more (Some x) (Some xs) b is = is

-- a list isn't read just where one of its items isn't
pub unread_list : {X : Type 0} (read : Data → Option X) (xs : List Value) → list_any (λ x. is_unread (read (view x))) xs ≡ is_unread (all_in read (items_view xs))
unread_list read [] = refl
unread_list read (x ∷ xs) = one_more (read (view x)) (all_in read (items_view xs)) (list_any (λ x. is_unread (read (view x))) xs) (unread_list read xs)

pub below_two : (list : List Value) → length list < 2 → true ≡ is_unread (two_read (items_view list))
below_two [] few = refl
below_two (a ∷ []) few = refl
below_two (a ∷ b ∷ rest) few = absurd (omega (arith, few))

pub over_two : (list : List Value) → 3 ≤ length list → true ≡ is_unread (two_read (items_view list))
over_two [] many = absurd (omega (arith, many))
over_two (a ∷ []) many = absurd (omega (arith, many))
over_two (a ∷ b ∷ []) many = absurd (omega (arith, many))
over_two (a ∷ b ∷ c ∷ rest) many = refl
