-- The groups of a hyphenated identifier one by one.
use Rattle.std.specs.Prelude.{ℕ, Bool, false, List, [], ◌∷◌, drop}
use Rattle.msi_texts.specs.Category.{is_group, group_lens}

abbrev pub is_first_group : List ℕ → List ℕ → Bool
is_first_group group [] = false
is_first_group group (n ∷ ns) = is_group group n

-- it is the group at this place
abbrev pub is_group_at : List ℕ → ℕ → Bool
is_group_at group index = is_first_group group (drop index group_lens)
