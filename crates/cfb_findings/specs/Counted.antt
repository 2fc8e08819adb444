-- How often the parts of a file are used.
use Rattle.std.specs.Prelude.{◌≡◌, ◌≢◌, ℕ, ◌-◌, ◌+◌, ◌<◌, ◌≤◌, min, List, [], ◌∷◌, length, slice_get, slice_index, Some}
use Rattle.cfb_sectors.specs.Sectors.{end_of_chain}
use Rattle.cfb_soundness.specs.Marks.{times}

-- each count is how often its part stands in the list, where 2 stands for more
abbrev pub CountsMatchUses : List ℕ → List ℕ → Type 0
CountsMatchUses parts counts = (n : ℕ) → n < length counts → slice_index counts n ≡ min 2 (times n parts)

-- each part stands there no more often than the one that it links to, as it is with parts of whole chains
abbrev pub FollowLinks : List ℕ → List ℕ → Type 0
FollowLinks links parts = (n m : ℕ) → slice_get links n ≡ Some m → m ≢ end_of_chain → times n parts ≤ times m parts

-- how much can still be counted
abbrev pub left_to_count : List ℕ → ℕ
left_to_count [] = 0
left_to_count (c ∷ cs) = (2 - c) + left_to_count cs
