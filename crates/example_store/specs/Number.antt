-- The number that the store counts up.
use Rattle.std.specs.Prelude.{ℕ, ◌+◌, ◌-◌, ◌%◌, ◌^◌, List, ◌++◌, length, take, replicate}
use Rattle.std.specs.Int.{w64, from_le_bytes, to_le_bytes}
use Rattle.cfb_medium.specs.Bytes.{overwritten}

-- the number at the front of a store: eight bytes, the least first, of which those that aren't there are zeros
abbrev pub number_in : List ℕ → ℕ
number_in bytes = from_le_bytes w64 (take 8 bytes ++ replicate (8 - length bytes) 0)

-- one more; behind the greatest number of eight bytes comes 0
abbrev pub next_in : List ℕ → ℕ
next_in bytes = (number_in bytes + 1) % 2 ^ 64

-- the store with that number at its front
abbrev pub counted_up : List ℕ → List ℕ
counted_up bytes = overwritten bytes 0 (to_le_bytes w64 (next_in bytes))
