-- What the mini FAT's numbers in memory show.
use Rattle.std.specs.Prelude.{ℕ, List}
use Rattle.cfb_mini.specs.declared.numbers.MiniNumbers.{MiniNumbers}

-- the numbers, one for each mini sector
abbrev pub numbers_of : MiniNumbers → List ℕ
numbers_of it = it.items.items
