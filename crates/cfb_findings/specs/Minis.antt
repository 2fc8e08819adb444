-- Which mini sectors a file has.
use Rattle.std.specs.Prelude.{ℕ, ◌+◌, ◌/◌, min, List, length}
use Rattle.cfb_sectors.specs.Sectors.{greatest_regular}

-- so many mini sectors have regular numbers, an entry in the mini FAT, and a place in a mini stream of so many bytes ([MS-CFB] 2.4)
abbrev pub minis_there : List ℕ → ℕ → ℕ
minis_there mini_fat mini_len = min (min (mini_len / 64) (greatest_regular + 1)) (length mini_fat)
