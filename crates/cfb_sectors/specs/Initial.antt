-- What sectors hold when they are taken into use.
use Rattle.std.specs.Prelude.{ℕ, ◌*◌, ◌-◌, ◌/◌, List, [], ◌∷◌, ◌++◌, length, replicate, take}
use Rattle.cfb_sectors.specs.Copies.{copies, unused_entry}
use Rattle.cfb_medium.specs.Numbers.{number_bytes}
use Rattle.cfb_sectors.specs.declared.initial.NewSector.{NewSector}
use Rattle.cfb_sectors.specs.declared.initial.NewSector.TheVariants.{Bytes, Init}
use Rattle.cfb_sectors.specs.declared.initial.SectorInit.{SectorInit}
use Rattle.cfb_sectors.specs.declared.initial.SectorInit.TheVariants.{Zero, Fat, Difat, Dir}
use Rattle.cfb_sectors.specs.Sectors.{end_of_chain, free}

-- so many bytes of a sector taken into use: zeros, "free" entries of the FAT, those and the end of the DIFAT's chain, or
-- unused directory entries ([MS-CFB] 2.3, 2.5, 2.6)
unfoldable pub initial : SectorInit → ℕ → List ℕ
initial Zero len = replicate len 0
initial Fat len = number_bytes (replicate (len / 4) free)
initial Difat len = number_bytes (replicate (len / 4 - 1) free ++ end_of_chain ∷ [])
initial Dir len = copies (len / 128) unused_entry

-- so many bytes: a list's first ones, and zeros where it has fewer
abbrev pub padded : ℕ → List ℕ → List ℕ
padded len bytes = take len bytes ++ replicate (len - length bytes) 0

-- so many bytes of a new sector: what one of a kind holds, or bytes that are given, with zeros behind them
abbrev pub first_bytes : NewSector → ℕ → List ℕ
first_bytes (Init init) len = initial init len
first_bytes (Bytes front) len = padded len front.now

-- so many sectors, taken into use one after the other: each holds what one of the kind does, or the bytes lie across them
abbrev pub filling : NewSector → ℕ → ℕ → List ℕ
filling (Init init) count len = copies count (initial init len)
filling (Bytes front) count len = padded (count * len) front.now
