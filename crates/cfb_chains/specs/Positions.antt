-- Where the bytes of a chain lie in the file.
use Rattle.std.specs.Prelude.{ℕ, ◌+◌, ◌-◌, ◌/◌, ◌%◌, List, slice_index}
use Rattle.cfb_medium.specs.declared.version.Version.{Version}
use Rattle.cfb_medium.specs.Versions.{sector_len}
use Rattle.cfb_sectors.specs.Sectors.{sector_start}

-- the place in the file of the byte at this position of a chain of these sectors ([MS-CFB] 2.3)
abbrev pub place_in : Version → List ℕ → ℕ → ℕ
place_in version sectors position = sector_start version (slice_index sectors (position / sector_len version)) + position % sector_len version

-- how many bytes its sector has from there on
abbrev pub left_in : Version → ℕ → ℕ
left_in version position = sector_len version - position % sector_len version

-- how many bytes lie behind a length in the sector in which it ends
abbrev pub tail_in : Version → ℕ → ℕ
tail_in version len = left_in version len % sector_len version

-- how many sectors so many bytes need
abbrev pub sectors_for : Version → ℕ → ℕ
sectors_for version len = (len + (sector_len version - 1)) / sector_len version
