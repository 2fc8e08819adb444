-- How many bytes of each sector and each mini sector stand in a file of so many ([MS-CFB] 2.1, 2.4).
use Rattle.std.specs.Prelude.{ℕ, ◌+◌, ◌-◌, ◌*◌, ◌/◌, ◌%◌, min, List, slice_index}
use Rattle.cfb_medium.specs.declared.version.Version.{Version}
use Rattle.cfb_medium.specs.Versions.{sector_len}
use Rattle.cfb_sectors.specs.Sectors.{sector_start}

-- of a sector
abbrev pub sector_bytes : Version → ℕ → ℕ → ℕ
sector_bytes version file_len n = min (sector_len version) (file_len - sector_start version n)

-- where a mini sector begins, by the sectors of the mini stream
abbrev pub mini_start : Version → List ℕ → ℕ → ℕ
mini_start version stream n = sector_start version (slice_index stream (64 * n / sector_len version)) + 64 * n % sector_len version

-- of a mini sector
abbrev pub mini_bytes : Version → List ℕ → ℕ → ℕ → ℕ
mini_bytes version stream file_len n = min 64 (file_len - mini_start version stream n)
