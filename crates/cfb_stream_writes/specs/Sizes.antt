-- How many sectors a stream has, and how many mini sectors ([MS-CFB] 2.4).
use Rattle.std.specs.Prelude.{ℕ, nat_lt, if◌then◌else◌}
use Rattle.cfb_chains.specs.Positions.{sectors_for}
use Rattle.cfb_medium.specs.declared.version.Version.{Version}
use Rattle.cfb_mini.specs.Minis.{minis_for}
use Rattle.cfb_sectors.specs.Header.{mini_cutoff}

-- those that its bytes need: one below 4096 bytes lies in mini sectors
abbrev pub sectors_of_stream : Version → ℕ → ℕ
sectors_of_stream version size = if nat_lt size mini_cutoff then 0 else sectors_for version size

-- so many of these, where it lies there
abbrev pub minis_of_stream : ℕ → ℕ
minis_of_stream size = if nat_lt size mini_cutoff then minis_for size else 0
