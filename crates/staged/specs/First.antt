-- What files in memory hold, held at first, and held when they were synced last.
use Rattle.std.specs.Prelude.{ℕ, List, map, Option, None, Some}
use Rattle.staged.specs.Files.{Files}
use Rattle.staged.specs.Standing.{Standing}
use Rattle.staged.specs.declared.device.Which.{Which}
use Rattle.staged.specs.declared.device.Which.TheVariants.{Home, Log}
use Rattle.staged.specs.declared.file.MemoryFile.{MemoryFile}

abbrev pub bytes_or : {V : Type 0} → (V → List ℕ) → Option V → List ℕ → List ℕ
bytes_or items None contents = contents
bytes_or items (Some first) contents = items first

-- the copy that was made before its first write, or what it holds where there was none
abbrev pub first_of : MemoryFile → List ℕ
first_of file = bytes_or (λ v. v.items) file.first file.contents.items

-- the copy that was made before its first write since its last sync, or what it holds where there was none
abbrev pub kept_of : MemoryFile → List ℕ
kept_of file = bytes_or (λ v. v.items) file.kept file.contents.items

-- what it shows, what its last sync made last, and the ranges written since
abbrev pub standing_of : MemoryFile → Standing
standing_of file = record { shown = file.contents.items; kept = kept_of file; ranges = map (λ r. (r.at, r.len)) file.ranges.items }

-- two files
abbrev pub contents_of : MemoryFile → MemoryFile → Files
contents_of home log = record { home = home.contents.items; log = log.contents.items }

-- how often one of two files was written
abbrev pub writes_of : MemoryFile → MemoryFile → Which → ℕ
writes_of home log Home = home.writes
writes_of home log Log = log.writes
