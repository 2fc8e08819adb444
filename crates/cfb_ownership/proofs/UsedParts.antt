-- The parts of a file that each owner uses, and the tables.
use Rattle.std.proofs.Common.{ℕ, List, ◌∷◌, ◌++◌, map, zero, suc}
use Rattle.cfb_spec.specs.Sound.{in_file, in_mini_stream, Part}
use Rattle.cfb_ownership.specs.Owners.{stream_owner, Owners}
use Rattle.cfb_ownership.specs.LiveFile.{LiveFile}

-- what an owner has
abbrev pub parts_of : Owners → ℕ → List Part
parts_of who k = map in_file (who.sectors k) ++ map in_mini_stream (who.minis k)

-- the same, with the tables before all owners
abbrev pub used_by : LiveFile → Owners → ℕ → List Part
used_by s who zero = map in_file (s.fat_sectors ++ s.difat_sectors)
used_by s who (suc k) = parts_of who k

-- the stream of an entry, among these
abbrev pub key_of : ℕ → ℕ
key_of id = suc (stream_owner id)

-- the tables, the directory, the mini FAT, the mini stream, and the streams of these entries
abbrev pub all_keys : List ℕ → List ℕ
all_keys ids = 0 ∷ 1 ∷ 2 ∷ 3 ∷ map key_of ids
