-- What a `Table` shows: its entries, one for each sector, and how many runs of them there are and there is memory for.
use Rattle.std.specs.Prelude.{◌≡◌, ℕ, ◌≤◌, List, length, map, slice_index}
use Rattle.std.specs.List.{range_with_len}
use Rattle.cfb_sectors.specs.Sectors.{end_of_chain, greatest_regular}
use Rattle.cfb_fat_runs.specs.RunLists.{room_for_runs, all_runs}
use Rattle.cfb_fat_runs.specs.Runs.{entry_at}
use Rattle.cfb_fat_runs.specs.declared.table.Table.{Table}

-- the entries, one for each sector
unfoldable pub entries_of : Table → List ℕ
entries_of it = map (entry_at it.len (all_runs it.runs)) (range_with_len 0 it.len)

-- so many runs they are
unfoldable pub run_count : Table → ℕ
run_count it = length (all_runs it.runs)

-- for so many there is memory
unfoldable pub run_capacity : Table → ℕ
run_capacity it = room_for_runs it.runs

-- the entry can be set without a run more: it ends a chain, and is to link to a sector
abbrev pub IsEasy : List ℕ → ℕ → ℕ → Type 0
IsEasy entries index entry = (slice_index entries index ≡ end_of_chain) × (entry ≤ greatest_regular)
