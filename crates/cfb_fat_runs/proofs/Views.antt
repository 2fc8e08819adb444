-- A table's entries by its runs.
use Rattle.std.proofs.Common.{◌≡◌, ℕ, ◌<◌, length, arith}
use Rattle.std.proofs.lemmas.List.FromFn.{get_or-map-range_with_len, length-map-range_with_len}
use Rattle.std.specs.Prelude.{slice_index}
use Rattle.cfb_fat_runs.specs.RunLists.{all_runs}
use Rattle.cfb_fat_runs.specs.Runs.{entry_at}
use Rattle.cfb_fat_runs.specs.Tables.{entries_of}
use Rattle.cfb_fat_runs.specs.declared.table.Table.{Table}

pub size_of : (it : Table) → length (entries_of it) ≡ it.len
unfolding entries_of
size_of it = length-map-range_with_len (entry_at it.len (all_runs it.runs)) 0 it.len

pub entry_of : (it : Table) (k : ℕ) → k < it.len → slice_index (entries_of it) k ≡ entry_at it.len (all_runs it.runs) k
unfolding entries_of
entry_of it k less = get_or-map-range_with_len (entry_at it.len (all_runs it.runs)) 0 it.len k k 0 less (omega arith)
