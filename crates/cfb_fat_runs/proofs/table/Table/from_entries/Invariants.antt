use Rattle.std.proofs.Common.{◌≡◌, take}
use Rattle.cfb_fat_runs.specs.Tables.{entries_of}
use Rattle.cfb_fat_runs.proofs.table.Table.from_entries.Given as goal

abbrev pub invariant-loop-entry : goal.invariant-loop-entry
invariant-loop-entry l = entries_of l.table ≡ take l.entry-index l.entries
