use Rattle.std.proofs.Common.{◌-◌, length, vec_len}
use Rattle.cfb_sectors.proofs.Chains.{Leads}
use Rattle.cfb_fat_runs.specs.Tables.{entries_of}
use Rattle.cfb_fat_runs.proofs.table.Table.chain.Given as goal

abbrev pub invariant-loop-at : goal.invariant-loop-at
invariant-loop-at l = Leads (entries_of l.self) l.start l.sectors.items l.at

abbrev pub decreases-loop-at : goal.decreases-loop-at
decreases-loop-at l = length (entries_of l.self) - vec_len l.sectors
