use Rattle.std.proofs.Common.{◌-◌, length, vec_len}
use Rattle.cfb_sectors.proofs.Chains.{Leads}
use Rattle.cfb_chains.proofs.links.chain_in.Given as goal

abbrev pub invariant-loop-at : goal.invariant-loop-at
invariant-loop-at l = Leads l.table l.start l.sectors.items l.at

abbrev pub decreases-loop-at : goal.decreases-loop-at
decreases-loop-at l = length l.table - vec_len l.sectors
