use Rattle.msi_pool.proofs.PoolFits.{KeptTo}
use Rattle.msi_pool.proofs.stringpool.are_kept.Given as goal

-- those so far are kept
abbrev pub invariant-loop-entry : goal.invariant-loop-entry
invariant-loop-entry l = KeptTo l.codepage l.strings l.entry-index
