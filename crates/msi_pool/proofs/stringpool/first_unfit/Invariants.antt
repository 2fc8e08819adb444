use Rattle.std.proofs.Common.{map}
use Rattle.std.specs.Prelude.{string_bytes}
use Rattle.msi_pool.proofs.PoolFits.{Gives}
use Rattle.msi_pool.proofs.stringpool.first_unfit.Given as goal

-- those so far, and those to come
abbrev pub invariant-loop-entry : goal.invariant-loop-entry
invariant-loop-entry l = Gives l.codepage l.most l.strings l.entry-index (map string_bytes l.texts.items)
