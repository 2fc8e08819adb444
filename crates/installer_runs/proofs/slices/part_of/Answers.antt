use Rattle.std.proofs.Common.{inr}
use Rattle.installer_runs.proofs.slices.part_of.Goals as goal

pub returns-then-count-eq0-clause-slice : goal.returns-then-count-eq0-clause-slice
returns-then-count-eq0-clause-slice c = c.before_commit-count.ensures.first c.if-count-eq0.true c.requires

pub returns-clause-slice : goal.returns-clause-slice
returns-clause-slice c = inr c.before_commit-count.ensures.free
