use Rattle.std.proofs.Common.{sym, subst}
use Rattle.cfb_findings.specs.Links.{AreEnds}
use Rattle.cfb_findings.proofs.counts.Counts.of_chains.Goals as goal

pub returns-clause-counted : goal.returns-clause-counted
returns-clause-counted c = c.count_starts.ensures.counted (subst (AreEnds c.args.links.now) (sym c.deref.ensures.value) c.in_ok-ends.ensures.ends) c.in_ok-counts.ensures.none
