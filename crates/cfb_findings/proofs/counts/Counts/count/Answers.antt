use Rattle.std.proofs.Common.{rules}
use Rattle.cfb_findings.proofs.Counting.{left_less}
use Rattle.cfb_findings.proofs.counts.Counts.count.Goals as goal

pub returns-clause-less : goal.returns-clause-less
returns-clause-less c = λ rose. left_less c.args.self.now.items.items c.args.part c.index_mut.result.now c.index.result.now (search rules) (search rules) (search rules) (search rules)
