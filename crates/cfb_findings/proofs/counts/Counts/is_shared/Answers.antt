use Rattle.std.proofs.Common.{rules}
use Rattle.cfb_findings.specs.Views.{counts_of}
use Rattle.cfb_findings.proofs.Listed.{is_shared_so, unshared}
use Rattle.cfb_findings.proofs.counts.Counts.is_shared.Goals as goal

pub returns-then-index-lt2 : goal.returns-then-index-lt2
returns-then-index-lt2 c = λ uses so. unshared uses (counts_of c.args.self.now) c.args.part c.index.result.now so (search rules) (search rules) (search rules)

pub returns : goal.returns
returns c = λ uses so. is_shared_so uses (counts_of c.args.self.now) c.args.part c.index.result.now so (search rules) (search rules) (search rules)
