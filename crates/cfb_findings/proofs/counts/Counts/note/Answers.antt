use Rattle.std.proofs.Common.{rules}
use Rattle.cfb_findings.specs.Findings.{is_shared}
use Rattle.cfb_findings.proofs.Listed.{not_noted, noted}
use Rattle.cfb_findings.proofs.counts.Counts.note.Goals as goal

pub returns-then-not-is_shared-clause-found : goal.returns-then-not-is_shared-clause-found
returns-then-not-is_shared-clause-found c = λ uses so. not_noted c.args.found.now.items c.args.part (is_shared uses c.args.part) (c.if-not-is_shared.ensures uses so)

pub returns-clause-found : goal.returns-clause-found
returns-clause-found c = λ uses so. noted c.args.found.now.items _ c.args.part (is_shared uses c.args.part) (search rules) (c.if-not-is_shared.ensures uses so)
