use Rattle.std.proofs.Common.{◌≡◌, ◌∙◌, ap, arith}
use Rattle.cfb_findings.specs.Findings.{shared}
use Rattle.cfb_findings.proofs.Listed.{shared_more}
use Rattle.cfb_findings.proofs.counts.Counts.shared.Goals as goal

pub loop-part-preserved : goal.loop-part-preserved
loop-part-preserved c = λ uses so.
    shared_more uses c.loop-part.found.items c.note.new.found.items c.loop-part.part (c.loop-part.invariant uses so) (c.in_ok-note.ensures.found uses so)

pub returns-clause-found : goal.returns-clause-found
returns-clause-found c = λ uses so.
    let all : c.loop-part.part ≡ c.args.count = omega arith in
    c.loop-part.invariant uses so ∙ ap (λ k. shared k uses) all
