use Rattle.std.proofs.Common.{get_or, sym, subst, take}
use Rattle.std.proofs.lemmas.List.{take_all, take_more}
use Rattle.cfb_findings.specs.Seen.{tables_seen}
use Rattle.cfb_findings.specs.Broken.{AreBroken}
use Rattle.cfb_findings.proofs.Wholes.{broken_more}
use Rattle.cfb_findings.proofs.streams.broken_of.Goals as goal

pub loop-id-preserved : goal.loop-id-preserved
loop-id-preserved g c = λ file_len tells.
    let t = tables_seen c.args.file.now file_len in
    let ids = c.args.ids.now in
    let i = c.loop-id.id-index in
    subst (λ xs. AreBroken t xs c.note.new.found.items) (sym (take_more ids i 0 c.loop-id-test.true))
    (broken_more t (take i ids) (get_or ids i 0) c.loop-id.found.items c.note.new.found.items (c.loop-id.invariant file_len tells) (c.in_ok-note.ensures.noted file_len tells))

pub returns-clause-found : goal.returns-clause-found
returns-clause-found g c = λ file_len tells.
    let t = tables_seen c.args.file.now file_len in
    subst (λ xs. AreBroken t xs c.loop-id.found.items) (take_all c.loop-id.id-index c.args.ids.now c.loop-id-test.false) (c.loop-id.invariant file_len tells)
