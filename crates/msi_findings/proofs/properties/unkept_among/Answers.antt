use Rattle.std.proofs.Common.{◌+◌, drop, get_or}
use Rattle.std.proofs.lemmas.List.{drop_more}
use Rattle.msi_findings.proofs.SetParts.{kept_more}
use Rattle.msi_findings.specs.Unkept.{unkept_numbers}
use Rattle.msi_findings.proofs.properties.unkept_among.Goals as goal

pub loop-pair-preserved : goal.loop-pair-preserved
loop-pair-preserved c = λ version values reads.
    let pairs = c.args.pairs.now in
    let i = c.loop-pair.pair-index in
    let before = c.loop-pair.invariant version values reads in
    kept_more c.args.codepage version c.args.section.now (get_or pairs i (0, 0)) (drop i pairs) (drop (i + 1) pairs) c.loop-pair.found.items c.note.new.found.items (unkept_numbers c.args.codepage values) before.0
    (drop_more pairs i (0, 0) c.loop-pair-test.true) before.1 before.2 c.in_ok-note.ensures.ok
