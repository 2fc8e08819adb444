use Rattle.std.proofs.Common.{◌≡◌, length, arith}
use Rattle.std.proofs.lemmas.List.{length-map}
use Rattle.msi_columns.specs.Held.{column_of, columns_of}
use Rattle.msi_findings.proofs.Shapes.{unlike_next}
use Rattle.msi_findings.specs.Misshapen.{unlike_from}
use Rattle.msi_findings.proofs.validation.unlike_positions.Goals as goal

pub loop-index-preserved : goal.loop-index-preserved
loop-index-preserved c =
    let cs = columns_of c.args.columns.now in
    let ds = columns_of c.args.wanted.now in
    let many : length cs ≡ length c.args.columns.now = length-map c.args.columns.now column_of in
    let as_many : length ds ≡ length c.args.wanted.now = length-map c.args.wanted.now column_of in
    unlike_next c.loop-index.index cs ds c.loop-index.found.items c.note.new.found.items (unlike_from 1 cs ds) _ _
    (λ over_c over_d. omega (arith, c.loop-index-test.true, c.max-index-end.ensures, many, as_many, over_c, over_d))
    c.column_at.ensures c.column_at-in-loop-index.ensures c.in_ok-note.ensures c.loop-index.invariant
