use Rattle.std.proofs.Common.{◌∙◌, ap, min}
use Rattle.text_columns.proofs.Widening.{one_cell_more}
use Rattle.text_columns.proofs.widths.widen.Goals as goal

pub loop-place-preserved : goal.loop-place-preserved
loop-place-preserved c =
    one_cell_more c.args.limit c.args.widths.now.items c.loop-place.widths.items c.raise.new.widths.items c.args.row.now c.loop-place.place c.index-row-place.result
    c.min.result c.loop-place-test.true c.index-row-place.is (c.min.ensures ∙ ap (λ n. min n c.args.limit) c.width.ensures) c.loop-place.invariant c.in_ok-raise.ensures
