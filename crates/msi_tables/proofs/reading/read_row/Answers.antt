use Rattle.std.proofs.Common.{◌≡◌, ◌+◌, arith, drop, rules, length}
use Rattle.std.proofs.lemmas.List.{at_drop_more}
use Rattle.msi_columns.specs.declared.column.ColumnType.TheVariants as kind
use Rattle.msi_tables.specs.Rows.{row_width}
use Rattle.msi_tables.proofs.CellEnds.{cell_ends}
use Rattle.msi_tables.proofs.reading.read_row.Goals as goal

pub slice_bounds-cell_of-end : goal.slice_bounds-cell_of-end
slice_bounds-cell_of-end c =
    let i = c.loop-kind.kind-index in
    let rest = row_width c.args.long (drop (i + 1) c.args.kinds.now) in
    let widths : c.loop-kind.before + (c.width-width.result + rest) ≡ row_width c.args.long c.args.kinds.now =
    omega (arith, c.loop-kind.invariant.widths, at_drop_more (row_width c.args.long) c.args.kinds.now i kind.Int16 c.loop-kind-test.true, c.width-width.ensures.value) in
    let ends = cell_ends c.args.n c.loop-kind.before c.args.r c.width-width.result rest (row_width c.args.long c.args.kinds.now) (length c.args.bytes.now) c.requires.row widths c.requires.bytes in
    search (rules, ends)
