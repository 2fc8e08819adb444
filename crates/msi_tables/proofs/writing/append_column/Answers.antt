use Rattle.std.proofs.Common.{ap, arith, Err}
use Rattle.std.specs.Prelude.{option_map}
use Rattle.msi_texts.specs.Numbers.{le_bytes}
use Rattle.msi_columns.specs.Cell.{width_of}
use Rattle.msi_tables.proofs.Appending.{next_cell, piece_written, no_piece, cell_piece, why, kept_more, longer}
use Rattle.msi_tables.proofs.writing.append_column.Goals as goal

pub index-requires : goal.index-requires
index-requires c =
    let long = longer c.args.index c.args.rows.now c.loop-row.row-index c.row-item.result c.requires c.loop-row-test.true c.row-item.is in
    omega (arith, long, c.row-item.result.ok.0)

pub returns-in-Err-clause-bytes : goal.returns-in-Err-clause-bytes
returns-in-Err-clause-bytes c =
    let in_row = longer c.args.index c.args.rows.now c.loop-row.row-index c.row-item.result c.requires c.loop-row-test.true c.row-item.is in
    let next = next_cell c.args.long c.args.coltype c.args.index c.args.rows.now c.loop-row.row-index c.row-item.result c.index.result.now c.loop-row-test.true c.row-item.is in_row c.index.ensures in
    why c.in-Err.error _ c.in-Err.ensures.errors (λ same.
    no_piece c.args.out.now.items c.loop-row.out.items _ _ _ _ next (ap (option_map (le_bytes (width_of c.args.long c.args.coltype))) (c.in-Err.ensures.refused_only_if.0 (ap Err same))) c.loop-row.invariant.bytes)

pub loop-row-preserved : goal.loop-row-preserved
loop-row-preserved c =
    let in_row = longer c.args.index c.args.rows.now c.loop-row.row-index c.row-item.result c.requires c.loop-row-test.true c.row-item.is in
    let next = next_cell c.args.long c.args.coltype c.args.index c.args.rows.now c.loop-row.row-index c.row-item.result c.index.result.now c.loop-row-test.true c.row-item.is in_row c.index.ensures in
    record {
      bytes = piece_written c.args.out.now.items c.loop-row.out.items c.write_value.new.out.items _ _ _ _ next
          (cell_piece c.loop-row.out.items c.write_value.new.out.items c.args.long c.args.coltype c.index.result.now c.in_default.ensures.ok) c.loop-row.invariant.bytes;
      kept = kept_more c.args.out.now.items c.loop-row.out.items c.write_value.new.out.items _ c.loop-row.invariant.kept c.in_default.ensures.ok.2;
    }
