use Rattle.std.proofs.Common.{◌++◌, [], ap, rules}
use Rattle.std.specs.Prelude.{option_map}
use Rattle.msi_tables.specs.Rows.{rows_bytes, kinds_of}
use Rattle.msi_columns.specs.Held.{columns_of}
use Rattle.msi_tables.specs.Held.{rows_held}
use Rattle.msi_tables.proofs.Appending.{next_column, drop_none_each, piece_written, kept_more}
use Rattle.msi_tables.proofs.writing.append_rows.Goals as goal

pub loop-index-init : goal.loop-index-init
loop-index-init c = record {
  bytes = ap (λ rows. option_map (λ bs. c.args.out.now.items ++ bs) (rows_bytes c.args.long (kinds_of (columns_of c.args.columns.now)) rows)) (drop_none_each (rows_held c.args.rows.now));
  kept = ([], search rules);
}

pub loop-index-preserved : goal.loop-index-preserved
loop-index-preserved c =
    let next = next_column c.args.long c.args.columns.now c.args.rows.now c.loop-index.index c.index-columns-index.result c.loop-index-test.true c.index-columns-index.is in
    record {
      bytes = piece_written c.args.out.now.items c.loop-index.out.items c.append_column.new.out.items _ _ _ _ next (rw c.coltype.ensures at c.in_default.ensures.bytes) c.loop-index.invariant.bytes;
      kept = kept_more c.args.out.now.items c.loop-index.out.items c.append_column.new.out.items _ c.loop-index.invariant.kept c.in_default.ensures.kept.1;
    }
