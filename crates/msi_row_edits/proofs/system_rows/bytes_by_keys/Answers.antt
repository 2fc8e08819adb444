use Rattle.std.proofs.Common.{◌≡◌, ◌∙◌, ap, subst, map}
use Rattle.msi_row_edits.specs.Asked.{IsWrittenAs}
use Rattle.msi_tables.specs.Held.{heading_of, rows_held}
use Rattle.msi_tables.specs.Rows.{AreRowsWritable, IsArranged}
use Rattle.msi_tables.specs.Table.{row_data, row_key_cmp}
use Rattle.msi_row_edits.proofs.Prepared.{unwritten}
use Rattle.msi_row_edits.proofs.system_rows.bytes_by_keys.Goals as goal

pub bytes_of_table-requires : goal.bytes_of_table-requires
bytes_of_table-requires c =
    let h = heading_of c.args.table.now in
    (c.in_ok-rows.ensures.writable h.long h.columns c.requires).cells

pub returns-in-Err-clause-errors : goal.returns-in-Err-clause-errors
returns-in-Err-clause-errors c =
    let h = heading_of c.args.table.now in
    let listed : AreRowsWritable h.long h.columns (rows_held c.in_ok-rows.rows.items) = c.in_ok-rows.ensures.writable h.long h.columns c.requires in
    unwritten h.long h.columns (rows_held c.in_ok-rows.rows.items) c.in-Err.error listed c.in-Err.ensures

pub returns-in-Ok-clause-ok : goal.returns-in-Ok-clause-ok
returns-in-Ok-clause-ok c =
    let h = heading_of c.args.table.now in
    let pool = c.args.pool.now.pool in
    let w : IsWrittenAs h.long h.columns (rows_held c.in_ok-rows.rows.items) c.in-Ok.bytes.items = c.in-Ok.ensures in
    record {
      stored = w.stored;
      by_keys = (
        rows_held c.in_ok-rows.rows.items,
        subst (λ columns. IsArranged (row_key_cmp pool columns) (rows_held c.args.rows.items) (rows_held c.in_ok-rows.rows.items)) c.columns.ensures
            (c.in_ok-rows.ensures.ok pool (c.in_ok-values.ensures.ok ∙ ap (λ rows. map (row_data pool) (rows_held rows)) c.deref.ensures.value)),
        w.is_stored,
      );
      written = w.written;
    }
