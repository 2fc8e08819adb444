use Rattle.std.proofs.Common.{◌≡◌, ◌∙◌, Bool, subst, sym, inl, true}
use Rattle.std.specs.List.{list_all}
use Rattle.std.specs.Rc.{rc_value}
use Rattle.msi_changes.specs.Applied.{with_rows}
use Rattle.msi_changes.specs.Prepared.{pool_after}
use Rattle.msi_changes.specs.Said.{update_condition, update_sets}
use Rattle.msi_row_edits.specs.Asked.{updating, IsUnwritten, IsWrittenAs}
use Rattle.msi_tables.specs.Held.{heading_of, rows_held}
use Rattle.msi_tables.specs.Rows.{has_place, AreRowsWritable}
use Rattle.msi_row_edits.proofs.Prepared.{edit_is, places_held, unwritten, updated_as}
use Rattle.msi_row_edits.proofs.writing.updated_rows.Goals as goal

pub returns-in-Err-bytes_of_table-clause-answer : goal.returns-in-Err-bytes_of_table-clause-answer
returns-in-Err-bytes_of_table-clause-answer c =
    let h = heading_of (rc_value c.args.table.now) in
    let rows = rows_held c.in-Ok.prepared.0.items in
    let here = subst (λ t. IsUnwritten (heading_of t).long (heading_of t).columns rows c.in-Err-bytes_of_table.error) c.deref-2.ensures c.in-Err-bytes_of_table.ensures in
    inl (unwritten c.args.pool.now.pool.long h.columns rows c.in-Err-bytes_of_table.error (c.in-Ok.ensures.shape c.requires.writable)
    (subst (λ (l : Bool). IsUnwritten l h.columns rows c.in-Err-bytes_of_table.error) (sym c.requires.wide) here))

pub returns-in-Ok-bytes_of_table-clause-answer : goal.returns-in-Ok-bytes_of_table-clause-answer
returns-in-Ok-bytes_of_table-clause-answer c =
    let h = heading_of (rc_value c.args.table.now) in
    let pool = c.args.pool.now.pool in
    let rows = rows_held c.in-Ok.prepared.0.items in
    let are : AreRowsWritable pool.long h.columns rows = c.in-Ok.ensures.shape c.requires.writable in
    let here = subst (λ t. IsWrittenAs (heading_of t).long (heading_of t).columns rows c.in-Ok-bytes_of_table.bytes.items) c.deref-2.ensures c.in-Ok-bytes_of_table.ensures in
    let w : IsWrittenAs pool.long h.columns rows c.in-Ok-bytes_of_table.bytes.items = subst (λ (l : Bool). IsWrittenAs l h.columns rows c.in-Ok-bytes_of_table.bytes.items) (sym c.requires.wide) here in
    edit_is (updating (update_sets c.args.update.now) (update_condition c.args.update.now)) h.name pool (with_rows h (rows_held c.args.rows.items)) rows (pool_after c.args.pool.now c.in-Ok.prepared.1)
    (updated_as h pool (rows_held c.args.rows.items) (update_sets c.args.update.now) (update_condition c.args.update.now) c.in_ok-may_update.field-0 c.in_ok-may_update.ensures.ok c.if-not-branch.false ∙ c.in-Ok.ensures.updates)
    (λ stored order. order) (places_held c.in-Ok.prepared.0.items (subst (λ rows. list_all (λ row. list_all has_place row.items) rows ≡ true) c.deref.ensures.value c.have_places.ensures)) are c.in-Ok-bytes_of_table.bytes.items w
