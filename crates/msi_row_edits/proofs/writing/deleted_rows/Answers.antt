use Rattle.std.proofs.Common.{◌≡◌, ◌∙◌, Bool, ap, subst, sym, inl, inr, true, false}
use Rattle.std.specs.List.{list_all}
use Rattle.std.specs.Rc.{rc_value}
use Rattle.msi_changes.specs.Applied.{with_rows}
use Rattle.msi_changes.specs.Prepared.{pool_after}
use Rattle.msi_changes.specs.Said.{delete_condition}
use Rattle.msi_row_edits.specs.Asked.{deleting, IsUnwritten, IsWrittenAs}
use Rattle.msi_spec.specs.Calls.{is_system}
use Rattle.msi_tables.specs.Held.{heading_of, rows_held}
use Rattle.msi_tables.specs.Rows.{has_place, AreRowsWritable}
use Rattle.msi_row_edits.proofs.Prepared.{deleted_as, edit_is, places_held, system_not_deleted, unwritten}
use Rattle.msi_row_edits.proofs.writing.deleted_rows.Goals as goal

pub returns-then-is_system-clause-answer : goal.returns-then-is_system-clause-answer
returns-then-is_system-clause-answer c =
    let h = heading_of (rc_value c.args.table.now) in
    inr (system_not_deleted h.name c.args.pool.now.pool (with_rows h (rows_held c.args.rows.items)) (delete_condition c.args.delete.now)
    (ap is_system (sym (c.name.ensures ∙ ap (λ t. (heading_of t).name) c.deref.ensures)) ∙ sym c.is_system.ensures ∙ c.if-is_system.true))

pub returns-in-Err-bytes_of_table-clause-answer : goal.returns-in-Err-bytes_of_table-clause-answer
returns-in-Err-bytes_of_table-clause-answer c =
    let h = heading_of (rc_value c.args.table.now) in
    let rows = rows_held c.in-Ok.prepared.0.items in
    let here = subst (λ t. IsUnwritten (heading_of t).long (heading_of t).columns rows c.in-Err-bytes_of_table.error) c.deref-3.ensures c.in-Err-bytes_of_table.ensures in
    inl (unwritten c.args.pool.now.pool.long h.columns rows c.in-Err-bytes_of_table.error (c.in-Ok.ensures.shape c.requires.writable)
    (subst (λ (l : Bool). IsUnwritten l h.columns rows c.in-Err-bytes_of_table.error) (sym c.requires.wide) here))

pub returns-in-Ok-bytes_of_table-clause-answer : goal.returns-in-Ok-bytes_of_table-clause-answer
returns-in-Ok-bytes_of_table-clause-answer c =
    let h = heading_of (rc_value c.args.table.now) in
    let pool = c.args.pool.now.pool in
    let rows = rows_held c.in-Ok.prepared.0.items in
    let are : AreRowsWritable pool.long h.columns rows = c.in-Ok.ensures.shape c.requires.writable in
    let here = subst (λ t. IsWrittenAs (heading_of t).long (heading_of t).columns rows c.in-Ok-bytes_of_table.bytes.items) c.deref-3.ensures c.in-Ok-bytes_of_table.ensures in
    let w : IsWrittenAs pool.long h.columns rows c.in-Ok-bytes_of_table.bytes.items = subst (λ (l : Bool). IsWrittenAs l h.columns rows c.in-Ok-bytes_of_table.bytes.items) (sym c.requires.wide) here in
    let ordinary : is_system h.name ≡ false = ap is_system (sym (c.name.ensures ∙ ap (λ t. (heading_of t).name) c.deref.ensures)) ∙ sym c.is_system.ensures ∙ c.if-is_system.false in
    edit_is (deleting (delete_condition c.args.delete.now)) h.name pool (with_rows h (rows_held c.args.rows.items)) rows (pool_after c.args.pool.now c.in-Ok.prepared.1)
    (deleted_as h.name pool (with_rows h (rows_held c.args.rows.items)) (delete_condition c.args.delete.now) ordinary ∙ c.in-Ok.ensures.deletes)
    (λ stored order. order) (places_held c.in-Ok.prepared.0.items (subst (λ rows. list_all (λ row. list_all has_place row.items) rows ≡ true) c.deref-2.ensures.value c.have_places.ensures)) are c.in-Ok-bytes_of_table.bytes.items w
