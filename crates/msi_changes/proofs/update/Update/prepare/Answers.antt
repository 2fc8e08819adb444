use Rattle.std.proofs.Common.{[], true}
use Rattle.std.specs.Rc.{rc_value}
use Rattle.msi_tables.specs.Held.{heading_of, rows_held}
use Rattle.msi_changes.specs.Applied.{with_rows}
use Rattle.msi_changes.specs.Said.{update_condition, update_sets}
use Rattle.msi_changes.proofs.Shapes.{shape_told, update_shape}
use Rattle.msi_changes.proofs.update.Update.prepare.Goals as goal

pub returns-clause-shape : goal.returns-clause-shape
returns-clause-shape c = λ old.
    let t = with_rows (heading_of (rc_value c.args.table.now)) (rows_held c.args.rows.items) in
    shape_told c.args.pool.now t [] c.prepared_rows.result _ c.prepared_rows.ensures.updates (update_shape true c.args.pool.now.pool t (update_sets c.args.self.now) (update_condition c.args.self.now)) old
