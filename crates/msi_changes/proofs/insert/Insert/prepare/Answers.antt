use Rattle.std.proofs.Common.{true}
use Rattle.msi_changes.specs.Applied.{with_rows}
use Rattle.msi_changes.specs.Said.{insert_rows}
use Rattle.msi_changes.proofs.Shapes.{insert_shape, shape_told}
use Rattle.msi_changes.proofs.insert.Insert.prepare.Goals as goal

pub returns-clause-shape : goal.returns-clause-shape
returns-clause-shape c = λ old.
    let s = c.args.stored.now in
    let t = with_rows s.heading s.rows in
    shape_told s.pool t s.rows c.prepared_rows.result _ c.prepared_rows.ensures.inserts (insert_shape true s.pool.pool t (insert_rows c.args.self.now)) old
