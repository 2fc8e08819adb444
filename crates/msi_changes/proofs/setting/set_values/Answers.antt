use Rattle.std.proofs.Common.{◌∙◌, sym}
use Rattle.msi_tables.specs.Held.{heading_of}
use Rattle.msi_changes.proofs.Updating.{values_step}
use Rattle.msi_changes.proofs.setting.set_values.Goals as goal

pub loop-name-preserved : goal.loop-name-preserved
loop-name-preserved c =
    sym (values_step (heading_of c.args.table.now).columns c.args.sets.now c.loop-name.name-index c.loop-name-item.result c.loop-name.values.items _ c.deref.result.now _ _ _ c.loop-name-test.true c.loop-name-item.is
    c.deref.ensures c.index_for_column_name.ensures c.unwrap_or-place.ensures c.as_borrowed.ensures c.put.ensures) ∙ c.loop-name.invariant
