use Rattle.std.proofs.Common.{◌∙◌, sym, ap, Some, option_map, slice_index_or}
use Rattle.msi_values.specs.Datum.{null}
use Rattle.msi_tables.specs.Held.{heading_of}
use Rattle.msi_tables.specs.Table.{row_data}
use Rattle.msi_expr.proofs.FilledUp.{named_place}
use Rattle.msi_expr.proofs.record.StoredRowRecord.value.Goals as goal

pub returns-in-Some : goal.returns-in-Some
returns-in-Some c =
    let values = row_data c.args.self.now.pool.now.pool c.args.self.now.cells.now in
    ap Some c.value_at.ensures ∙ ap (option_map (λ i. slice_index_or values i null)) c.in-Some.ensures
    ∙ sym (named_place (heading_of c.args.self.now.table.now).columns values c.args.name.now)

pub returns-in-None : goal.returns-in-None
returns-in-None c =
    let values = row_data c.args.self.now.pool.now.pool c.args.self.now.cells.now in
    ap (option_map (λ i. slice_index_or values i null)) c.in-None.ensures ∙ sym (named_place (heading_of c.args.self.now.table.now).columns values c.args.name.now)
