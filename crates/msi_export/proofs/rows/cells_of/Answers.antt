use Rattle.std.proofs.Common.{rules, map}
use Rattle.std.specs.Option.{option_copied}
use Rattle.idt_rows.specs.Rows.{datum_of as cell_datum}
use Rattle.msi_values.specs.Datum.{datum_of}
use Rattle.msi_export.specs.Cells as exported
use Rattle.msi_export.proofs.ExportedRows.{next_made, said_more}
use Rattle.msi_export.proofs.rows.cells_of.Goals as goal

pub loop-at-preserved : goal.loop-at-preserved
loop-at-preserved c =
    next_made (exported.cell_of (option_copied c.args.file)) c.args.row.now.values c.loop-at.at (datum_of c.index.result.now) (map cell_datum c.loop-at.cells.items) (map cell_datum c.push.new.self.items)
    (map (exported.cell_of (option_copied c.args.file)) c.args.row.now.values) (search rules) (search rules)
    (said_more cell_datum c.loop-at.cells.items c.push.new.self.items c.in_ok-cell_of.field-0 (exported.cell_of (option_copied c.args.file) (datum_of c.index.result.now)) (search rules) (search rules))
