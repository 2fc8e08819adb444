use Rattle.std.proofs.Common.{rules, string_bytes}
use Rattle.msi_values.specs.Datum.{datum_of}
use Rattle.msi_export.specs.Cells.{stream_of}
use Rattle.msi_export.proofs.ExportedRows.{next_key}
use Rattle.msi_export.proofs.rows.stream_of_row.Goals as goal

pub loop-at-preserved : goal.loop-at-preserved
loop-at-preserved c =
    next_key c.args.row.now.columns c.args.row.now.values c.loop-at.at (datum_of c.index.result.now) (string_bytes c.loop-at.name) (string_bytes c.push_if_key.new.name) (stream_of c.args.table.now c.args.row.now)
    (search rules) (search rules) (search rules) (search rules)
