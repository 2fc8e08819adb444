use Rattle.std.proofs.Common.{rules}
use Rattle.msi_export.proofs.ExportedRows.{key_got, none_got}
use Rattle.msi_export.proofs.rows.is_key.Goals as goal

pub returns-in-Some : goal.returns-in-Some
returns-in-Some c = cc (c.is_primary_key.ensures, key_got c.columns.result.now c.args.place c.in-Some.column.now (search rules) (search rules), c.columns.ensures)

pub returns-in-None : goal.returns-in-None
returns-in-None c = cc (none_got c.columns.result.now c.args.place (search rules), c.columns.ensures)
