use Rattle.std.proofs.Common.{◌∙◌}
use Rattle.msi_parts.proofs.Listed.{listed_where}
use Rattle.msi_parts.proofs.unlisted.lists_system_table.Goals as goal

pub returns : goal.returns
returns c = c.list_system_table.ensures ∙ listed_where c.args.pool.now.pool c.args.rows.now
