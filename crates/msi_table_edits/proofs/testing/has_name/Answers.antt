use Rattle.std.proofs.Common.{◌∙◌}
use Rattle.msi_table_edits.proofs.HeldTests.{named_so}
use Rattle.msi_table_edits.proofs.testing.has_name.Goals as goal

pub returns : goal.returns
returns c = c.are_any_named.ensures ∙ named_so c.args.columns.now c.args.name.now
