use Rattle.std.proofs.Common.{◌∙◌}
use Rattle.msi_table_edits.proofs.HeldTests.{may_have_so}
use Rattle.msi_table_edits.proofs.testing.may_have_columns.Goals as goal

pub returns : goal.returns
returns c = c.pass_all.ensures ∙ may_have_so c.args.name.now c.args.columns.now
