use Rattle.std.proofs.Common.{◌∙◌, sym}
use Rattle.msi_table_edits.proofs.HeldTests.{can_be_kept_so}
use Rattle.msi_table_edits.proofs.testing.can_be_kept.Goals as goal

pub returns : goal.returns
returns c = can_be_kept_so c.args.name.now c.args.columns.now c.are_kept.result (sym c.is_of_pool.ensures ∙ c.if-is_of_pool.false) c.are_kept.ensures
