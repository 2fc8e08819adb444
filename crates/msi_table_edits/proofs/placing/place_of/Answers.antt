use Rattle.std.proofs.Common.{◌∙◌, sym}
use Rattle.msi_table_edits.proofs.HeldTests.{no_place}
use Rattle.msi_table_edits.proofs.placing.place_of.Goals as goal

pub returns-in-None : goal.returns-in-None
returns-in-None c = no_place _ c.args.tables.now (sym c.in-None.is ∙ c.first_behind.ensures)
