use Rattle.std.proofs.Common.{◌∙◌}
use Rattle.std.specs.Prelude.{string_bytes}
use Rattle.msi_columns.specs.Held.{column_of}
use Rattle.command_reasons.proofs.Choices.{listed_there}
use Rattle.command_reasons.proofs.cells.is_choice.Goals as goal

pub returns-in-Some : goal.returns-in-Some
returns-in-Some c = c.is_among.ensures ∙ listed_there string_bytes c.in-Some.texts.now (column_of c.args.column.now).choices c.args.text.now c.in-Some.ensures
