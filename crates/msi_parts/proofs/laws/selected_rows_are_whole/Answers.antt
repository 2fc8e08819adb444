use Rattle.msi_parts.proofs.Shapes.{wide_selected}
use Rattle.msi_parts.proofs.laws.selected_rows_are_whole.Goals as goal

pub returns : goal.returns
returns c = λ tables pool wide asked. wide_selected tables pool wide asked
