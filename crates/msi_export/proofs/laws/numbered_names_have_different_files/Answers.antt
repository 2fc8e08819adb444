use Rattle.msi_export.proofs.Numbered.{same_numbered}
use Rattle.msi_export.proofs.laws.numbered_names_have_different_files.Goals as goal

pub returns : goal.returns
returns c = same_numbered
