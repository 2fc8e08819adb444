use Rattle.std.proofs.Common.{true}
use Rattle.msi_export.proofs.FileNames.{same_names}
use Rattle.msi_export.proofs.laws.different_names_have_different_files.Goals as goal

pub returns : goal.returns
returns c = same_names true
