use Rattle.std.proofs.Common.{true}
use Rattle.msi_export.proofs.FileNames.{no_first_dot, safe_names}
use Rattle.msi_export.proofs.laws.files_stay_in_their_folder.Goals as goal

pub returns-clause-safe : goal.returns-clause-safe
returns-clause-safe c = safe_names true

pub returns-clause-first : goal.returns-clause-first
returns-clause-first c = no_first_dot
