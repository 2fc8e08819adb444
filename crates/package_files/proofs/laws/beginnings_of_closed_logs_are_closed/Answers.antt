use Rattle.package_files.proofs.Closed.{closed_beginning}
use Rattle.package_files.proofs.laws.beginnings_of_closed_logs_are_closed.Goals as goal

pub returns : goal.returns
returns c = closed_beginning
