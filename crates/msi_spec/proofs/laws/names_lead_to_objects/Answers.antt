use Rattle.msi_spec.proofs.UnderRoot.{at_path, none_at, read_at}
use Rattle.msi_spec.proofs.laws.names_lead_to_objects.Goals as goal

pub returns-clause-object : goal.returns-clause-object
returns-clause-object c = at_path

pub returns-clause-bytes : goal.returns-clause-bytes
returns-clause-bytes c = read_at

pub returns-clause-none : goal.returns-clause-none
returns-clause-none c = none_at
