use Rattle.msi_new_package.proofs.Laid.{new_back, new_stored}
use Rattle.msi_new_package.proofs.laws.new_packages_are_stored.Goals as goal

pub returns-clause-stored : goal.returns-clause-stored
returns-clause-stored c = new_stored

pub returns-clause-come_back : goal.returns-clause-come_back
returns-clause-come_back c = new_back
