use Rattle.msi.proofs.OpenAgain.{held_again, never_refused, package_meant, same_package, sound_file}
use Rattle.msi.proofs.laws.committed_packages_open_again.Goals as goal

pub returns-clause-meant : goal.returns-clause-meant
returns-clause-meant g c = λ letters bytes P h. (package_meant letters bytes P h, sound_file letters bytes P h)

pub returns-clause-one : goal.returns-clause-one
returns-clause-one g c = λ letters bytes P Q h k. same_package letters bytes P h Q k

pub returns-clause-accepted : goal.returns-clause-accepted
returns-clause-accepted g c = λ letters bytes P e h refused. never_refused letters bytes P h e refused

pub returns-clause-opened : goal.returns-clause-opened
returns-clause-opened g c = λ letters bytes P it h opened. held_again letters bytes P h it opened
