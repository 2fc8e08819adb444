use Rattle.installer.specs.CrashSurvival.{listed}
use Rattle.installer.proofs.Stopping.{survive, own_list, home_found}
use Rattle.installer.proofs.history.committed_packages_survive.Goals as goal

pub returns-clause-survive : goal.returns-clause-survive
returns-clause-survive g c = λ letters first events marks last honest all happen.
    survive letters g.D.Device first events marks last (listed g.D.Device first) honest (own_list g.D.Device first all) happen

pub returns-clause-home : goal.returns-clause-home
returns-clause-home g c = λ letters first events marks last honest all happen settled.
    home_found letters g.D.Device g.met.D.Device.shows_now first events marks last (listed g.D.Device first) honest (own_list g.D.Device first all) happen settled
