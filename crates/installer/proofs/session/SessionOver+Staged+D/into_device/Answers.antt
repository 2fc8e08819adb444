use Rattle.std.proofs.Common.{◌∙◌, ap, subst}
use Rattle.std.specs.Prelude.{IsTrue}
use Rattle.staged.specs.Staged.{is_failed}
use Rattle.installer.proofs.Going.{medium_live}
use Rattle.installer.specs.Sessions.{package_in}
use Rattle.installer.proofs.session.SessionOver+Staged+D.into_device.Goals as goal

pub returns-clause-settled : goal.returns-clause-settled
returns-clause-settled g c = λ honest live.
    c.into_device.ensures.settled (subst (λ d. IsTrue (g.D.Device.honest d)) c.into_device.ensures.device honest) (ap (λ m. is_failed m) c.into_medium.ensures ∙ medium_live (package_in c.args.self) live)
