use Rattle.installer.proofs.Stopping.{survives_alike}
use Rattle.installer.proofs.history.recoveries_survive.Goals as goal

pub returns : goal.returns
returns g c = λ letters old new honest failures left. survives_alike letters g.D.Device g.met.D.Device.counts_now old new honest failures left
