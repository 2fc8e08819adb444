use Rattle.std.proofs.Common.{refl}
use Rattle.msi_building.proofs.building.opened.Goals as goal

pub returns-in-Ok : goal.returns-in-Ok
returns-in-Ok c = λ sound.
    let is = c.in-Ok.ensures.opened refl in
    let means = is.sound.0 sound in
    (means.3, is.holds means.1 means.3 means.2 means.4)
