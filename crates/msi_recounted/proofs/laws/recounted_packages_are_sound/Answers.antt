use Rattle.msi_recounted.proofs.Adopted.{adopted, packed, sound_before}
use Rattle.msi_recounted.proofs.Recounting.{counted, named_same, stored}
use Rattle.msi_recounted.proofs.laws.recounted_packages_are_sound.Goals as goal

pub returns-clause-rows : goal.returns-clause-rows
returns-clause-rows c = named_same

pub returns-clause-stored : goal.returns-clause-stored
returns-clause-stored c = stored

pub returns-clause-counted : goal.returns-clause-counted
returns-clause-counted c = counted

pub returns-clause-packed : goal.returns-clause-packed
returns-clause-packed c = packed

pub returns-clause-exact : goal.returns-clause-exact
returns-clause-exact c = sound_before

pub returns-clause-sound : goal.returns-clause-sound
returns-clause-sound c = adopted
