use Rattle.msi_spec.proofs.SoundAnyway.{sound_anyway, sound_so}
use Rattle.msi_spec.proofs.laws.sound_packages_are_sound_in_parts.Goals as goal

pub returns : goal.returns
returns c = λ letters tree P packs. (sound_anyway letters tree P packs, sound_so letters tree P packs)
