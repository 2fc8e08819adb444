use Rattle.msi_spec.proofs.SoundUses.{table_uses}
use Rattle.msi_spec.proofs.laws.sound_packages_count_their_texts.Goals as goal

pub returns : goal.returns
returns c = λ letters tree P packs sound k t is. table_uses letters tree P packs sound k t is
