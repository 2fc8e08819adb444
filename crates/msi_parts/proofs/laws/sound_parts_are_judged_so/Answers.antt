use Rattle.msi_parts.proofs.Judging.{judged_sound, sound_judged}
use Rattle.msi_parts.proofs.laws.sound_parts_are_judged_so.Goals as goal

pub returns : goal.returns
returns c = λ letters tree kind summary pool gives_back headings a may. (
  judged_sound letters tree kind summary pool gives_back headings a may,
  λ found. sound_judged letters tree kind summary pool gives_back headings a may found.0 found.1 found.2,
)
