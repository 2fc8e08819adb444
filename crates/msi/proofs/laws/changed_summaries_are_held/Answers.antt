use Rattle.msi.proofs.Summed.{holds_summed, one_section_held}
use Rattle.msi.proofs.laws.changed_summaries_are_held.Goals as goal

pub returns-clause-held : goal.returns-clause-held
returns-clause-held g c = λ it P s h one. holds_summed it P h s one

pub returns-clause-one : goal.returns-clause-one
returns-clause-one g c = λ it P h sound. one_section_held it P h sound
