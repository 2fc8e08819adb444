use Rattle.std.proofs.Common.{◌∙◌, sym, subst}
use Rattle.cfb.specs.Paths.{ComparesAsAscii}
use Rattle.cfb.proofs.StreamsFound.{for_ok}
use Rattle.cfb.proofs.files.open_rw.Goals as goal

pub returns-in-Ok-clause-letters : goal.returns-in-Ok-clause-letters
returns-in-Ok-clause-letters g c = for_ok _ _ c.open_rw.result (λ it asked. subst ComparesAsAscii (sym asked.letters) c.in-Ok.ensures.letters) c.open_rw.ensures.asked

pub returns-in-Ok-clause-lenient : goal.returns-in-Ok-clause-lenient
returns-in-Ok-clause-lenient g c = for_ok _ _ c.open_rw.result (λ it asked. asked.validation ∙ c.in-Ok.ensures.lenient) c.open_rw.ensures.asked

pub returns-in-Ok-clause-most : goal.returns-in-Ok-clause-most
returns-in-Ok-clause-most g c = for_ok _ _ c.open_rw.result (λ it asked. asked.most ∙ c.in-Ok.ensures.most) c.open_rw.ensures.asked
