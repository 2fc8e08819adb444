use Rattle.std.proofs.Common.{◌∙◌, sym, subst}
use Rattle.cfb.specs.Paths.{ComparesAsAscii, IsMadeOnDisk}
use Rattle.cfb.proofs.StreamsFound.{for_ok}
use Rattle.cfb.proofs.files.create.Goals as goal

pub returns-in-Ok-clause-letters : goal.returns-in-Ok-clause-letters
returns-in-Ok-clause-letters g c = for_ok _ _ c.create.result (λ it made. subst ComparesAsAscii (sym made.2.compared) c.in-Ok.ensures.letters) c.create.ensures.made

pub returns-in-Ok-clause-made : goal.returns-in-Ok-clause-made
returns-in-Ok-clause-made g c = for_ok _ _ c.create.result (λ it made. subst (λ l. IsMadeOnDisk l it) (sym made.2.compared) made) c.create.ensures.made

pub returns-in-Ok-clause-most : goal.returns-in-Ok-clause-most
returns-in-Ok-clause-most g c = for_ok _ _ c.create.result (λ it most. most ∙ c.in-Ok.ensures.most) c.create.ensures.most
