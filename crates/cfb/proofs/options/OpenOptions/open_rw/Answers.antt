use Rattle.cfb.proofs.StreamsFound.{for_ok}
use Rattle.cfb.proofs.options.OpenOptions.open_rw.Goals as goal

pub returns-in-Ok-clause-opened : goal.returns-in-Ok-clause-opened
returns-in-Ok-clause-opened g c = for_ok _ _ c.open_medium.result (λ it opens. (c.in-Ok.medium, c.in-Ok.ensures.failures, opens)) c.open_medium.ensures.opens
