use Rattle.msi_pool_index.proofs.Laid.{free_is_told, none_free}
use Rattle.msi_pool_index.proofs.drafts.is_free_at.Goals as goal

pub returns-in-Some : goal.returns-in-Some
returns-in-Some c = let h = c.in-Some.ensures.lookup in free_is_told c.args.list.now c.args.index c.in-Some.field-0.now h.3.0 h.1

pub returns-in-None : goal.returns-in-None
returns-in-None c = none_free c.args.list.now c.args.index c.in-None.ensures.lookup.3
