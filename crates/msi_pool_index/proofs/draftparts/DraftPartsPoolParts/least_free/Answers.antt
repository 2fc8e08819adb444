use Rattle.msi_pool_index.proofs.draftparts.DraftPartsPoolParts.least_free.Goals as goal

pub returns-clause-least : goal.returns-clause-least
returns-clause-least c = c.lesser.ensures _ _ c.least-given.ensures c.next_free.ensures
