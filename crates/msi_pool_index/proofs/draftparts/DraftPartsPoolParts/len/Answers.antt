use Rattle.msi_pool_index.specs.PoolDraft.{place_in}
use Rattle.msi_pool_index.proofs.Laid.{draft_length, listed}
use Rattle.msi_pool_index.proofs.draftparts.DraftPartsPoolParts.len.Goals as goal

pub returns : goal.returns
returns c =
    let d = c.args.self.now in
    let all = draft_length (place_in d.changes.changed) d.base.now.places d.changes.added.items in
    let list = listed c.list.result.now d.base.now.places c.list.ensures.list in
    cc
