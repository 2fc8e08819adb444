use Rattle.std.proofs.Common.{◌+◌, ◌<◌, length, ap, subst, ◌∙◌}
use Rattle.std.proofs.lemmas.List.{length-replicate}
use Rattle.cfb_chains.specs.LinkViews.{links_version}
use Rattle.cfb_chains.specs.Positions.{tail_in}
use Rattle.cfb_medium.specs.Versions.{sector_len}
use Rattle.cfb_mini.specs.Views.{allocator_of}
use Rattle.cfb_chain_io.specs.ChainEffects.{len_of, Overwrites}
use Rattle.cfb_sectors.proofs.Appending.{on_ok}
use Rattle.cfb_stream_writes.proofs.Stretching.{zero_front}
use Rattle.cfb_stream_writes.proofs.lengths.zero_tail.Goals as goal

pub returns-clause-written : goal.returns-clause-written
returns-clause-written g c =
    let links = c.args.links.now in
    let size = c.args.size in
    let front = zero_front (links_version links) c.sector_len-len.result size (c.sector_len-len.ensures ∙ ap sector_len c.version.ensures) in
    on_ok c.overwrite_long.result _ _
    (λ did who id m is version.
    let it = did who id m is version in
    (it.0, subst (λ l. Overwrites size l (allocator_of c.args.mini.now) (allocator_of c.overwrite_long.new.mini) links) front it.1))
    c.overwrite_long.ensures.written

pub returns-clause-past : goal.returns-clause-past
returns-clause-past g c = λ is.
    let links = c.args.links.now in
    let size = c.args.size in
    let front = zero_front (links_version links) c.sector_len-len.result size (c.sector_len-len.ensures ∙ ap sector_len c.version.ensures) in
    subst (λ n. len_of links < size + n) (ap length front ∙ length-replicate (tail_in (links_version links) size) 0) (c.overwrite_long.ensures.past is)
