use Rattle.std.proofs.Common.{subst, ◌∙◌, ap}
use Rattle.cfb_chains.specs.Positions.{sectors_for}
use Rattle.cfb_mini.specs.Views.{allocator_of}
use Rattle.cfb_chain_io.specs.ChainEffects.{Resizes}
use Rattle.cfb_sectors.specs.declared.initial.SectorInit.TheVariants.{Zero}
use Rattle.cfb_stream_writes.proofs.LongStreams.{cut}
use Rattle.cfb_stream_writes.proofs.lengths.stretch_long.Goals as goal
use Rattle.cfb_directory.proofs.Results.{two_ok}

pub returns-then-len-size-clause-stretched : goal.returns-then-len-size-clause-stretched
returns-then-len-size-clause-stretched g c =
    let m0 = c.args.mini.now in
    let m1 = c.resize_chain.new.mini in
    let links0 = c.args.links.now in
    let links1 = c.resize_chain.new.links in
    two_ok c.resize_chain.result _ _ _
    (λ did count who id e content m has size up more is version.
    let one = did who id m is version in
    cut m0 who id c.args.size links0 e content has size up is c.args.len more m1 links1 c.if-len-size.true
    one.0 (subst (λ v. Resizes Zero (sectors_for v c.args.len) (allocator_of m0) (allocator_of m1) links0 links1) version one.1) (count ∙ ap (λ v. sectors_for v c.args.len) version))
    c.resize_chain.ensures.resized c.resize_chain.ensures.size
