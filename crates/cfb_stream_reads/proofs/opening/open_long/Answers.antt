use Rattle.std.proofs.Common.{◌≡◌, ◌*◌, ◌∙◌, arith, ap, subst, length}
use Rattle.cfb_chains.specs.LinkViews.{ids_of}
use Rattle.cfb_directory.specs.Views as directory
use Rattle.cfb_fat.specs.Tables.{fat_of, version_of}
use Rattle.cfb_medium.specs.Versions.{sector_len}
use Rattle.cfb_mini.specs.Views.{allocator_of}
use Rattle.cfb_sectors.specs.Sectors.{Chain}
use Rattle.cfb_sectors.proofs.OneChain.{chain_unique}
use Rattle.cfb_stream_reads.proofs.opening.open_long.Goals as goal

pub returns-then-chain_len-size-clause-none : goal.returns-then-chain_len-size-clause-none
returns-then-chain_len-size-clause-none g c = λ is sectors chain room.
    let layer = allocator_of c.args.mini.now in
    let ids = ids_of c.in-Ok.links in
    let same = c.allocator.ensures ∙ ap directory.allocator_of c.directory.ensures in
    let equal = chain_unique (fat_of layer) c.args.start ids sectors (subst (λ a. Chain (fat_of a) c.args.start ids) same c.in-Ok.ensures.chain) chain in
    let len : c.chain_len.result ≡ length sectors * sector_len (version_of layer) =
    c.chain_len.ensures.len ∙ ap (λ v. length ids * sector_len v) (c.in-Ok.ensures.version ∙ ap version_of same) ∙ ap (λ xs. length xs * sector_len (version_of layer)) equal in
    omega (arith, room, c.if-chain_len-size.true, len)
