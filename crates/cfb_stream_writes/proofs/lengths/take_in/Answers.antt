use Rattle.std.proofs.Common.{subst, sym, IsTrue}
use Rattle.cfb_chains.specs.LinkViews.{ids_of, links_version}
use Rattle.cfb_chains.specs.Positions.{sectors_for}
use Rattle.cfb_directory.proofs.Results.{two_ok}
use Rattle.cfb_fat.specs.Tables.{orderly_of}
use Rattle.cfb_mini.specs.Views.{allocator_of}
use Rattle.cfb_mini.proofs.Keeping.{own_chain}
use Rattle.cfb_chain_io.specs.ChainEffects.{KeepsFileInvariants, HasDataChain, LacksSectors, TakesBytes}
use Rattle.cfb_ownership.specs.Owners.{stream_owner}
use Rattle.cfb_stream_writes.proofs.LongChains.{moves_more}
use Rattle.cfb_stream_writes.proofs.lengths.take_in.Goals as goal

pub returns-clause-taken : goal.returns-clause-taken
returns-clause-taken g c =
    let it = c.args.mini.now in
    let links = c.args.links.now in
    let after = c.lengthen_chain.new.links in
    let same = c.allocator_mut.ensures.value in
    let b = c.lengthen_chain.new.allocator in
    two_ok c.lengthen_chain.result _ _ _
    (λ did live who id m is version.
    let grown : TakesBytes c.args.bytes.now (allocator_of it) b links after = subst (λ x. TakesBytes c.args.bytes.now x b links after) same (did (subst (λ x. HasDataChain x links) (sym same) (own_chain it who.sectors (stream_owner id) links m.owners is version))) in
    (moves_more it b who id m (subst (λ x. KeepsFileInvariants x b) same c.lengthen_chain.ensures.invariants) live.1 c.allocator_mut.ensures.kept (ids_of links) grown.more (ids_of after) is grown.sectors grown.becomes, grown))
    c.lengthen_chain.ensures.extended c.lengthen_chain.ensures.error_contract.live

pub returns-clause-refused_only_if : goal.returns-clause-refused_only_if
returns-clause-refused_only_if g c = λ wrong who id m is version.
    let it = c.args.mini.now in
    let links = c.args.links.now in
    let same = c.allocator_mut.ensures.value in
    c.lengthen_chain.ensures.refused_only_if wrong (subst (λ x. HasDataChain x links) (sym same) (own_chain it who.sectors (stream_owner id) links m.owners is version)) (subst (λ x. IsTrue (orderly_of x)) (sym same) m.orderly)

pub returns-clause-full_only_if : goal.returns-clause-full_only_if
returns-clause-full_only_if g c = λ wrong live.
    let links = c.args.links.now in
    subst (λ x. LacksSectors x links (sectors_for (links_version links) c.args.len)) c.allocator_mut.ensures.value (c.lengthen_chain.ensures.full_only_if wrong live)
