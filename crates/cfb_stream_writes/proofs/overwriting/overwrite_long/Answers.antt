use Rattle.std.proofs.Common.{[], ◌++◌, append-nil, subst, sym, ◌∙◌}
use Rattle.cfb_chains.specs.LinkViews.{ids_of}
use Rattle.cfb_chains.specs.Owned.{ReplacesChain}
use Rattle.cfb_fat.specs.Seeing.{seen_of}
use Rattle.cfb_fat.specs.Tables.{fat_of, version_of}
use Rattle.cfb_mini.specs.Views.{allocator_of}
use Rattle.cfb_mini.proofs.Keeping.{own_chain}
use Rattle.cfb_mini.proofs.Strays.{none_left_out}
use Rattle.cfb_chain_io.specs.ChainEffects.{KeepsFileInvariants, HasDataChain, Overwrites}
use Rattle.cfb_ownership.specs.Owners.{stream_owner}
use Rattle.cfb_sectors.specs.Sectors.{sector}
use Rattle.cfb_stream_writes.proofs.LongChains.{moves_long}
use Rattle.cfb_stream_writes.proofs.overwriting.overwrite_long.Goals as goal
use Rattle.cfb_directory.proofs.Results.{two_ok}

pub returns-clause-written : goal.returns-clause-written
returns-clause-written g c =
    let it = c.args.mini.now in
    let links = c.args.links.now in
    let same = c.allocator_mut.ensures.value in
    let b = c.overwrite_chain.new.allocator in
    two_ok c.overwrite_chain.result _ _ _
    (λ did live who id m is version.
    let over : Overwrites c.args.at c.args.bytes.now (allocator_of it) b links = subst (λ x. Overwrites c.args.at c.args.bytes.now x b links) same (did (subst (λ x. HasDataChain x links) (sym same) (own_chain it who.sectors (stream_owner id) links m.owners is version))) in
    let becomes : ReplacesChain (sector (version_of (allocator_of it))) [] (who.sectors (stream_owner id)) [] (ids_of links) (seen_of (allocator_of it)) (seen_of b) =
    subst (λ l. ReplacesChain (sector (version_of (allocator_of it))) [] l [] (ids_of links) (seen_of (allocator_of it)) (seen_of b)) (sym is) over.becomes in (
      moves_long it b who id m (subst (λ x. KeepsFileInvariants x b) same c.overwrite_chain.ensures.invariants) live.1 c.allocator_mut.ensures.kept [] (ids_of links) becomes
          (none_left_out (fat_of b) (who.sectors (stream_owner id) ++ []) (ids_of links) (append-nil (who.sectors (stream_owner id)) ∙ is)),
      over,
    ))
    c.overwrite_chain.ensures.written c.overwrite_chain.ensures.error_contract.live

pub returns-clause-refused_only_if : goal.returns-clause-refused_only_if
returns-clause-refused_only_if g c = λ wrong who id m is version.
    let it = c.args.mini.now in
    let links = c.args.links.now in
    c.overwrite_chain.ensures.refused_only_if wrong (subst (λ x. HasDataChain x links) (sym c.allocator_mut.ensures.value) (own_chain it who.sectors (stream_owner id) links m.owners is version))
