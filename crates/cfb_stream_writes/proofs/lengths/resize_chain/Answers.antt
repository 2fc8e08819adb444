use Rattle.std.proofs.Common.{◌≡◌, ℕ, [], ◌++◌, subst, sym, IsTrue}
use Rattle.std.specs.Prelude.{slice_index}
use Rattle.cfb_chains.specs.Changes.{IsNotIn}
use Rattle.cfb_chains.specs.LinkViews.{ids_of, links_version}
use Rattle.cfb_chains.specs.Owned.{ReplacesChain}
use Rattle.cfb_chains.specs.Positions.{sectors_for}
use Rattle.cfb_fat.specs.Seeing.{seen_of}
use Rattle.cfb_fat.specs.Tables.{fat_of, orderly_of, version_of}
use Rattle.cfb_mini.specs.Views.{allocator_of}
use Rattle.cfb_mini.proofs.Keeping.{own_chain}
use Rattle.cfb_chain_io.specs.ChainEffects.{KeepsFileInvariants, HasDataChain, LacksSectors, Resizes}
use Rattle.cfb_ownership.specs.Owners.{stream_owner}
use Rattle.cfb_sectors.specs.Sectors.{free, sector}
use Rattle.cfb_sectors.specs.declared.initial.SectorInit.TheVariants.{Zero}
use Rattle.cfb_stream_writes.proofs.LongChains.{lost_free, moves_long}
use Rattle.cfb_stream_writes.proofs.lengths.resize_chain.Goals as goal
use Rattle.cfb_directory.proofs.Results.{two_ok}

pub returns-clause-resized : goal.returns-clause-resized
returns-clause-resized g c =
    let it = c.args.mini.now in
    let links = c.args.links.now in
    let after = c.set_chain_len.new.links in
    let same = c.allocator_mut.ensures.value in
    let b = c.set_chain_len.new.allocator in
    let count = sectors_for (links_version links) c.args.len in
    two_ok c.set_chain_len.result _ _ _
    (λ did live who id m is version.
    let grown : Resizes Zero count (allocator_of it) b links after = subst (λ x. Resizes Zero count x b links after) same (did (subst (λ x. HasDataChain x links) (sym same) (own_chain it who.sectors (stream_owner id) links m.owners is version))) in
    let becomes : ReplacesChain (sector (version_of (allocator_of it))) [] (who.sectors (stream_owner id)) grown.more (ids_of after) (seen_of (allocator_of it)) (seen_of b) =
    subst (λ l. ReplacesChain (sector (version_of (allocator_of it))) [] l grown.more (ids_of after) (seen_of (allocator_of it)) (seen_of b)) (sym is) grown.becomes in
    let spent : (n : ℕ) → IsNotIn (ids_of after) n → (IsNotIn (who.sectors (stream_owner id) ++ grown.more) n → ⊥) → slice_index (fat_of b) n ≡ free =
    subst (λ l. (n : ℕ) → IsNotIn (ids_of after) n → (IsNotIn (l ++ grown.more) n → ⊥) → slice_index (fat_of b) n ≡ free) (sym is) (lost_free (fat_of b) (ids_of links) grown.more (ids_of after) count grown.sectors grown.freed) in
    (moves_long it b who id m (subst (λ x. KeepsFileInvariants x b) same c.set_chain_len.ensures.invariants) live.1 c.allocator_mut.ensures.kept grown.more (ids_of after) becomes spent, grown))
    c.set_chain_len.ensures.resized c.set_chain_len.ensures.error_contract.live

pub returns-clause-refused_only_if : goal.returns-clause-refused_only_if
returns-clause-refused_only_if g c = λ wrong who id m is version.
    let it = c.args.mini.now in
    let links = c.args.links.now in
    let same = c.allocator_mut.ensures.value in
    c.set_chain_len.ensures.refused_only_if wrong (subst (λ x. HasDataChain x links) (sym same) (own_chain it who.sectors (stream_owner id) links m.owners is version)) (subst (λ x. IsTrue (orderly_of x)) (sym same) m.orderly)

pub returns-clause-full_only_if : goal.returns-clause-full_only_if
returns-clause-full_only_if g c = λ wrong live.
    let links = c.args.links.now in
    subst (λ x. LacksSectors x links (sectors_for (links_version links) c.args.len)) c.allocator_mut.ensures.value (c.set_chain_len.ensures.full_only_if wrong live)
