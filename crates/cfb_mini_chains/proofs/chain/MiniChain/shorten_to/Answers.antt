use Rattle.std.specs.Prelude.{slice_index_or}
use Rattle.cfb_fat.proofs.EntryChanges.{chain_inside}
use Rattle.cfb_mini.specs.Views.{mini_fat_of}
use Rattle.cfb_sectors.specs.Sectors.{end_of_chain}
use Rattle.cfb_mini_chains.specs.MiniChainViews.{mini_of, mini_sectors_of}
use Rattle.cfb_mini_chains.proofs.Appending.{chain_fewer}
use Rattle.cfb_mini_chains.proofs.chain.MiniChain.shorten_to.Goals as goal

pub returns-in-Err-clause-refused_only_if : goal.returns-in-Err-clause-refused_only_if
returns-in-Err-clause-refused_only_if g c = λ wrong own h.
    let it = c.args.self.now in
    let minis = mini_sectors_of it in
    c.in-Err.ensures.refused_only_if wrong own h.owners (chain_inside (mini_fat_of (mini_of it)) (slice_index_or minis 0 end_of_chain) minis h.chain.linked)

pub returns-clause-shortened : goal.returns-clause-shortened
returns-clause-shortened g c = λ own h.
    let it = c.args.self.now in
    let cut = c.in_default.ensures.shortened own h.owners h.chain.linked in
    (cut, record { owners = cut.changes.owners; chain = chain_fewer (mini_of it) c.shorten_mini_chain.new.self c.args.count (mini_sectors_of it) _ own c.shorten_mini_chain.ensures.invariants h.owners h.chain cut })
