use Rattle.std.specs.Prelude.{slice_index_or}
use Rattle.cfb_fat.proofs.EntryChanges.{chain_inside}
use Rattle.cfb_mini.specs.Views.{mini_fat_of}
use Rattle.cfb_sectors.specs.Sectors.{end_of_chain}
use Rattle.cfb_mini_chains.specs.MiniChainViews.{mini_of, mini_sectors_of}
use Rattle.cfb_mini_chains.proofs.chain.MiniChain.free.Goals as goal

pub returns-in-Err-clause-refused_only_if : goal.returns-in-Err-clause-refused_only_if
returns-in-Err-clause-refused_only_if g c = λ wrong own h.
    let it = c.args.self.now in
    let minis = mini_sectors_of it in
    c.in-Err.ensures.refused_only_if wrong own h.owners (chain_inside (mini_fat_of (mini_of it)) (slice_index_or minis 0 end_of_chain) minis h.chain.linked)

pub returns-clause-freed : goal.returns-clause-freed
returns-clause-freed g c = λ own h. c.in_default.ensures.freed own h.owners
