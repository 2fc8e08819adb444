use Rattle.std.proofs.Common.{subst, arith}
use Rattle.std.proofs.lemmas.List.{take-replicate}
use Rattle.cfb_mini.specs.Changing.{MiniOverwrites}
use Rattle.cfb_mini_chains.specs.MiniChainCalls.{mini_tail_in}
use Rattle.cfb_mini_chains.specs.MiniChainViews.{links_of, mini_of}
use Rattle.cfb_mini_chains.proofs.Appending.{chain_over}
use Rattle.cfb_mini_chains.proofs.chain.MiniChain.zero_tail.Goals as goal

pub returns-clause-zeroed : goal.returns-clause-zeroed
returns-clause-zeroed g c = λ own h.
    let it = c.args.self.now in
    let new = c.overwrite_mini_chain.new.self in
    let over = subst (λ l. MiniOverwrites c.args.len l (mini_of it) new (links_of it) own) (take-replicate (mini_tail_in c.args.len) 64 0 (omega arith)) (c.in_default.ensures.written own h.owners h.chain) in
    (over, record { owners = over.changes.owners; chain = chain_over (mini_of it) new (links_of it) own _ _ c.overwrite_mini_chain.ensures.invariants h.owners h.chain over })
