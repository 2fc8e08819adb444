use Rattle.cfb_mini_chains.specs.MiniChainViews.{links_of, mini_of}
use Rattle.cfb_mini_chains.proofs.Appending.{chain_over}
use Rattle.cfb_mini_chains.proofs.chain.MiniChain.write_inside.Goals as goal

pub returns-clause-written : goal.returns-clause-written
returns-clause-written g c = λ own h.
    let it = c.args.self.now in
    let over = c.in_default.ensures.written own h.owners h.chain in
    (over, record { owners = over.changes.owners; chain = chain_over (mini_of it) c.overwrite_mini_chain.new.self (links_of it) own _ _ c.overwrite_mini_chain.ensures.invariants h.owners h.chain over })
