use Rattle.std.proofs.Common.{[], inl, inr, refl}
use Rattle.cfb_findings.specs.Links.{HasChainFrom}
use Rattle.cfb_findings.proofs.counts.Counts.count_start.Goals as goal

pub returns-then-not-has_chain-clause-counted : goal.returns-then-not-has_chain-clause-counted
returns-then-not-has_chain-clause-counted c = λ before ends follow so.
    ([], inr (refl, λ others chain. let wrong = (c.if-not-has_chain.ensures c.args.links.now ends).1 (others, chain) in absurd (cc)), so)

pub returns-clause-counted : goal.returns-clause-counted
returns-clause-counted c = λ before ends follow so.
    let has : HasChainFrom c.args.links.now c.args.start = (c.if-not-has_chain.ensures c.args.links.now ends).0 refl in
    (has.0, inl has.1, c.count_chain.ensures.counted has.0 before has.1 follow so)
