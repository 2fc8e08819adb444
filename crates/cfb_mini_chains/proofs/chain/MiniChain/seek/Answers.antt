use Rattle.std.proofs.Common.{◌∙◌, inr, refl, subst, sym}
use Rattle.cfb_sectors.specs.Seeking.{Finds}
use Rattle.cfb_mini_chains.specs.MiniChainViews.{position_of}
use Rattle.cfb_mini_chains.proofs.chain.MiniChain.seek.Goals as goal

pub returns-in_default-clause-errors : goal.returns-in_default-clause-errors
returns-in_default-clause-errors g c =
    inr (refl, sym c.is_failed.ensures ∙ c.if-is_failed.false, λ n finds. c.in_default.ensures n (subst (λ l. Finds c.args.from l (position_of c.args.self.now) n) (sym c.len.ensures) finds))
