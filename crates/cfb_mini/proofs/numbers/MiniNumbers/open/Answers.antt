use Rattle.std.proofs.Common.{◌≡◌, subst, ◌∙◌, sym}
use Rattle.cfb_sectors.specs.Sectors.{Chain as IsChain}
use Rattle.cfb_sectors.proofs.OneChain.{chain_unique}
use Rattle.cfb_mini.specs.Minis.{AreInside}
use Rattle.cfb_mini.specs.NumberViews.{numbers_of}
use Rattle.cfb_mini.proofs.numbers.MiniNumbers.open.Goals as goal

pub returns-then-not-are_inside-clause-none : goal.returns-then-not-are_inside-clause-none
returns-then-not-are_inside-clause-none c = λ wrong minis chain inside.
    let items = c.in_ok-mini_sector_ids.mini_sector_ids.items in
    let mine : IsChain (numbers_of c.args.self.now) c.args.start items = subst (λ l. IsChain l c.args.start items) c.deref.ensures.value c.in_ok-mini_sector_ids.ensures.chain in
    let same : c.deref-2.result.now ≡ minis = c.deref-2.ensures.value ∙ chain_unique (numbers_of c.args.self.now) c.args.start items minis mine chain in
    let yes = c.if-not-are_inside.ensures.1 (subst (AreInside c.args.len) (sym same) inside) in
    cc
