use Rattle.std.proofs.Common.{◌≡◌, sym, subst}
use Rattle.cfb_mini.specs.Changing.{FreesMiniSectors}
use Rattle.cfb_mini.specs.LinkViews.{minis_of}
use Rattle.cfb_mini.specs.Views.{mini_fat_of}
use Rattle.cfb_sectors.specs.Sectors.{Chain}
use Rattle.cfb_tree_edits.proofs.Freed.{chain_below}
use Rattle.cfb_tree_edits.proofs.freeing.free_short.Goals as goal
use Rattle.cfb_sectors.proofs.OneChain.{chain_unique}

pub returns-in-Err-free_mini_chain-clause-refused_only_if : goal.returns-in-Err-free_mini_chain-clause-refused_only_if
returns-in-Err-free_mini_chain-clause-refused_only_if g c = λ wrong own minis h chain starts.
    let it = c.args.mini.now in
    c.in-Err-free_mini_chain.ensures.refused_only_if wrong own h (chain_below (mini_fat_of it) c.args.start (minis_of c.in-Ok.links) c.in-Ok.ensures.chain)

pub returns-clause-freed : goal.returns-clause-freed
returns-clause-freed g c = λ own minis h chain starts.
    let it = c.args.mini.now in
    let new = c.free_mini_chain.new.self in
    let same : minis_of c.in-Ok.links ≡ minis =
    chain_unique (mini_fat_of it) c.args.start (minis_of c.in-Ok.links) minis c.in-Ok.ensures.chain (subst (λ n. Chain (mini_fat_of it) n minis) (sym starts) chain.linked) in
    subst (λ l. FreesMiniSectors l it new own) same (c.in_default.ensures.freed own h)
