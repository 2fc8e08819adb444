use Rattle.std.proofs.Common.{◌≡◌, ℕ, ◌-◌, ◌*◌, List, length, replicate, arith, subst}
use Rattle.std.specs.Prelude.{OnOk}
use Rattle.cfb_mini.specs.Changing.{Shortens}
use Rattle.cfb_mini.specs.Minis.{minis_for}
use Rattle.cfb_mini_chains.specs.MiniChainViews.{links_of, mini_of, mini_sectors_of, HasOwnedMiniChain}
use Rattle.cfb_mini_chains.specs.MiniGrowing.{MiniAppends}
use Rattle.cfb_mini_chains.proofs.chain.MiniChain.set_len.Goals as goal

pub returns-then-count-mini_sector_ids-clause-shorter : goal.returns-then-count-mini_sector_ids-clause-shorter
returns-then-count-mini_sector_ids-clause-shorter g c = λ fewer.
    let it = c.args.self.now in
    let new = c.shorten_to.new.self in
    let count : c.div_ceil-count.result ≡ minis_for c.args.len = let is = c.div_ceil-count.ensures in omega (arith, is) in
    subst (λ n. OnOk c.shorten_to.result ((own : ℕ → List ℕ) → HasOwnedMiniChain it own → Shortens n (mini_of it) (mini_of new) (mini_sectors_of it) (mini_sectors_of new) own × HasOwnedMiniChain new own)) count c.shorten_to.ensures.shortened

pub returns-clause-longer : goal.returns-clause-longer
returns-clause-longer g c = λ more.
    let it = c.args.self.now in
    let new = c.lengthen_to.new.self in
    let count : c.div_ceil-count.result ≡ minis_for c.args.len = let is = c.div_ceil-count.ensures in omega (arith, is) in
    subst (λ n. OnOk c.lengthen_to.result ((own : ℕ → List ℕ) → HasOwnedMiniChain it own → MiniAppends (replicate (64 * (n - length (mini_sectors_of it))) 0) (mini_of it) (mini_of new) (links_of it) (links_of new) own))
    count c.lengthen_to.ensures.appended
