use Rattle.std.proofs.Common.{◌≡◌, ◌⊎◌, ◌+◌, ◌-◌, ◌<◌, ◌++◌, ◌∙◌, ap, arith, drop, length, replicate, subst}
use Rattle.std.specs.Prelude.{Err}
use Rattle.std.proofs.lemmas.List.{drop-replicate}
use Rattle.cfb_medium.specs.declared.error.Error.TheVariants.{Full}
use Rattle.cfb_mini.specs.Changing.{LacksMiniSectors}
use Rattle.cfb_sectors.specs.Sectors.{greatest_regular}
use Rattle.cfb_mini_chains.specs.MiniChainViews.{links_of, mini_of, mini_sectors_of}
use Rattle.cfb_mini_chains.specs.MiniGrowing.{MiniAppends}
use Rattle.cfb_mini_chains.proofs.chain.MiniChain.write_behind.Goals as goal

pub returns-clause-written : goal.returns-clause-written
returns-clause-written g c = λ own h.
    let it = c.args.self.now in
    let bytes = c.args.bytes.now in
    let is = ap (λ xs. xs ++ drop (length bytes) (replicate 64 0)) c.copy_from_slice.ensures.after ∙ ap (λ xs. bytes ++ xs) (drop-replicate (length bytes) 64 0) in
    subst (λ l. MiniAppends l (mini_of it) c.append.new.mini (links_of it) c.append.new.links own) is (c.in_default.ensures.appended own h.owners h.chain)

pub returns-in-Err-clause-full_only_if : goal.returns-in-Err-clause-full_only_if
returns-in-Err-clause-full_only_if g c = λ wrong live memory.
    let it = c.args.self.now in
    let is : c.in-Err.error ≡ Full = cc in
    let size = ap length c.mini_sector_ids.ensures in
    let one : length c.mini_sector_ids.result.now + 1 - length (mini_sectors_of it) ≡ 1 = omega (arith, size) in
    subst (λ n. LacksMiniSectors n (mini_of it) ⊎ (greatest_regular < length (mini_sectors_of it))) one (c.in-Err.ensures.full_only_if (ap Err is) live memory)
