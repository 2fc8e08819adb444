use Rattle.std.proofs.Common.{◌≤◌, length, subst, sym}
use Rattle.std.proofs.lemmas.List.{take_all}
use Rattle.cfb_chain_io.proofs.Owning.{none_dropped}
use Rattle.cfb_mini.specs.LinkViews.{minis_of}
use Rattle.cfb_mini.specs.NumberViews.{numbers_of}
use Rattle.cfb_mini.proofs.Entries.{enters_none}
use Rattle.cfb_mini.proofs.number_writes.cut_minis.Goals as goal

pub returns-then-count-mini_sector_ids-clause-cuts : goal.returns-then-count-mini_sector_ids-clause-cuts
returns-then-count-mini_sector_ids-clause-cuts g c = λ chain.
    let minis = minis_of c.args.links.now in
    let few : length minis ≤ c.args.count = subst (λ l. length l ≤ c.args.count) c.mini_sector_ids.ensures c.if-count-mini_sector_ids.true in
    record {
      enters = enters_none minis c.args.allocator.now c.args.mini_fat.now chain;
      minis_are = sym (take_all c.args.count minis few);
      freed = none_dropped (numbers_of c.args.mini_fat.now.numbers) minis c.args.count few;
      linked = λ linked. linked;
    }
