use Rattle.std.proofs.Common.{◌⊎◌, ◌+◌, ◌-◌, ◌<◌, ap, drop, length, subst, ◌∙◌, OnOk}
use Rattle.cfb_sectors.specs.Sectors.{free, greatest_regular}
use Rattle.cfb_chains.specs.ChainCalls.{IsCutTo, LacksNumber}
use Rattle.cfb_chains.specs.ChainViews.{holder_of, sectors_of}
use Rattle.cfb_chains.specs.Changes.{AreSubsetOf, HaveEntry}
use Rattle.cfb_chains.specs.Grown.{IsChainInTable}
use Rattle.cfb_chains.specs.Positions.{sectors_for}
use Rattle.cfb_chains.proofs.chain.Chain.set_len.Goals as goal

pub returns-then-count-num_sectors-clause-shorter : goal.returns-then-count-num_sectors-clause-shorter
returns-then-count-num_sectors-clause-shorter g c = λ shorter.
    let it = c.args.self.now in
    let new = c.cut_to.new.self in
    let fat = g.H.FreesChains.fat in
    let count = c.needed_sectors-count.ensures ∙ ap (λ v. sectors_for v c.args.len) c.version.ensures in
    let cuts = c.cut_to.ensures.cuts in record {
      cut = subst (λ n. OnOk c.cut_to.result (IsCutTo n it new)) count cuts.cut;
      frees = (
        cuts.frees.0,
        cuts.frees.1,
        subst (λ n. OnOk c.cut_to.result (IsChainInTable (fat (holder_of it)) (sectors_of it) → AreSubsetOf (sectors_of it) cuts.frees.0 × HaveEntry free (fat (holder_of new)) (drop n (sectors_of it)))) count cuts.frees.2,
      );
      linked = cuts.linked;
      writable = cuts.writable;
      bytes = cuts.bytes;
    }

pub returns-clause-full_only_if : goal.returns-clause-full_only_if
returns-clause-full_only_if g c = λ is.
    let it = c.args.self.now in
    let count = c.needed_sectors-count.ensures ∙ ap (λ v. sectors_for v c.args.len) c.version.ensures in
    let did = c.lengthen_to.ensures.full_only_if is in
    let out = c.lengthen_to.ensures.stopped is in
    let had = length (sectors_of it) + length out.more in
    record {
      orderly = did.0;
      lacks = λ live. subst (λ n. LacksNumber g.H.GrowsChains.lacks n it) count (did.1 live);
      ran_out = record {
        more = out.more;
        changed = out.changed;
        mid = out.mid;
        grows = out.grows;
        live = out.live;
        short = subst (λ n. had < n) count out.short;
        full = subst (λ n. g.H.GrowsChains.is_full out.mid ⊎ g.H.GrowsChains.lacks out.mid (n - had) ⊎ (greatest_regular + 1 < n)) count out.full;
      };
    }
