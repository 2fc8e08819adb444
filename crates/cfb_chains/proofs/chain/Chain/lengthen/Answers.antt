use Rattle.std.proofs.Common.{◌⊎◌, ◌+◌, ◌-◌, ◌<◌, ap, length, subst, ◌∙◌}
use Rattle.cfb_sectors.specs.Sectors.{greatest_regular}
use Rattle.cfb_chains.specs.ChainCalls.{LacksNumber}
use Rattle.cfb_chains.specs.ChainViews.{sectors_of}
use Rattle.cfb_chains.specs.Positions.{sectors_for}
use Rattle.cfb_chains.proofs.chain.Chain.lengthen.Goals as goal

pub returns-clause-full_only_if : goal.returns-clause-full_only_if
returns-clause-full_only_if g c = λ is.
    let it = c.args.self.now in
    let count = c.needed_sectors-count.ensures ∙ ap (λ v. sectors_for v c.args.len) c.version.ensures in
    let did = c.lengthen_to.ensures.full_only_if is in
    let out = c.lengthen_to.ensures.stopped is in
    let had = length (sectors_of it) + length out.more in
    record {
      orderly = did.0;
      lacks = λ live. subst (λ n. LacksNumber g.H.GrowsChains.lacks n it) count (did.1 live);
      ran_out = record {
        more = out.more;
        changed = out.changed;
        mid = out.mid;
        grows = out.grows;
        live = out.live;
        short = subst (λ n. had < n) count out.short;
        full = subst (λ n. g.H.GrowsChains.is_full out.mid ⊎ g.H.GrowsChains.lacks out.mid (n - had) ⊎ (greatest_regular + 1 < n)) count out.full;
      };
    }
