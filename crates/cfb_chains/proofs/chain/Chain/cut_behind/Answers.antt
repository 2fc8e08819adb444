use Rattle.std.proofs.Common.{◌≡◌, ◌-◌, ◌≤◌, ap, arith, drop, get_or, length, refl, subst, suc, sym, take}
use Rattle.cfb_sectors.specs.Sectors.{free, joined}
use Rattle.cfb_chains.specs.ChainViews.{holder_of, sectors_of, version_of}
use Rattle.cfb_chains.specs.Grown.{AreSectorsWritable, IsChainInTable}
use Rattle.cfb_chains.specs.Changes.{HaveEntry}
use Rattle.cfb_chains.proofs.ChainCutting.{changed_are_mine, freed_are, front_bytes, front_stays, is_cut, writable_front}
use Rattle.cfb_chains.proofs.chain.Chain.cut_behind.Goals as goal

pub returns-in-Ok-clause-frees : goal.returns-in-Ok-clause-frees
returns-in-Ok-clause-frees g c =
    let s = sectors_of c.args.self.now in
    let m = c.args.count - 1 in
    let size : suc m ≡ c.args.count = omega (arith, c.requires.some) in
    let inside : suc m ≤ length s = omega (arith, c.requires.some, c.requires.there) in
    let at = ap (λ l. get_or l m 0) c.sector_ids.ensures in
    let freed = c.in-Ok.ensures.frees in
    let then = (g.met.H.FreesChains.changes_keep _ _ _ freed.2).1 c.in-Ok.ensures.not_failed.2 in (
      _,
      freed.2,
      λ linked. (
        changed_are_mine _ _ s freed.0 m _ inside at freed.1.0 freed.1.1 then.1 linked,
        subst (λ k. HaveEntry free (g.H.FreesChains.fat c.free_chain_after.new.self) (drop k s)) size
            (subst (HaveEntry free (g.H.FreesChains.fat c.free_chain_after.new.self)) (freed_are _ _ s freed.0 m _ inside at freed.1.0 freed.1.1 then.1 linked) freed.1.2),
      ),
    )

pub returns-in-Ok-clause-linked : goal.returns-in-Ok-clause-linked
returns-in-Ok-clause-linked g c = λ linked.
    let s = sectors_of c.args.self.now in
    let m = c.args.count - 1 in
    let size : suc m ≡ c.args.count = omega (arith, c.requires.some) in
    let inside : suc m ≤ length s = omega (arith, c.requires.some, c.requires.there) in
    let at = ap (λ l. get_or l m 0) c.sector_ids.ensures in
    let freed = c.in-Ok.ensures.frees in
    let then = (g.met.H.FreesChains.changes_keep _ _ _ freed.2).1 c.in-Ok.ensures.not_failed.2 in
    let fat = g.H.FreesChains.fat c.free_chain_after.new.self in
    subst (IsChainInTable fat) (sym c.truncate.ensures.0) (subst (λ k. IsChainInTable fat (take k s)) size (front_stays _ _ s freed.0 m _ inside at freed.1.0 freed.1.1 then.1 linked))

pub returns-in-Ok-clause-writable : goal.returns-in-Ok-clause-writable
returns-in-Ok-clause-writable g c = λ all.
    let it = c.args.self.now in
    let then = (g.met.H.FreesChains.changes_keep _ _ _ c.in-Ok.ensures.frees.2).1 c.in-Ok.ensures.not_failed.2 in
    let may = g.H.ChangesSectors.may_write c.free_chain_after.new.self in
    subst (AreSectorsWritable may (version_of it)) (sym c.truncate.ensures.0) (writable_front (g.H.ChangesSectors.may_write (holder_of it)) may (version_of it) c.args.count (sectors_of it) then.2 all)

pub returns-in-Ok-clause-bytes : goal.returns-in-Ok-clause-bytes
returns-in-Ok-clause-bytes g c = λ honest all.
    let it = c.args.self.now in
    let v = version_of it in
    let old = g.H.HasSectors.bytes (holder_of it) in
    let new = g.H.HasSectors.bytes c.free_chain_after.new.self in
    let then = (g.met.H.FreesChains.changes_keep _ _ _ c.in-Ok.ensures.frees.2).1 c.in-Ok.ensures.not_failed.2 in
    subst (λ s. joined v new s ≡ joined v old s) (sym c.truncate.ensures.0) (front_bytes (g.H.ChangesSectors.may_write (holder_of it)) v old new c.args.count (sectors_of it) (then.3 honest) all)

pub returns-in-Err-clause-refused_only_if : goal.returns-in-Err-clause-refused_only_if
returns-in-Err-clause-refused_only_if g c = λ is.
    let s = sectors_of c.args.self.now in
    let m = c.args.count - 1 in
    let inside : suc m ≤ length s = omega (arith, c.requires.some, c.requires.there) in
    let at = ap (λ l. get_or l m 0) c.sector_ids.ensures in
    let refused = c.in-Err.ensures.refused_only_if is in
    (λ orderly linked. refused.0 orderly (drop (suc m) s) (is_cut _ s m _ inside at linked), (refused.1, refl))
