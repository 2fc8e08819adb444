use Rattle.std.proofs.Common.{◌≡◌, false, inl, inr, length, true, ap, Err, ◌∙◌, sym, subst, ⊎_elim, IsTrue}
use Rattle.cfb_medium.specs.declared.error.Error.TheVariants.{InvalidData}
use Rattle.cfb_chains.specs.ChainViews.{holder_of, position_of, sectors_of, version_of}
use Rattle.cfb_chains.specs.Changes.{AreSubsetOf}
use Rattle.cfb_chains.specs.Grown.{AreSectorsWritable, IsChainInTable}
use Rattle.cfb_chains.proofs.ChainGrowing.{chain_once, either_there, ends_here, room_behind, writable_still, written_there}
use Rattle.cfb_chains.proofs.Ending.{has_end}
use Rattle.cfb_chains.proofs.chain.Chain.write_behind.Goals as goal

pub returns-in-Ok-clause-grows : goal.returns-in-Ok-clause-grows
returns-in-Ok-clause-grows g c =
    let old = c.args.self.now in
    let mid = c.append_sector.new.self in
    let new = c.write_inside.new.self in
    let grown = c.append_sector.ensures.grows in
    let same = c.write_inside.ensures.same.sectors in (
      grown.0,
      grown.1,
      holder_of mid,
      same ∙ grown.2,
      grown.3,
      λ linked. subst (λ s. AreSubsetOf s grown.1) (sym same) (grown.4 linked),
      ends_here (either_there (λ p b. g.H.ChangesSectors.writes p b (holder_of mid) (holder_of new)) _ (version_of old) (version_of mid) (sectors_of new) (sectors_of mid) _ (position_of old) (position_of mid)
          c.append_sector.ensures.same.same.version (sym same) c.append_sector.ensures.same.position c.write_inside.ensures.either),
    )

pub returns-in-Err-write_inside-clause-grows : goal.returns-in-Err-write_inside-clause-grows
returns-in-Err-write_inside-clause-grows g c =
    let old = c.args.self.now in
    let mid = c.append_sector.new.self in
    let new = c.write_inside.new.self in
    let grown = c.append_sector.ensures.grows in
    let same = c.write_inside.ensures.same.sectors in (
      grown.0,
      grown.1,
      holder_of mid,
      same ∙ grown.2,
      grown.3,
      λ linked. subst (λ s. AreSubsetOf s grown.1) (sym same) (grown.4 linked),
      inr (inr (
        holder_of new,
        either_there (λ p b. g.H.ChangesSectors.writes p b (holder_of mid) (holder_of new)) _ (version_of old) (version_of mid) (sectors_of new) (sectors_of mid) _ (position_of old) (position_of mid)
            c.append_sector.ensures.same.same.version (sym same) c.append_sector.ensures.same.position c.write_inside.ensures.either,
        c.fail.ensures,
      )),
    )

pub returns-in-Ok-clause-keeps : goal.returns-in-Ok-clause-keeps
returns-in-Ok-clause-keeps g c =
    let same = c.write_inside.ensures.same.sectors in
    let fat : g.H.FreesChains.fat (holder_of c.write_inside.new.self) ≡ g.H.FreesChains.fat (holder_of c.append_sector.new.self) =
    ⊎_elim (λ w. (g.met.H.FreesChains.writes_keep_tables _ _ _ _ w).0) (λ r. (g.met.H.FreesChains.rests_keep_tables _ _ r).0) c.write_inside.ensures.either in
    let then = g.H.ChangesSectors.may_write (holder_of c.write_inside.new.self) in
    let v = version_of c.args.self.now in
    record {
      linked = λ linked. subst (λ f. IsChainInTable f (sectors_of c.write_inside.new.self)) (sym fat) (subst (IsChainInTable (g.H.FreesChains.fat (holder_of c.append_sector.new.self))) (sym same) (c.in_default.ensures.keeps.linked linked));
      writable = λ version all. subst (AreSectorsWritable then v) (sym same)
          (writable_still (g.H.ChangesSectors.may_write (holder_of c.append_sector.new.self)) then v (sectors_of c.append_sector.new.self) c.write_inside.ensures.still (c.in_default.ensures.keeps.writable version all));
    }

pub returns-in-Ok-clause-written : goal.returns-in-Ok-clause-written
returns-in-Ok-clause-written g c = λ honest version linked all.
    let old = c.args.self.now in
    let mid = c.append_sector.new.self in
    let new = c.write_inside.new.self in
    let filled = c.in_default.ensures.filled honest version linked all in
    let linked_mid = c.in_default.ensures.keeps.linked linked in
    let kept = g.met.H.GrowsChains.grows_keep _ _ _ _ c.append_sector.ensures.grows.3 in
    let written = c.in-Ok.ensures.written (subst IsTrue (sym kept.0) honest) (chain_once _ _ _ linked_mid) in
    written_there (version_of old) (version_of mid) _ _ (sectors_of new) (sectors_of mid) _ _ (position_of old) (position_of mid)
    c.append_sector.ensures.same.same.version (sym c.write_inside.ensures.same.sectors) c.append_sector.ensures.same.position filled written

pub returns-in-Err-write_inside-clause-refused_only_if : goal.returns-in-Err-write_inside-clause-refused_only_if
returns-in-Err-write_inside-clause-refused_only_if g c = λ is version.
    let old = c.args.self.now in
    let mid = c.append_sector.new.self in
    let may = g.H.ChangesSectors.may_write (holder_of mid) in
    let there = room_behind may (version_of old) (version_of mid) (sectors_of mid) (length (sectors_of old)) (position_of old) (position_of mid) _ (g.met.H.ChangesSectors.may_part (holder_of mid))
    c.append_sector.ensures.same.same.version c.append_sector.ensures.same.position c.requires (c.in_default.ensures.room version) in
    absurd ((c.in-Err-write_inside.ensures.refused_only_if.0 is).1 there)

pub returns-in-Err-write_inside-clause-error_contract : goal.returns-in-Err-write_inside-clause-error_contract
returns-in-Err-write_inside-clause-error_contract g c =
    let grown = c.append_sector.ensures.grows in
    let live = c.in_default.ensures.error_contract.live in
    record {
      live = tt;
      failed = λ wrong. absurd (let clash : true ≡ false = sym wrong ∙ live.0 in cc);
      after = inl (g.met.H.ChangesSectors.fails_keep _ _ c.fail.ensures).1;
      cause = g.met.H.GrowsChains.grows_cause grown.0 grown.1 _ _ _ _ grown.3 live.1 (g.met.H.ChangesSectors.fails_cause _ _ _ _ c.in-Err-write_inside.ensures.error_contract.cause c.fail.ensures);
      fault = ⊎_elim inl (λ is. inr (inl is)) c.in-Err-write_inside.ensures.error_contract.fault;
    }

pub returns-in-Err-clause-refused_live : goal.returns-in-Err-clause-refused_live
returns-in-Err-clause-refused_live g c = λ is live orderly linked.
    let error : c.in-Err.error ≡ InvalidData = cc in
    (c.in-Err.ensures.refused_only_if (ap Err error)).0 orderly (has_end _ _ linked)

pub returns-in-Err-clause-refused_only_if : goal.returns-in-Err-clause-refused_only_if
returns-in-Err-clause-refused_only_if g c = λ is version.
    let error : c.in-Err.error ≡ InvalidData = cc in
    let refused = c.in-Err.ensures.refused_only_if (ap Err error) in
    (λ orderly linked. refused.0 orderly (has_end _ _ linked), refused.1)
