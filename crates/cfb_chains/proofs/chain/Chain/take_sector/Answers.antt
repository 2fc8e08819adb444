use Rattle.std.proofs.Common.{◌≡◌, ◌-◌, ◌∷◌, [], ◌∙◌, sym, ap, arith, refl, subst, length, suc, get_or, ℕ, List, ◌++◌, Err}
use Rattle.cfb_medium.specs.Versions.{sector_len}
use Rattle.cfb_sectors.specs.Initial.{first_bytes}
use Rattle.cfb_sectors.specs.Sectors.{filled_part, sector, sector_start, Chain as IsChain}
use Rattle.cfb_sectors.proofs.Causes.{err_same}
use Rattle.cfb_chains.specs.Changes.{IsBeside, IsNotIn}
use Rattle.cfb_chains.specs.ChainViews.{holder_of, sectors_of, version_of}
use Rattle.cfb_chains.proofs.ChainGrowing.{bytes_more, extended, in_use, writable_more}
use Rattle.cfb_chains.proofs.Ending.{ends_alone}
use Rattle.cfb_chains.proofs.chain.Chain.take_sector.Goals as goal

pub returns-then-count-eq0-clause-grows : goal.returns-then-count-eq0-clause-grows
returns-then-count-eq0-clause-grows g c = (
  c.in_ok-sector_id.sector_id ∷ [],
  c.in_ok-sector_id.ensures.begins.1,
  λ linked n none k below same.
      let size : length (sectors_of c.args.self.now) ≡ 0 = ap length (sym c.sector_ids-count.ensures) ∙ c.if-count-eq0.true in
      alone (sectors_of c.args.self.now) c.in_ok-sector_id.sector_id n size none k below same,
)
  where
    alone : (ids : List ℕ) (x n : ℕ) → length ids ≡ 0 → IsNotIn (ids ++ x ∷ []) n → IsNotIn (x ∷ []) n
    alone [] x n size none = none
    alone (y ∷ ids) x n size none = absurd (omega (arith, size))

pub returns-in_err-sector_id-2-clause-refused_only_if : goal.returns-in_err-sector_id-2-clause-refused_only_if
returns-in_err-sector_id-2-clause-refused_only_if g c = λ is.
    let ids = sectors_of c.args.self.now in
    let all = c.sector_ids-count.ensures in
    let some : length c.sector_ids-count.result.now ≡ 0 → ⊥ = c.if-count-eq0.false in
    let size : suc (length ids - 1) ≡ length ids = let same = ap length all in omega (arith, same, some) in
    let at = ap (λ l. get_or l (length c.sector_ids-count.result.now - 1) 0) c.sector_ids.ensures ∙ ap (λ l. get_or ids (length l - 1) 0) all in
    let refused = c.in_err-sector_id-2.ensures.refused_only_if (ap Err (err_same _ _ _ c.from_residual-in_err-sector_id-2.ensures.1 is)) in
    let table = g.H.FreesChains.fat (holder_of c.args.self.now) in (
      λ orderly ends.
          let end = ends (omega (arith, size)) in
          refused.0 orderly end.0 end.1 (subst (λ s. IsChain table s (end.0 ++ end.1 ∷ [])) (sym at) end.2),
      (refused.1, refl),
    )

pub returns-clause-ends : goal.returns-clause-ends
returns-clause-ends g c =
    let ext = c.in_ok-sector_id-2.ensures.extends in
    ends_alone _ _ ext.0 ext.1 _ ext.3

pub returns-clause-grows : goal.returns-clause-grows
returns-clause-grows g c =
    let ids = sectors_of c.args.self.now in
    let all = c.sector_ids-count.ensures in
    let some : length c.sector_ids-count.result.now ≡ 0 → ⊥ = c.if-count-eq0.false in
    let size : suc (length ids - 1) ≡ length ids = let same = ap length all in omega (arith, same, some) in
    let at = ap (λ l. get_or l (length c.sector_ids-count.result.now - 1) 0) c.sector_ids.ensures ∙ ap (λ l. get_or ids (length l - 1) 0) all in
    let ext = c.in_ok-sector_id-2.ensures.extends in
    let keep = g.met.H.GrowsChains.grows_keep _ _ _ _ ext.4 in
    let then = keep.2 c.in_ok-sector_id-2.ensures.not_failed.2 in
    (_, ext.4, λ linked. (extended _ _ ids ext.0 (length ids - 1) _ _ ext.1 size at ext.2 ext.3 then.2 then.1.0 linked).1)

pub returns-clause-keeps : goal.returns-clause-keeps
returns-clause-keeps g c =
    let ids = sectors_of c.args.self.now in
    let all = c.sector_ids-count.ensures in
    let some : length c.sector_ids-count.result.now ≡ 0 → ⊥ = c.if-count-eq0.false in
    let size : suc (length ids - 1) ≡ length ids = let same = ap length all in omega (arith, same, some) in
    let at = ap (λ l. get_or l (length c.sector_ids-count.result.now - 1) 0) c.sector_ids.ensures ∙ ap (λ l. get_or ids (length l - 1) 0) all in
    let ext = c.in_ok-sector_id-2.ensures.extends in
    let keep = g.met.H.GrowsChains.grows_keep _ _ _ _ ext.4 in
    let then = keep.2 c.in_ok-sector_id-2.ensures.not_failed.2 in
    let v = version_of c.args.self.now in
    let n = c.in_ok-sector_id-2.sector_id in
    record {
      linked = λ linked. (extended _ _ ids ext.0 (length ids - 1) _ _ ext.1 size at ext.2 ext.3 then.2 then.1.0 linked).0;
      writable = λ version all.
          writable_more _ _ v ids n then.3 (subst (λ u. g.H.ChangesSectors.may_write c.extend_chain.new.self (sector_start u n) (sector_len u)) version c.in_ok-sector_id-2.ensures.writable) all;
    }

pub returns-clause-filled : goal.returns-clause-filled
returns-clause-filled g c = λ honest version linked all.
    let ids = sectors_of c.args.self.now in
    let v = version_of c.args.self.now in
    let n = c.in_ok-sector_id-2.sector_id in
    let old = holder_of c.args.self.now in
    let ext = c.in_ok-sector_id-2.ensures.extends in
    let keep = g.met.H.GrowsChains.grows_keep _ _ _ _ ext.4 in
    let then = keep.2 c.in_ok-sector_id-2.ensures.not_failed.2 in
    let fill : sector v (g.H.HasSectors.bytes c.extend_chain.new.self) n ≡ first_bytes c.args.init (sector_len v) =
    subst (λ u. sector u (g.H.HasSectors.bytes c.extend_chain.new.self) n ≡ first_bytes c.args.init (sector_len u)) version (c.in_ok-sector_id-2.ensures.filled honest) in
    let same = subst (λ u. (place count : ℕ) → g.H.ChangesSectors.may_write old place count → IsBeside u (n ∷ []) place count
    → filled_part (g.H.HasSectors.bytes c.extend_chain.new.self) place count ≡ filled_part (g.H.HasSectors.bytes old) place count) version (then.4 honest) in
    bytes_more (g.H.ChangesSectors.may_write old) v (g.H.HasSectors.bytes old) (g.H.HasSectors.bytes c.extend_chain.new.self) ids (first_bytes c.args.init (sector_len v)) n
    same all (in_use (g.H.FreesChains.fat old) _ ids n linked then.1.0) fill
