use Rattle.std.proofs.Common.{◌≡◌, ℕ, List, ◌+◌, ◌-◌, ◌*◌, ◌<◌, ◌≤◌, Err, slice_index, length, length-append, ◌++◌, ◌∷◌, [], ◌∙◌, sym, ap, arith, subst}
use Rattle.std.proofs.lemmas.List.{append-nil}
use Rattle.cfb_medium.specs.Versions.{sector_len}
use Rattle.cfb_medium.specs.declared.error.Error.TheVariants.{InvalidData}
use Rattle.cfb_medium.specs.declared.version.Version.{Version}
use Rattle.cfb_medium.specs.declared.version.Version.TheVariants.{V3, V4}
use Rattle.cfb_sectors.specs.Sectors.{sector_start, Chain as IsChain}
use Rattle.cfb_chains.proofs.ChainGrowing.{sector_behind}
use Rattle.cfb_chains.proofs.Ending.{last_behind}
use Rattle.cfb_chains.specs.ChainViews.{holder_of, position_of, sectors_of, version_of}
use Rattle.cfb_chains.specs.Changes.{AreSubsetOf}
use Rattle.cfb_chains.specs.Grown.{IsChainInTable}
use Rattle.cfb_chains.specs.LinkViews.{ids_of}
use Rattle.cfb_chains.proofs.chain.Chain.append_sector.Goals as goal

pub returns-then-is_failed-clause-grows : goal.returns-then-is_failed-clause-grows
returns-then-is_failed-clause-grows g c =
    let it = holder_of c.args.self.now in
    ([], [], sym (append-nil (sectors_of c.args.self.now)), g.met.H.GrowsChains.grows_rest [] it it (g.met.H.HasSectors.rests_refl it), λ linked n none k below same. absurd (omega (arith, below)))

pub returns-in-Err-clause-grows : goal.returns-in-Err-clause-grows
returns-in-Err-clause-grows g c =
    let it = c.args.self.now in
    ([], [], ap (λ l. l.sector_ids.items) c.prepare.ensures.links ∙ sym (append-nil (sectors_of it)), g.met.H.GrowsChains.grows_rest [] (holder_of it) _ c.prepare.ensures.only_reads, λ linked n none k below same. absurd (omega (arith, below)))

pub returns-then-is_full-clause-grows : goal.returns-then-is_full-clause-grows
returns-then-is_full-clause-grows g c =
    let it = c.args.self.now in
    ([], [], ap (λ l. l.sector_ids.items) c.prepare.ensures.links ∙ sym (append-nil (sectors_of it)), g.met.H.GrowsChains.grows_rest [] (holder_of it) _ c.prepare.ensures.only_reads, λ linked n none k below same. absurd (omega (arith, below)))

pub returns-in-Err-reserve_one-clause-grows : goal.returns-in-Err-reserve_one-clause-grows
returns-in-Err-reserve_one-clause-grows g c =
    let it = holder_of c.args.self.now in
    ([], [], c.reserve_one.ensures.same.0 ∙ sym (append-nil (sectors_of c.args.self.now)), g.met.H.GrowsChains.grows_rest [] it it (g.met.H.HasSectors.rests_refl it), λ linked n none k below same. absurd (omega (arith, below)))

still_inside : (v w : Version) (p : ℕ) (ids all : List ℕ) (n : ℕ) → p ≤ length ids * sector_len v → all ≡ ids ++ n ∷ [] → w ≡ v → p ≤ length all * sector_len w
still_inside v w p ids all n inside more same =
    let size : length all ≡ length ids + 1 = ap length more ∙ length-append ids (n ∷ []) in
    subst (λ u. p ≤ length all * sector_len u) (sym same) (subst (λ k. p ≤ k * sector_len v) (sym size) (at_most v p (length ids) inside))
  where
    at_most : (u : Version) (p k : ℕ) → p ≤ k * sector_len u → p ≤ (k + 1) * sector_len u
    at_most V3 p k h = omega arith
    at_most V4 p k h = omega arith

pub invariant_of-self-in-Ok : goal.invariant_of-self-in-Ok
invariant_of-self-in-Ok g c =
    let it = c.take_sector.new.self in
    record { inside = still_inside (version_of it) _ (position_of it) (sectors_of it) _ c.in-Ok.sector_id it.inside c.push_reserved.ensures.0 c.push_reserved.ensures.1 }

pub returns-in-Ok-clause-grows : goal.returns-in-Ok-clause-grows
returns-in-Ok-clause-grows g c =
    let grown = c.in-Ok.ensures.grows in
    let n = c.in-Ok.sector_id in
    let same = c.reserve_one.ensures.same.0 in
    let with_it = c.push_reserved.ensures.0 ∙ ap (λ l. l.sector_ids.items ++ n ∷ []) c.take_sector.ensures.links in (
      n ∷ [],
      grown.0,
      with_it ∙ ap (λ l. l ++ n ∷ []) same,
      grown.1,
      λ linked. subst (λ s. AreSubsetOf s grown.0) (sym with_it) (grown.2 (subst (IsChainInTable (g.H.FreesChains.fat (holder_of c.args.self.now))) (sym same) linked)),
    )

pub returns-in-Ok-clause-room : goal.returns-in-Ok-clause-room
returns-in-Ok-clause-room g c = λ version.
    let ids = sectors_of c.args.self.now in
    let v = version_of c.args.self.now in
    let n = c.in-Ok.sector_id in
    let same = c.reserve_one.ensures.same.0 in
    let with_it = c.push_reserved.ensures.0 ∙ ap (λ l. l.sector_ids.items ++ n ∷ []) c.take_sector.ensures.links ∙ ap (λ l. l ++ n ∷ []) same in
    let last : slice_index (ids_of c.push_reserved.new.self) (length ids) ≡ n = ap (λ l. slice_index l (length ids)) with_it ∙ sector_behind ids n in
    let may = g.H.ChangesSectors.may_write (holder_of c.take_sector.new.self) in
    let here : may (sector_start v n) (sector_len v) =
    subst (λ u. g.H.GrowsChains.version (holder_of c.args.self.now) ≡ u → may (sector_start u n) (sector_len u)) c.reserve_one.ensures.same.1 c.in-Ok.ensures.room version in
    subst (λ k. may (sector_start v k) (sector_len v)) (sym last) here

pub returns-in-Ok-clause-ends : goal.returns-in-Ok-clause-ends
returns-in-Ok-clause-ends g c = λ some. (
  [],
  c.in-Ok.sector_id,
  subst (λ k. IsChain (g.H.FreesChains.fat (holder_of c.take_sector.new.self)) k (c.in-Ok.sector_id ∷ [])) (sym (last_behind _ _ c.in-Ok.sector_id c.push_reserved.ensures.0)) c.in-Ok.ensures.ends,
)

pub returns-in-Err-take_sector-clause-refused_only_if : goal.returns-in-Err-take_sector-clause-refused_only_if
returns-in-Err-take_sector-clause-refused_only_if g c = λ is.
    let table = g.H.FreesChains.fat (holder_of c.args.self.now) in
    let error : c.in-Err-take_sector.error ≡ InvalidData = cc in
    let refused = c.in-Err-take_sector.ensures.refused_only_if (ap Err error) in
    let same = c.reserve_one.ensures.same.0 in (
      λ orderly ends.
          refused.0 orderly (subst (λ s. 0 < length s → (front : List ℕ) × (last : ℕ) × IsChain table (slice_index s (length s - 1)) (front ++ last ∷ [])) (sym same) ends),
      (refused.1.0, refused.1.1 ∙ same),
    )
