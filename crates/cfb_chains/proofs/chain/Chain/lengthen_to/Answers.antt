use Rattle.std.proofs.Common.{◌≡◌, ◌+◌, ◌-◌, ◌<◌, ◌⊎◌, ℕ, List, inl, inr, [], ◌++◌, ◌∙◌, length, sym, ap, arith, subst, ⊎_elim, IsTrue}
use Rattle.std.specs.Prelude.{Err, IsErrOf}
use Rattle.cfb_medium.specs.Versions.{sector_len}
use Rattle.cfb_medium.specs.declared.error.Error.{Error}
use Rattle.cfb_medium.specs.declared.error.Error.TheVariants.{Full, InvalidData, Memory}
use Rattle.cfb_medium.specs.declared.version.Version.{Version}
use Rattle.cfb_sectors.proofs.Filling.{filling_none}
use Rattle.cfb_sectors.specs.Initial.{filling}
use Rattle.cfb_sectors.specs.Sectors.{greatest_regular, joined}
use Rattle.cfb_sectors.specs.declared.initial.NewSector.{NewSector}
use Rattle.std.proofs.lemmas.List.{append-nil}
use Rattle.cfb_chains.specs.ChainViews.{holder_of, sectors_of, version_of}
use Rattle.cfb_chains.specs.Grown.{AreSectorsWritable, IsChainInTable}
use Rattle.cfb_chains.specs.LinkViews.{ids_of, links_version}
use Rattle.cfb_chains.proofs.ChainGrowing.{writable_still}
use Rattle.cfb_chains.proofs.Ending.{has_end}
use Rattle.cfb_chains.proofs.chain.Chain.lengthen_to.Goals as goal

same_error : (e : Error) → IsErrOf {T = Unit {0}} (Err e) Full → e ≡ Full
same_error e is = cc

-- what is said of a chain in one layer and of one version holds in the other
moved_table : (old new s t : List ℕ) → new ≡ old → t ≡ s → IsChainInTable old s → IsChainInTable new t
moved_table old new s t table ids linked = subst (λ l. IsChainInTable l t) (sym table) (subst (IsChainInTable old) (sym ids) linked)

moved_writable : (may then : ℕ → ℕ → Type 0) (v w : Version) (s t : List ℕ) → ((at n : ℕ) → may at n → then at n) → w ≡ v → t ≡ s → AreSectorsWritable may v s → AreSectorsWritable then w t
moved_writable may then v w s t still version ids all = subst (λ u. AreSectorsWritable then u t) (sym version) (subst (AreSectorsWritable then v) (sym ids) (writable_still may then v s still all))

moved_bytes : (v w : Version) (old mid now s t ids : List ℕ) (i : NewSector) → w ≡ v → t ≡ s → mid ≡ old → joined w now ids ≡ joined w mid t ++ filling i (length ids - length t) (sector_len w)
    → joined v now ids ≡ joined v old s ++ filling i (length ids - length s) (sector_len v)
moved_bytes v w old mid now s t ids i version same bytes h =
    subst (λ b. joined v now ids ≡ joined v b s ++ filling i (length ids - length s) (sector_len v)) bytes
    (subst (λ l. joined v now ids ≡ joined v mid l ++ filling i (length ids - length l) (sector_len v)) same
    (subst (λ u. joined u now ids ≡ joined u mid t ++ filling i (length ids - length t) (sector_len u)) version h))

pub returns-then-is_failed-clause-grows : goal.returns-then-is_failed-clause-grows
returns-then-is_failed-clause-grows g c =
    let it = holder_of c.args.self.now in
    ([], [], sym (append-nil (sectors_of c.args.self.now)), g.met.H.GrowsChains.grows_rest [] it it (g.met.H.HasSectors.rests_refl it), λ linked n none k below same. absurd (omega (arith, below)))

pub returns-then-wanted-eq0-clause-grows : goal.returns-then-wanted-eq0-clause-grows
returns-then-wanted-eq0-clause-grows g c =
    let it = holder_of c.args.self.now in
    ([], [], sym (append-nil (sectors_of c.args.self.now)), g.met.H.GrowsChains.grows_rest [] it it (g.met.H.HasSectors.rests_refl it), λ linked n none k below same. absurd (omega (arith, below)))

pub returns-in-Err-clause-grows : goal.returns-in-Err-clause-grows
returns-in-Err-clause-grows g c =
    let it = c.args.self.now in
    ([], [], ap ids_of c.prepare.ensures.links ∙ sym (append-nil (sectors_of it)), g.met.H.GrowsChains.grows_rest [] (holder_of it) (holder_of c.prepare.new.self) c.prepare.ensures.only_reads, λ linked n none k below same. absurd (omega (arith, below)))

pub returns-in-Err-clause-refused_only_if : goal.returns-in-Err-clause-refused_only_if
returns-in-Err-clause-refused_only_if g c = λ is.
    let error : c.in-Err.error ≡ InvalidData = cc in
    (λ orderly linked. c.in-Err.ensures.refused_only_if (ap Err error) orderly (has_end _ _ linked), (c.prepare.ensures.only_reads, ap ids_of c.prepare.ensures.links))

pub returns-in-Err-reserve-clause-grows : goal.returns-in-Err-reserve-clause-grows
returns-in-Err-reserve-clause-grows g c =
    let it = c.args.self.now in
    ([], [], c.reserve.ensures.same.0 ∙ ap ids_of c.prepare.ensures.links ∙ sym (append-nil (sectors_of it)), g.met.H.GrowsChains.grows_rest [] (holder_of it) (holder_of c.prepare.new.self) c.prepare.ensures.only_reads, λ linked n none k below same. absurd (omega (arith, below)))

pub returns-in-Err-reserve-clause-full_only_if : goal.returns-in-Err-reserve-clause-full_only_if
returns-in-Err-reserve-clause-full_only_if g c = λ is. (
  c.in_default.ensures.ready,
  λ live. ⊎_elim (λ memory. absurd (let both = same_error c.in-Err-reserve.error is in let wrong : Memory ≡ Full = sym memory ∙ both in cc))
      (λ full. inr (let size : length (ids_of c.prepare.new.self.links.now) ≡ length (sectors_of c.args.self.now) = ap (λ l. length (ids_of l)) c.prepare.ensures.links in omega (arith, full.1, size, c.num_sectors.ensures, c.requires.more))) c.in-Err-reserve.ensures.errors,
)

pub returns-in-Ok-clause-grows : goal.returns-in-Ok-clause-grows
returns-in-Ok-clause-grows g c =
    let a = holder_of c.args.self.now in
    let m = holder_of c.prepare.new.self in
    let rests = c.prepare.ensures.only_reads in
    let grown = c.grow_to.ensures.grows in
    let same = c.reserve.ensures.same.0 ∙ ap ids_of c.prepare.ensures.links in (
      grown.0,
      grown.1,
      grown.2 ∙ ap (λ l. l ++ grown.0) same,
      g.met.H.GrowsChains.grows_then [] [] grown.0 grown.1 a m _ (g.met.H.GrowsChains.grows_rest [] a m rests) grown.3,
      λ linked. grown.4 (moved_table _ _ _ _ (g.met.H.FreesChains.rests_keep_tables a m rests).0 same linked),
    )

pub returns-in-Ok-clause-keeps : goal.returns-in-Ok-clause-keeps
returns-in-Ok-clause-keeps g c =
    let a = holder_of c.args.self.now in
    let m = holder_of c.prepare.new.self in
    let rests = c.prepare.ensures.only_reads in
    let same = c.reserve.ensures.same.0 ∙ ap ids_of c.prepare.ensures.links in
    let same_version = c.reserve.ensures.same.1 ∙ ap links_version c.prepare.ensures.links in
    let kept = g.met.H.FreesChains.rests_keep_tables a m rests in
    let version_m = (g.met.H.GrowsChains.grows_keep [] [] a m (g.met.H.GrowsChains.grows_rest [] a m rests)).1 in
    let keeps = c.in-Ok.ensures.keeps c.in-Ok.ensures.not_failed in
    record {
      linked = λ linked. keeps.linked (moved_table _ _ _ _ kept.0 same linked);
      writable = λ version all. subst (λ u. AreSectorsWritable (g.H.ChangesSectors.may_write (holder_of c.grow_to.new.self)) u (sectors_of c.grow_to.new.self)) same_version
          (keeps.writable (version_m ∙ version ∙ sym same_version) (moved_writable _ _ _ _ _ _ kept.2 same_version same all));
    }

pub returns-in-Ok-clause-filled : goal.returns-in-Ok-clause-filled
returns-in-Ok-clause-filled g c = λ honest version linked all.
    let a = holder_of c.args.self.now in
    let m = holder_of c.prepare.new.self in
    let rests = c.prepare.ensures.only_reads in
    let same = c.reserve.ensures.same.0 ∙ ap ids_of c.prepare.ensures.links in
    let same_version = c.reserve.ensures.same.1 ∙ ap links_version c.prepare.ensures.links in
    let kept = g.met.H.FreesChains.rests_keep_tables a m rests in
    let held = g.met.H.HasSectors.rests_keep a m rests in
    let version_m = (g.met.H.GrowsChains.grows_keep [] [] a m (g.met.H.GrowsChains.grows_rest [] a m rests)).1 in
    let filled = c.in-Ok.ensures.filled c.in-Ok.ensures.not_failed (subst IsTrue (sym held.0) honest) (version_m ∙ version ∙ sym same_version) (moved_table _ _ _ _ kept.0 same linked) (moved_writable _ _ _ _ _ _ kept.2 same_version same all) in
    moved_bytes (version_of c.args.self.now) (links_version c.reserve.new.self) (g.H.HasSectors.bytes a) (g.H.HasSectors.bytes m) (g.H.HasSectors.bytes (holder_of c.grow_to.new.self)) (sectors_of c.args.self.now) (ids_of c.reserve.new.self) (sectors_of c.grow_to.new.self)
    c.args.init same_version same (held.2 honest) filled

pub returns-in-Err-grow_to-clause-grows : goal.returns-in-Err-grow_to-clause-grows
returns-in-Err-grow_to-clause-grows g c =
    let a = holder_of c.args.self.now in
    let m = holder_of c.prepare.new.self in
    let rests = c.prepare.ensures.only_reads in
    let grown = c.grow_to.ensures.grows in
    let same = c.reserve.ensures.same.0 ∙ ap ids_of c.prepare.ensures.links in (
      grown.0,
      grown.1,
      grown.2 ∙ ap (λ l. l ++ grown.0) same,
      g.met.H.GrowsChains.grows_fails grown.0 grown.1 a _ _ (g.met.H.GrowsChains.grows_then [] [] grown.0 grown.1 a m _ (g.met.H.GrowsChains.grows_rest [] a m rests) grown.3) c.fail.ensures,
      λ linked. grown.4 (moved_table _ _ _ _ (g.met.H.FreesChains.rests_keep_tables a m rests).0 same linked),
    )

pub returns-in-Err-clause-stopped : goal.returns-in-Err-clause-stopped
returns-in-Err-clause-stopped g c = λ is.
    let it = holder_of c.args.self.now in
    let error : c.in-Err.error ≡ Full = cc in
    let some = c.if-wanted-eq0.false in
    let same : c.args.count - c.num_sectors.result ≡ c.args.count - (length (sectors_of c.args.self.now) + 0) = omega (arith, c.num_sectors.ensures) in
    record {
      more = [];
      changed = [];
      mid = it;
      grows = g.met.H.GrowsChains.grows_rest [] it it (g.met.H.HasSectors.rests_refl it);
      live = sym c.is_failed.ensures ∙ c.if-is_failed.false;
      short = omega (arith, some, c.num_sectors.ensures);
      full = inr (inl (subst (g.H.GrowsChains.lacks it) same (c.in-Err.ensures.full_only_if (ap Err error)).1));
    }

pub returns-in-Err-reserve-clause-stopped : goal.returns-in-Err-reserve-clause-stopped
returns-in-Err-reserve-clause-stopped g c = λ is.
    let it = holder_of c.args.self.now in
    let some = c.if-wanted-eq0.false in
    let size : length (ids_of c.prepare.new.self.links.now) ≡ length (sectors_of c.args.self.now) = ap (λ l. length (ids_of l)) c.prepare.ensures.links in
    record {
      more = [];
      changed = [];
      mid = it;
      grows = g.met.H.GrowsChains.grows_rest [] it it (g.met.H.HasSectors.rests_refl it);
      live = sym c.is_failed.ensures ∙ c.if-is_failed.false;
      short = omega (arith, some, c.num_sectors.ensures);
      full = ⊎_elim (λ memory. absurd (let both = same_error c.in-Err-reserve.error is in let wrong : Memory ≡ Full = sym memory ∙ both in cc))
          (λ full. inr (inr (omega (arith, full.1, size, c.num_sectors.ensures, c.requires.more)))) c.in-Err-reserve.ensures.errors;
    }

pub returns-in-Err-grow_to-clause-stopped : goal.returns-in-Err-grow_to-clause-stopped
returns-in-Err-grow_to-clause-stopped g c = λ is.
    let a = holder_of c.args.self.now in
    let m = holder_of c.prepare.new.self in
    let error : c.in-Err-grow_to.error ≡ Full = cc in
    let out = c.in-Err-grow_to.ensures.stopped (ap Err error) in
    let same : length (ids_of c.reserve.new.self) ≡ length (sectors_of c.args.self.now) = ap length (c.reserve.ensures.same.0 ∙ ap ids_of c.prepare.ensures.links) in
    record {
      more = out.more;
      changed = out.changed;
      mid = out.mid;
      grows = g.met.H.GrowsChains.grows_then [] [] out.more out.changed a m out.mid (g.met.H.GrowsChains.grows_rest [] a m c.prepare.ensures.only_reads) out.grows;
      live = out.live;
      short = omega (arith, same, out.short);
      full = subst (λ n. g.H.GrowsChains.is_full out.mid ⊎ g.H.GrowsChains.lacks out.mid (c.args.count - (n + length out.more)) ⊎ (greatest_regular + 1 < c.args.count)) same out.full;
    }

pub returns-then-wanted-eq0-clause-filled : goal.returns-then-wanted-eq0-clause-filled
returns-then-wanted-eq0-clause-filled g c = λ honest version linked all.
    let it = c.args.self.now in
    let held = joined (version_of it) (g.H.HasSectors.bytes (holder_of it)) (sectors_of it) in
    let none : length (sectors_of it) - length (sectors_of it) ≡ 0 = omega arith in
    sym (ap (λ k. held ++ filling c.args.init k (sector_len (version_of it))) none ∙ ap (λ l. held ++ l) (filling_none c.args.init (sector_len (version_of it))) ∙ append-nil held)
