use Rattle.std.proofs.Common.{◌≡◌, ℕ, ◌++◌, ◌*◌, ◌-◌, ◌∙◌, [], append_assoc, ap, arith, inl, inr, length, length-append, refl, subst, sym, ⊎_elim, IsTrue}
use Rattle.std.specs.Prelude.{Err}
use Rattle.cfb_medium.specs.declared.error.Error.TheVariants.{Full}
use Rattle.std.proofs.lemmas.List.{append-nil}
use Rattle.cfb_medium.specs.Versions.{sector_len}
use Rattle.cfb_sectors.specs.Initial.{filling}
use Rattle.cfb_sectors.proofs.Filling.{filling_none}
use Rattle.cfb_sectors.specs.Sectors.{joined}
use Rattle.cfb_chains.specs.ChainViews.{holder_of, sectors_of, version_of}
use Rattle.cfb_chains.specs.Changes.{AreSubsetOf}
use Rattle.cfb_chains.specs.Grown.{AreSectorsWritable, IsChainInTable}
use Rattle.cfb_chains.proofs.ChainGrowing.{among_both, among_more, filled_step, rests_yet, writable_still}
use Rattle.cfb_chains.proofs.chain.Chain.grow_to.Goals as goal

pub grow-init : goal.grow-init
grow-init g c =
    let it = c.args.self.now in
    let h = holder_of it in
    let none : length (sectors_of it) - length (sectors_of it) ≡ 0 = omega arith in
    record {
      grows = ([], [], sym (append-nil (sectors_of it)), g.met.H.GrowsChains.grows_rest [] h h (g.met.H.HasSectors.rests_refl h), λ linked n none k below same. absurd (omega (arith, below)));
      most = c.requires.more;
      least = omega arith;
      live = c.requires.ready.0;
      orderly = c.requires.ready.1;
      ends = c.requires.ready.2;
      linked = λ linked. linked;
      writable = λ version all. all;
      filled = λ honest version linked all. sym (ap (λ k. joined (version_of it) (g.H.HasSectors.bytes h) (sectors_of it) ++ filling c.args.init k (sector_len (version_of it))) none ∙ ap (λ l. joined (version_of it) (g.H.HasSectors.bytes h) (sectors_of it) ++ l) (filling_none c.args.init (sector_len (version_of it))) ∙ append-nil (joined (version_of it) (g.H.HasSectors.bytes h) (sectors_of it)));
      same = record { holder = refl; links = refl; version = refl; init = refl };
      position = refl;
    }

pub returns-in-Err-clause-grows : goal.returns-in-Err-clause-grows
returns-in-Err-clause-grows g c =
    let was = c.grow.invariant.grows in
    let grown = c.append_sector.ensures.grows in (
      was.0 ++ grown.0,
      was.1 ++ grown.1,
      grown.2 ∙ ap (λ l. l ++ grown.0) was.2 ∙ append_assoc (sectors_of c.args.self.now) was.0 grown.0,
      g.met.H.GrowsChains.grows_then was.0 was.1 grown.0 grown.1 _ _ _ was.3 grown.3,
      λ linked. among_both (sectors_of c.append_sector.new.self) was.1 grown.1 (subst (λ s. AreSubsetOf s was.1) (sym grown.2) (among_more (sectors_of c.grow.self) grown.0 was.1 (was.4 linked))) (grown.4 (c.grow.invariant.linked linked)),
    )

pub returns-in-Err-clause-keeps : goal.returns-in-Err-clause-keeps
returns-in-Err-clause-keeps g c = λ live.
    let rests = (rests_yet _ c.in-Err.ensures.error_contract.after live).0 in
    let kept = g.met.H.FreesChains.rests_keep_tables _ _ rests in
    let v = version_of c.args.self.now in
    let then = g.H.ChangesSectors.may_write (holder_of c.append_sector.new.self) in
    record {
      linked = λ linked. subst (λ f. IsChainInTable f (sectors_of c.append_sector.new.self)) (sym kept.0)
          (subst (IsChainInTable (g.H.FreesChains.fat (holder_of c.grow.self))) (sym c.in-Err.ensures.none) (c.grow.invariant.linked linked));
      writable = λ version all. subst (AreSectorsWritable then v) (sym c.in-Err.ensures.none)
          (writable_still (g.H.ChangesSectors.may_write (holder_of c.grow.self)) then v (sectors_of c.grow.self) kept.2 (c.grow.invariant.writable version all));
    }

pub returns-in-Err-clause-filled : goal.returns-in-Err-clause-filled
returns-in-Err-clause-filled g c = λ live honest version linked all.
    let rests = (rests_yet _ c.in-Err.ensures.error_contract.after live).0 in
    let it = c.args.self.now in
    let v = version_of it in
    let kept = g.met.H.GrowsChains.grows_keep _ _ _ _ c.grow.invariant.grows.3 in
    let bytes = (g.met.H.HasSectors.rests_keep _ _ rests).2 (subst IsTrue (sym kept.0) honest) in
    ap (λ b. joined v b (sectors_of c.append_sector.new.self)) bytes
    ∙ subst (λ s. joined v (g.H.HasSectors.bytes (holder_of c.grow.self)) s ≡ joined v (g.H.HasSectors.bytes (holder_of it)) (sectors_of it) ++ filling c.args.init (length s - length (sectors_of it)) (sector_len v))
    (sym c.in-Err.ensures.none) (c.grow.invariant.filled honest version linked all)

times : (a b k l : ℕ) → a ≡ b → k ≡ l → a * k ≡ b * l
times a b k l same each = ap (λ n. n * k) same ∙ ap (λ n. b * n) each

pub grow-preserved : goal.grow-preserved
grow-preserved g c =
    let was = c.grow.invariant.grows in
    let grown = c.append_sector.ensures.grows in
    let it = c.args.self.now in
    let mid = c.grow.self in
    let new = c.append_sector.new.self in
    let same = c.grow.invariant.same in
    let then = c.append_sector.ensures.same.same in
    let few : c.num_sectors-in-grow.result - c.num_sectors-had.result ≡ length (sectors_of mid) - length (sectors_of it) = omega (arith, c.num_sectors-in-grow.ensures, c.num_sectors-had.ensures) in
    let kept = g.met.H.GrowsChains.grows_keep _ _ _ _ was.3 in
    let step = g.met.H.GrowsChains.grows_keep _ _ _ _ grown.3 in
    let here = λ (version : g.H.GrowsChains.version (holder_of it) ≡ version_of it). kept.1 ∙ version ∙ sym same.version in
    let able = λ (version : g.H.GrowsChains.version (holder_of it) ≡ version_of it) (all : AreSectorsWritable (g.H.ChangesSectors.may_write (holder_of it)) (version_of it) (sectors_of it)).
    subst (λ u. AreSectorsWritable (g.H.ChangesSectors.may_write (holder_of mid)) u (sectors_of mid)) (sym same.version) (c.grow.invariant.writable version all) in
    record {
      grows = (
        was.0 ++ grown.0,
        was.1 ++ grown.1,
        grown.2 ∙ ap (λ l. l ++ grown.0) was.2 ∙ append_assoc (sectors_of it) was.0 grown.0,
        g.met.H.GrowsChains.grows_then was.0 was.1 grown.0 grown.1 _ _ _ was.3 grown.3,
        λ linked. among_both (sectors_of new) was.1 grown.1 (subst (λ s. AreSubsetOf s was.1) (sym grown.2) (among_more (sectors_of mid) grown.0 was.1 (was.4 linked))) (grown.4 (c.grow.invariant.linked linked)),
      );
      most = omega (arith, c.in_default.ensures.longer, c.grow-test.true, c.num_sectors.ensures);
      least = omega (arith, c.in_default.ensures.longer, c.grow.invariant.least);
      live = c.in_default.ensures.error_contract.live.1;
      orderly = subst IsTrue (sym (step.2 c.in_default.ensures.error_contract.live.1).5) c.grow.invariant.orderly;
      ends = c.in_default.ensures.ends;
      linked = λ linked. c.in_default.ensures.keeps.linked (c.grow.invariant.linked linked);
      writable = λ version all. subst (λ u. AreSectorsWritable (g.H.ChangesSectors.may_write (holder_of new)) u (sectors_of new)) same.version (c.in_default.ensures.keeps.writable (here version) (able version all));
      filled = λ honest version linked all.
          filled_step (version_of it) (version_of mid) c.args.init _ _ (g.H.HasSectors.bytes (holder_of mid)) (g.H.HasSectors.bytes (holder_of new)) (sectors_of it) (sectors_of mid) (sectors_of new) _
          same.version c.in_default.ensures.longer c.grow.invariant.least (times _ _ _ _ few (c.sector_len.ensures ∙ ap sector_len c.version.ensures ∙ ap sector_len same.version)) c.behind.ensures (c.grow.invariant.filled honest version linked all)
          (c.in_default.ensures.filled (subst IsTrue (sym kept.0) honest) (here version) (c.grow.invariant.linked linked) (able version all));
      same = record { holder = then.holder ∙ same.holder; links = then.links ∙ same.links; version = then.version ∙ same.version; init = then.init ∙ same.init };
      position = c.append_sector.ensures.same.position ∙ c.grow.invariant.position;
    }

pub returns-in-Err-clause-stopped : goal.returns-in-Err-clause-stopped
returns-in-Err-clause-stopped g c = λ is.
    let was = c.grow.invariant.grows in
    let size = ap length was.2 ∙ length-append (sectors_of c.args.self.now) was.0 in
    let less = c.grow-test.true in
    let error : c.in-Err.error ≡ Full = cc in
    let full = (c.in-Err.ensures.full_only_if (ap Err error)).1 in
    record {
      more = was.0;
      changed = was.1;
      mid = holder_of c.grow.self;
      grows = was.3;
      live = c.grow.invariant.live;
      short = omega (arith, size, less, c.num_sectors.ensures);
      full = ⊎_elim (λ none. inl none) (λ many. inr (inr (omega (arith, many, less, c.num_sectors.ensures)))) full;
    }

pub returns-in-Err-clause-errors : goal.returns-in-Err-clause-errors
returns-in-Err-clause-errors g c =
    let was = c.grow.invariant in (
      g.met.H.GrowsChains.grows_cause was.grows.0 was.grows.1 _ _ _ c.in-Err.error was.grows.3 was.live c.in-Err.ensures.error_contract.cause,
      ⊎_elim (λ fault. inl fault) (⊎_elim (λ wrong. absurd ((c.in-Err.ensures.refused_only_if (ap Err wrong)).0 was.orderly was.ends)) (λ full. inr full)) c.in-Err.ensures.error_contract.fault,
    )
