use Rattle.std.proofs.Common.{◌≡◌, inl, inr, [], ◌∙◌, sym, subst, refl, arith, Result, Ok, Err, IfOk, OnOk, ⊎_elim}
use Rattle.std.proofs.lemmas.List.{append-nil}
use Rattle.cfb_chains.specs.ChainViews.{holder_of, position_of, sectors_of, version_of}
use Rattle.cfb_chains.specs.Grown.{AreSectorsWritable, IsChainInTable}
use Rattle.cfb_chains.proofs.ChainGrowing.{either_there, ends_here, writable_still}
use Rattle.cfb_chains.proofs.chain.Chain.write.Goals as goal

on_ok : {T E : Type 0} (r : Result T E) (P : Type 0) → P → OnOk r P
on_ok (Ok x) P p = p
on_ok (Err e) P p = tt

under : {T E : Type 0} (r : Result T E) (A B : Type 0) (P : T → Type 0) → IfOk r P → IfOk r (λ x. A → B → P x)
under (Ok x) A B P p = λ a b. p
under (Err e) A B P p = tt

pub returns-then-self-len-clause-grows : goal.returns-then-self-len-clause-grows
returns-then-self-len-clause-grows g c =
    let it = c.args.self.now in
    let new = c.write_inside.new.self in
    let same = c.write_inside.ensures.same.sectors in (
      [],
      [],
      holder_of it,
      same ∙ sym (append-nil (sectors_of it)),
      g.met.H.GrowsChains.grows_rest [] (holder_of it) (holder_of it) (g.met.H.HasSectors.rests_refl (holder_of it)),
      (λ linked n none k below same. absurd (omega (arith, below))),
      ends_here (either_there (λ p b. g.H.ChangesSectors.writes p b (holder_of it) (holder_of new)) _ (version_of it) (version_of it) (sectors_of new) (sectors_of it) _ (position_of it) (position_of it)
          refl (sym same) refl c.write_inside.ensures.either),
    )

pub returns-then-self-len-clause-keeps : goal.returns-then-self-len-clause-keeps
returns-then-self-len-clause-keeps g c = on_ok c.write_inside.result _ (
    let fat : g.H.FreesChains.fat (holder_of c.write_inside.new.self) ≡ g.H.FreesChains.fat (holder_of c.args.self.now) =
    ⊎_elim (λ w. (g.met.H.FreesChains.writes_keep_tables _ _ _ _ w).0) (λ r. (g.met.H.FreesChains.rests_keep_tables _ _ r).0) c.write_inside.ensures.either in
    let then = g.H.ChangesSectors.may_write (holder_of c.write_inside.new.self) in
    let v = version_of c.args.self.now in
    record {
      linked = λ linked. subst (λ f. IsChainInTable f (sectors_of c.write_inside.new.self)) (sym fat) (subst (IsChainInTable (g.H.FreesChains.fat (holder_of c.args.self.now))) (sym c.write_inside.ensures.same.sectors) linked);
      writable = λ version all. subst (AreSectorsWritable then v) (sym c.write_inside.ensures.same.sectors)
          (writable_still (g.H.ChangesSectors.may_write (holder_of c.args.self.now)) then v (sectors_of c.args.self.now) c.write_inside.ensures.still all);
    })

pub returns-then-not-is_empty-clause-appended : goal.returns-then-not-is_empty-clause-appended
returns-then-not-is_empty-clause-appended g c = under c.write_behind.result _ _ _ c.write_behind.ensures.written

pub returns-then-is_failed-clause-grows : goal.returns-then-is_failed-clause-grows
returns-then-is_failed-clause-grows g c =
    let it = c.args.self.now in
    let rests = g.met.H.HasSectors.rests_refl (holder_of it) in
    ([], [], holder_of it, sym (append-nil (sectors_of it)), g.met.H.GrowsChains.grows_rest [] (holder_of it) (holder_of it) rests, (λ linked n none k below same. absurd (omega (arith, below))), inr (inl rests))

pub returns-clause-grows : goal.returns-clause-grows
returns-clause-grows g c =
    let it = c.args.self.now in
    let rests = g.met.H.HasSectors.rests_refl (holder_of it) in
    ([], [], holder_of it, sym (append-nil (sectors_of it)), g.met.H.GrowsChains.grows_rest [] (holder_of it) (holder_of it) rests, (λ linked n none k below same. absurd (omega (arith, below))), inr (inl rests))
