use Rattle.std.proofs.Common.{◌≡◌, List, [], Bool, length, sym, subst, ap, ◌∙◌, arith}
use Rattle.std.specs.Prelude.{IsTrue}
use Rattle.staged.specs.Held.{listed}
use Rattle.staged.specs.Files.{Files}
use Rattle.staged.specs.Pages.{EndsAt, HoldsPage}
use Rattle.staged.specs.declared.pages.Page.{Page}
use Rattle.staged.proofs.Settling.{settled_still}
use Rattle.staged.proofs.Staging.{covers_same, ends_none, laid_same}
use Rattle.staged.proofs.staged.StagedMedium.roll_back.Goals as goal

pub invariant_of-self : goal.invariant_of-self
invariant_of-self g c =
    let self = c.args.self.now in
    let was = λ (honest : IsTrue (g.D.Device.honest c.len.new.self)). subst (λ (b : Bool). IsTrue b) c.len.ensures.honest honest in
    let same = λ (honest : IsTrue (g.D.Device.honest c.len.new.self)). c.len.ensures.same (was honest) in
    record {
      home = λ honest sound. ap (λ (f : Files). length f.home) (same honest) ∙ self.home (was honest) sound;
      small = self.small;
      room = self.room;
      covered = self.covered;
      settled = λ honest sound. settled_still g.D.Device g.met.D.Device.counts_now _ _ (g.met.D.Device.rests_leaves _ _ (c.len.ensures.only_reads _ (g.met.D.Device.rests_refl _))) (same honest) (self.settled (was honest) sound);
      past = λ honest sound. subst (λ (f : Files). EndsAt f.home (listed self.pages) self.len) (sym (same honest)) (self.past (was honest) sound);
    }

pub invariant_of-self-2 : goal.invariant_of-self-2
invariant_of-self-2 g c =
    let self = c.args.self.now in
    let was = λ (honest : IsTrue (g.D.Device.honest c.len.new.self)). subst (λ (b : Bool). IsTrue b) c.len.ensures.honest honest in
    let same = λ (honest : IsTrue (g.D.Device.honest c.len.new.self)). c.len.ensures.same (was honest) in
    let size = λ (honest : IsTrue (g.D.Device.honest c.len.new.self)). ap (λ (f : Files). length f.home) (same honest) ∙ sym (c.in_ok-len.ensures.length (was honest)) in
    record {
      home = λ honest sound. size honest;
      small = λ page held. let there : HoldsPage [] page = subst (λ (ps : List Page). HoldsPage ps page) c.clear.ensures held in absurd (cc there);
      room = λ some. let gone : length (listed c.clear.new.self) ≡ 0 = ap (λ (ps : List Page). length ps) c.clear.ensures in absurd (omega arith);
      covered = covers_same _ _ c.clear.ensures;
      settled = λ honest sound. settled_still g.D.Device g.met.D.Device.counts_now _ _ (g.met.D.Device.rests_leaves _ _ (c.len.ensures.only_reads _ (g.met.D.Device.rests_refl _))) (same honest) (self.settled (was honest) sound);
      past = λ honest sound. ends_none _ _ _ c.clear.ensures (size honest);
    }

pub returns-clause-rolled : goal.returns-clause-rolled
returns-clause-rolled g c = λ honest published is.
    let same = c.len.ensures.same honest in
    laid_same (g.D.Device.content c.len.new.self).home (listed c.clear.new.self) c.in_ok-len.len c.clear.ensures (ap (λ (f : Files). length f.home) same ∙ sym (c.in_ok-len.ensures.length honest))
    ∙ ap (λ (f : Files). f.home) same ∙ is.home

pub returns-clause-home : goal.returns-clause-home
returns-clause-home g c = λ honest.
    let same = c.len.ensures.same honest in
    laid_same (g.D.Device.content c.len.new.self).home (listed c.clear.new.self) c.in_ok-len.len c.clear.ensures (ap (λ (f : Files). length f.home) same ∙ sym (c.in_ok-len.ensures.length honest))
    ∙ ap (λ (f : Files). f.home) same
