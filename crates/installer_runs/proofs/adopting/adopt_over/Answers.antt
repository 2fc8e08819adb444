use Rattle.std.proofs.Common.{◌≡◌, ◌∙◌, arith, false, inl, refl, subst, sym, true}
use Rattle.std.proofs.lemmas.Result.{IfErr-weaker}
use Rattle.std.specs.Prelude.{IsTrue}
use Rattle.cfb_medium.specs.Calls.{IsFaultOrInvalidInputIf}
use Rattle.cfb_tree.specs.CaseTableViews.{case_table_of}
use Rattle.installer.proofs.Begun.{counted_later}
use Rattle.installer.specs.Refusals.{IsFreshFault}
use Rattle.installer_runs.proofs.Adopted.{adopts_from, adopts_none, adopts_there, fresh_at, keeps_sound, too_long}
use Rattle.installer_runs.proofs.Copied.{copied_survives, rested_survives}
use Rattle.installer_runs.specs.Adopting.{IsTooLongToAdopt}
use Rattle.msi_adopting.specs.Adopted.{IsUnadopted}
use Rattle.staged.specs.Staged.{device_of, staged_bytes, IsJustifiedByStaged}
use Rattle.installer_runs.proofs.adopting.adopt_over.Goals as goal

pub returns-in-Ok-clause-adopted : goal.returns-in-Ok-clause-adopted
returns-in-Ok-clause-adopted g c = λ honest tree P held.
    let last = c.commit_adopted.ensures in
    let after : IsTrue (g.D.Device.honest (device_of c.in-Ok.medium)) = subst IsTrue (sym c.in-Ok.ensures.left.0) honest in
    adopts_there (case_table_of c.args.letters) g.D.Device tree P c.in-Ok.medium last.last c.commit_adopted.result.0 last.given (c.in-Ok.ensures.adopted tree P honest held) c.commit_adopted.result.1 (last.published after)

pub returns-in-Ok-clause-survives : goal.returns-in-Ok-clause-survives
returns-in-Ok-clause-survives g c = λ honest may.
    let d = g.met.D.Device in
    let letters = case_table_of c.args.letters in
    let mid = c.in-Ok.medium in
    let last = c.commit_adopted.ensures in
    let after : IsTrue (g.D.Device.honest (device_of mid)) = subst IsTrue (sym c.in-Ok.ensures.left.0) honest in
    let some = c.in-Ok.ensures.sound honest may in
    adopts_from letters g.D.Device (staged_bytes c.args.medium) (device_of c.args.medium) (device_of last.last) c.commit_adopted.result.0 last.given (staged_bytes mid) some.0 some.1
    (λ tree P held. c.in-Ok.ensures.adopted tree P honest held)
    (copied_survives g.D.Device letters d.counts_now d.rests_keeps d.rests_leaves c.args.medium mid last.last some.0
    (c.in-Ok.ensures.left.1 c.args.medium (record { device = d.rests_refl _; failed = refl })).device last.honest last.counted (last.crash after) (keeps_sound letters (staged_bytes mid) some.0 some.1)
    c.commit_adopted.result.1 (last.published after))

pub returns-in-Ok-clause-refused_only_if : goal.returns-in-Ok-clause-refused_only_if
returns-in-Ok-clause-refused_only_if g c = λ honest tree P held.
    IfErr-weaker c.commit_adopted.result.1 (IsFaultOrInvalidInputIf ⊥) (IsUnadopted (case_table_of c.args.letters) tree P (IsTooLongToAdopt P)) (λ e fault. inl (inl fault)) c.commit_adopted.ensures.errors

pub returns-in-Ok-clause-cause : goal.returns-in-Ok-clause-cause
returns-in-Ok-clause-cause g c = λ healthy.
    let d = g.met.D.Device in
    let mid = c.in-Ok.medium in
    let last = c.commit_adopted.ensures in
    let on = c.in-Ok.ensures.left.1 c.args.medium (record { device = d.rests_refl _; failed = refl }) in
    fresh_at (case_table_of c.args.letters) g.D.Device c.commit_adopted.result.1 (device_of c.args.medium) (device_of last.last) c.commit_adopted.result.0 last.given
    (IfErr-weaker c.commit_adopted.result.1 (IsJustifiedByStaged mid last.last) (λ e. IsFreshFault g.D.Device (device_of c.args.medium) (device_of last.last) e)
    (λ e cause. (
      counted_later g.D.Device (device_of c.args.medium) (device_of mid) (device_of last.last) e (d.rests_keeps _ _ on.device).counted (cause mid (record { device = d.rests_refl _; failed = refl })).device last.counted,
      λ is. (let never : false ≡ true = sym healthy ∙ (cause c.args.medium on).earlier is in cc),
    ))
    last.cause)

pub returns-in-Ok-clause-counted : goal.returns-in-Ok-clause-counted
returns-in-Ok-clause-counted g c =
    let d = g.met.D.Device in
    let last = c.commit_adopted.ensures in
    let read = (c.in-Ok.ensures.left.1 c.args.medium (record { device = d.rests_refl _; failed = refl })).device in
    let first = (d.rests_keeps _ _ read).counted in
    let second = last.counted in
    rw last.given (omega (arith, first, second))

pub returns-in-Err-clause-survives : goal.returns-in-Err-clause-survives
returns-in-Err-clause-survives g c = λ honest may.
    let d = g.met.D.Device in
    let letters = case_table_of c.args.letters in
    rw c.into_device.ensures.device (adopts_none letters g.D.Device (staged_bytes c.args.medium) (device_of c.args.medium) (device_of c.in-Err.medium)
    (rested_survives g.D.Device letters d.counts_now d.rests_keeps d.rests_leaves (device_of c.args.medium) (device_of c.in-Err.medium)
    (c.in-Err.ensures.left.1 c.args.medium (record { device = d.rests_refl _; failed = refl })).device))

pub returns-in-Err-clause-refused_only_if : goal.returns-in-Err-clause-refused_only_if
returns-in-Err-clause-refused_only_if g c = λ honest tree P held.
    too_long (case_table_of c.args.letters) tree P held.means.0.version c.in-Err.error (c.in-Err.ensures.refused_only_if tree P honest held)

pub returns-in-Err-clause-cause : goal.returns-in-Err-clause-cause
returns-in-Err-clause-cause g c = λ healthy.
    let d = g.met.D.Device in
    let own = c.in-Err.ensures.cause c.args.medium (record { device = d.rests_refl _; failed = refl }) in
    rw c.into_device.ensures.device (own.device, λ is. (let never : false ≡ true = sym healthy ∙ own.earlier is in cc))

pub returns-in-Err-clause-counted : goal.returns-in-Err-clause-counted
returns-in-Err-clause-counted g c =
    let d = g.met.D.Device in
    rw c.into_device.ensures.device (d.rests_keeps _ _ (c.in-Err.ensures.left.1 c.args.medium (record { device = d.rests_refl _; failed = refl })).device).counted
