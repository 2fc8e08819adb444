use Rattle.std.proofs.Common.{◌≡◌, ◌∙◌, ◌⊎◌, ◌≤◌, arith, false, inl, inr, refl, sym, true, ⊎_elim}
use Rattle.std.proofs.lemmas.Result.{IfErr-weaker}
use Rattle.std.specs.Prelude.{IsTrue}
use Rattle.cfb.specs.Views.{file_case_table, mini_of}
use Rattle.cfb_fat.specs.Tables.{IsJustifiedBySectors}
use Rattle.cfb_medium.specs.Calls.{IsFaultOrInvalidInputIf}
use Rattle.cfb_mini.specs.Views.{allocator_of}
use Rattle.installer.proofs.Begun.{counted_later}
use Rattle.installer.specs.Refusals.{IsFreshFault}
use Rattle.installer_runs.proofs.Copied.{copied_is, copied_survives, fault_uncopied, never_copied, rested_survives, survives_none, uncopied}
use Rattle.installer_runs.specs.Copying.{IsUncopied}
use Rattle.msi.specs.Opened.{file_in}
use Rattle.staged.specs.Staged.{device_of, IsJustifiedByStaged}
use Rattle.installer_runs.proofs.copying.commit_copy.Goals as goal

pub returns-in-Ok-clause-copied : goal.returns-in-Ok-clause-copied
returns-in-Ok-clause-copied g c = λ honest.
    let before : IsTrue (g.D.Device.honest (device_of c.copy_to.new.target)) = rw c.in-Ok.ensures.honest honest in
    copied_is c.args.source.now g.D.Device c.copy_to.new.target c.commit.new.self c.commit.result (c.commit.ensures.published before) (λ P held sound. (c.in-Ok.ensures.copies.beside P held sound honest, λ fit. ((c.in-Ok.ensures.copies.done P held sound fit).1 honest).holds))

pub returns-in-Ok-clause-survives : goal.returns-in-Ok-clause-survives
returns-in-Ok-clause-survives g c = λ honest P held sound.
    let d = g.met.D.Device in
    let before : IsTrue (g.D.Device.honest (device_of c.copy_to.new.target)) = rw c.in-Ok.ensures.honest honest in
    copied_survives g.D.Device (file_case_table (file_in c.args.source.now)) d.counts_now d.rests_keeps d.rests_leaves c.args.medium.now c.copy_to.new.target c.commit.new.self P
    (c.in-Ok.ensures.continues c.args.medium.now (record { device = d.rests_refl _; failed = refl })).device c.commit.ensures.honest c.commit.ensures.failures (c.commit.ensures.crash before)
    (c.in-Ok.ensures.copies.beside P held sound honest, λ fit. ((c.in-Ok.ensures.copies.done P held sound fit).1 honest).holds) c.commit.result (c.commit.ensures.published before)

pub returns-in-Err-clause-survives : goal.returns-in-Err-clause-survives
returns-in-Err-clause-survives g c = λ honest.
    let d = g.met.D.Device in
    survives_none c.args.source.now g.D.Device _ _ (rested_survives g.D.Device (file_case_table (file_in c.args.source.now)) d.counts_now d.rests_keeps d.rests_leaves (device_of c.args.medium.now) (device_of c.copy_to.new.target)
    (c.in-Err.ensures.continues c.args.medium.now (record { device = d.rests_refl _; failed = refl })).device)

pub returns-in-Ok-clause-refused_only_if : goal.returns-in-Ok-clause-refused_only_if
returns-in-Ok-clause-refused_only_if g c = λ P held. IfErr-weaker c.commit.result (IsFaultOrInvalidInputIf ⊥) (IsUncopied c.args.source.now) (λ e fault. fault_uncopied c.args.source.now e fault) c.commit.ensures.errors

pub returns-in-Err-clause-refused_only_if : goal.returns-in-Err-clause-refused_only_if
returns-in-Err-clause-refused_only_if g c = λ P held. uncopied c.args.source.now _ _ c.in-Err.error c.copy_to.new.self P held c.in-Err.ensures.copies

pub returns-in-Ok-clause-counted : goal.returns-in-Ok-clause-counted
returns-in-Ok-clause-counted g c =
    let d = g.met.D.Device in
    let read = (c.in-Ok.ensures.continues c.args.medium.now (record { device = d.rests_refl _; failed = refl })).device in
    let first = (d.rests_keeps _ _ read).counted in
    let second = c.commit.ensures.failures in
    omega (arith, first, second)

pub returns-in-Err-clause-counted : goal.returns-in-Err-clause-counted
returns-in-Err-clause-counted g c =
    let d = g.met.D.Device in
    (d.rests_keeps _ _ (c.in-Err.ensures.continues c.args.medium.now (record { device = d.rests_refl _; failed = refl })).device).counted

pub returns-in-Ok-clause-cause : goal.returns-in-Ok-clause-cause
returns-in-Ok-clause-cause g c = λ healthy.
    let d = g.met.D.Device in
    let mid = c.copy_to.new.target in
    let on = c.in-Ok.ensures.continues c.args.medium.now (record { device = d.rests_refl _; failed = refl }) in
    IfErr-weaker c.commit.result (IsJustifiedByStaged mid c.commit.new.self)
    (λ e. IsJustifiedBySectors (allocator_of (mini_of (file_in c.args.source.now))) (allocator_of (mini_of (file_in c.copy_to.new.self))) e ⊎ IsFreshFault g.D.Device (device_of c.args.medium.now) (device_of c.commit.new.self) e)
    (λ e cause. inr (
      counted_later g.D.Device (device_of c.args.medium.now) (device_of mid) (device_of c.commit.new.self) e (d.rests_keeps _ _ on.device).counted (cause mid (record { device = d.rests_refl _; failed = refl })).device c.commit.ensures.failures,
      λ is. (let never : false ≡ true = sym healthy ∙ (cause c.args.medium.now on).earlier is in cc),
    ))
    c.commit.ensures.cause

pub returns-in-Err-clause-cause : goal.returns-in-Err-clause-cause
returns-in-Err-clause-cause g c = λ healthy.
    let d = g.met.D.Device in
    ⊎_elim (λ below. inl below) (λ since.
    let own = since c.args.medium.now (record { device = d.rests_refl _; failed = refl }) in
    inr (own.device, λ is. (let never : false ≡ true = sym healthy ∙ own.earlier is in cc))) c.in-Err.ensures.cause

pub returns-in-Ok-clause-unsound : goal.returns-in-Ok-clause-unsound
returns-in-Ok-clause-unsound g c = λ unsound. absurd (never_copied c.args.source.now c.copy_to.new.self _ _ _ c.in-Ok.ensures.copies unsound)

pub returns-in-Ok-clause-left : goal.returns-in-Ok-clause-left
returns-in-Ok-clause-left g c = λ honest unsound. absurd (never_copied c.args.source.now c.copy_to.new.self _ _ _ c.in-Ok.ensures.copies unsound)

pub returns-in-Err-clause-left : goal.returns-in-Err-clause-left
returns-in-Err-clause-left g c = λ honest unsound.
    let d = g.met.D.Device in
    rested_survives g.D.Device (file_case_table (file_in c.args.source.now)) d.counts_now d.rests_keeps d.rests_leaves (device_of c.args.medium.now) (device_of c.copy_to.new.target)
    (c.in-Err.ensures.continues c.args.medium.now (record { device = d.rests_refl _; failed = refl })).device
