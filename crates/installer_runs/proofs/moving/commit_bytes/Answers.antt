use Rattle.std.proofs.Common.{◌≡◌, ◌∙◌, [], arith, false, refl, subst, sym, true}
use Rattle.std.proofs.lemmas.Result.{IfErr-weaker}
use Rattle.std.specs.Prelude.{Err, IsTrue}
use Rattle.cfb_sectors.proofs.Counts.{faults_only}
use Rattle.installer.proofs.Begun.{counted_later}
use Rattle.installer.specs.Refusals.{IsFreshFault}
use Rattle.installer_runs.proofs.Copied.{copied_survives, no_mark, rested_survives}
use Rattle.installer_runs.proofs.Moved.{published_is, written_is}
use Rattle.msi.specs.Committing.{BytesKeepPackage}
use Rattle.staged.specs.Staged.{device_of, staged_bytes, IsJustifiedByStaged}
use Rattle.installer_runs.proofs.moving.commit_bytes.Goals as goal

pub returns-in-Ok-clause-published : goal.returns-in-Ok-clause-published
returns-in-Ok-clause-published g c = λ honest.
    let mid = c.write_at.new.self in
    let before : IsTrue (g.D.Device.honest (device_of mid)) = rw c.in-Ok.ensures.honest honest in
    let same : staged_bytes mid ≡ c.args.bytes.now = written_is (staged_bytes c.args.medium.now) (staged_bytes mid) c.args.bytes.now (c.requires.empty honest) (c.in-Ok.ensures.written honest) in
    published_is g.D.Device mid c.commit.new.self c.args.bytes.now same c.commit.result (c.commit.ensures.published before)

pub returns-in-Ok-clause-survives : goal.returns-in-Ok-clause-survives
returns-in-Ok-clause-survives g c = λ honest letters P keeps.
    let d = g.met.D.Device in
    let mid = c.write_at.new.self in
    let before : IsTrue (g.D.Device.honest (device_of mid)) = rw c.in-Ok.ensures.honest honest in
    let same : staged_bytes mid ≡ c.args.bytes.now = written_is (staged_bytes c.args.medium.now) (staged_bytes mid) c.args.bytes.now (c.requires.empty honest) (c.in-Ok.ensures.written honest) in
    copied_survives g.D.Device letters d.counts_now d.rests_keeps d.rests_leaves c.args.medium.now mid c.commit.new.self P
    (c.in-Ok.ensures.continues c.args.medium.now (record { device = d.rests_refl _; failed = refl })).device c.commit.ensures.honest c.commit.ensures.failures (c.commit.ensures.crash before)
    (subst (λ b. BytesKeepPackage letters b P) (sym same) keeps) c.commit.result (c.commit.ensures.published before)

pub returns-in-Err-clause-survives : goal.returns-in-Err-clause-survives
returns-in-Err-clause-survives g c = λ honest letters P keeps.
    let d = g.met.D.Device in (
      [],
      no_mark (λ m. m.held ≡ P),
      rested_survives g.D.Device letters d.counts_now d.rests_keeps d.rests_leaves (device_of c.args.medium.now) (device_of c.write_at.new.self)
          (c.in-Err.ensures.continues c.args.medium.now (record { device = d.rests_refl _; failed = refl })).device,
    )

pub returns-in-Err-clause-errors : goal.returns-in-Err-clause-errors
returns-in-Err-clause-errors g c = faults_only _ (Err c.in-Err.error) (λ past. omega (arith, past, c.requires.few)) c.in-Err.ensures.errors

pub returns-in-Ok-clause-cause : goal.returns-in-Ok-clause-cause
returns-in-Ok-clause-cause g c = λ healthy.
    let d = g.met.D.Device in
    let mid = c.write_at.new.self in
    let on = c.in-Ok.ensures.continues c.args.medium.now (record { device = d.rests_refl _; failed = refl }) in
    IfErr-weaker c.commit.result (IsJustifiedByStaged mid c.commit.new.self) (λ e. IsFreshFault g.D.Device (device_of c.args.medium.now) (device_of c.commit.new.self) e)
    (λ e cause. (
      counted_later g.D.Device (device_of c.args.medium.now) (device_of mid) (device_of c.commit.new.self) e (d.rests_keeps _ _ on.device).counted (cause mid (record { device = d.rests_refl _; failed = refl })).device c.commit.ensures.failures,
      λ is. (let never : false ≡ true = sym healthy ∙ (cause c.args.medium.now on).earlier is in cc),
    ))
    c.commit.ensures.cause

pub returns-in-Err-clause-cause : goal.returns-in-Err-clause-cause
returns-in-Err-clause-cause g c = λ healthy.
    let own = c.in-Err.ensures.cause c.args.medium.now (record { device = g.met.D.Device.rests_refl _; failed = refl }) in
    (own.device, λ is. (let never : false ≡ true = sym healthy ∙ own.earlier is in cc))

pub returns-in-Ok-clause-counted : goal.returns-in-Ok-clause-counted
returns-in-Ok-clause-counted g c =
    let d = g.met.D.Device in
    let read = (c.in-Ok.ensures.continues c.args.medium.now (record { device = d.rests_refl _; failed = refl })).device in
    let first = (d.rests_keeps _ _ read).counted in
    let second = c.commit.ensures.failures in
    omega (arith, first, second)

pub returns-in-Err-clause-counted : goal.returns-in-Err-clause-counted
returns-in-Err-clause-counted g c =
    let d = g.met.D.Device in
    (d.rests_keeps _ _ (c.in-Err.ensures.continues c.args.medium.now (record { device = d.rests_refl _; failed = refl })).device).counted
