use Rattle.std.proofs.Common.{◌≡◌, ◌∙◌, ◌⊎◌, [], ap, false, inl, inr, length, refl, sym, true}
use Rattle.std.proofs.lemmas.List.{nil_from_length}
use Rattle.std.proofs.lemmas.Result.{IfErr-weaker}
use Rattle.std.specs.Prelude.{IsTrue}
use Rattle.cfb_medium.specs.Calls.{IsFaultOrInvalidInputIf}
use Rattle.cfb_medium.specs.declared.error.Error.TheVariants.{AlreadyExists, Device, Failed}
use Rattle.installer_runs.proofs.Copied.{count_along, no_mark, rested_survives}
use Rattle.installer_runs.proofs.Moved.{bytes_along, fresh_along, published_there}
use Rattle.staged.specs.Staged.{device_of, staged_bytes}
use Rattle.installer_runs.proofs.moving.bytes_over.Goals as goal

pub returns-in-Ok-eq0-clause-published : goal.returns-in-Ok-eq0-clause-published
returns-in-Ok-eq0-clause-published g c = λ honest.
    let after : IsTrue (g.D.Device.honest (device_of c.len.new.self)) = rw c.len.ensures.honest honest in
    let none : length (staged_bytes c.args.medium) ≡ 0 = sym (c.in-Ok-eq0.ensures.length honest) ∙ c.in-Ok-eq0.field-0-test in
    published_there g.D.Device c.args.bytes.now c.commit_bytes-kept.result (staged_bytes c.args.medium ≡ []) (device_of c.commit_bytes-kept.new.medium) c.into_device.result c.into_device.ensures.device
    (nil_from_length (staged_bytes c.args.medium) none) (c.commit_bytes-kept.ensures.published after)

pub returns-in-Ok-eq0-clause-survives : goal.returns-in-Ok-eq0-clause-survives
returns-in-Ok-eq0-clause-survives g c = λ honest.
    let after : IsTrue (g.D.Device.honest (device_of c.len.new.self)) = rw c.len.ensures.honest honest in
    bytes_along g.D.Device c.args.bytes.now (device_of c.len.new.self) (device_of c.args.medium) (device_of c.commit_bytes-kept.new.medium) c.into_device.result c.len.ensures.quiet c.into_device.ensures.device
    (c.commit_bytes-kept.ensures.survives after)

pub returns-in-Ok-clause-survives : goal.returns-in-Ok-clause-survives
returns-in-Ok-clause-survives g c = λ honest letters P keeps.
    let d = g.met.D.Device in (
      [],
      no_mark (λ m. m.held ≡ P),
      rw c.into_device-in-Ok.ensures.device (rested_survives g.D.Device letters d.counts_now d.rests_keeps d.rests_leaves (device_of c.args.medium) (device_of c.len.new.self)
          (c.len.ensures.continues c.args.medium (record { device = d.rests_refl _; failed = refl })).device),
    )

pub returns-in-Err-clause-survives : goal.returns-in-Err-clause-survives
returns-in-Err-clause-survives g c = λ honest letters P keeps.
    let d = g.met.D.Device in (
      [],
      no_mark (λ m. m.held ≡ P),
      rw c.into_device-in-Err.ensures.device (rested_survives g.D.Device letters d.counts_now d.rests_keeps d.rests_leaves (device_of c.args.medium) (device_of c.len.new.self)
          (c.len.ensures.continues c.args.medium (record { device = d.rests_refl _; failed = refl })).device),
    )

pub returns-in-Ok-eq0-clause-kept : goal.returns-in-Ok-eq0-clause-kept
returns-in-Ok-eq0-clause-kept g c = λ honest other letters.
    absurd (other (nil_from_length (staged_bytes c.args.medium) (sym (c.in-Ok-eq0.ensures.length honest) ∙ c.in-Ok-eq0.field-0-test)))

pub returns-in-Ok-clause-kept : goal.returns-in-Ok-clause-kept
returns-in-Ok-clause-kept g c = λ honest other letters.
    let d = g.met.D.Device in
    rw c.into_device-in-Ok.ensures.device (rested_survives g.D.Device letters d.counts_now d.rests_keeps d.rests_leaves (device_of c.args.medium) (device_of c.len.new.self)
    (c.len.ensures.continues c.args.medium (record { device = d.rests_refl _; failed = refl })).device)

pub returns-in-Err-clause-kept : goal.returns-in-Err-clause-kept
returns-in-Err-clause-kept g c = λ honest other letters.
    let d = g.met.D.Device in
    rw c.into_device-in-Err.ensures.device (rested_survives g.D.Device letters d.counts_now d.rests_keeps d.rests_leaves (device_of c.args.medium) (device_of c.len.new.self)
    (c.len.ensures.continues c.args.medium (record { device = d.rests_refl _; failed = refl })).device)

pub returns-in-Ok-eq0-clause-refused_only_if : goal.returns-in-Ok-eq0-clause-refused_only_if
returns-in-Ok-eq0-clause-refused_only_if g c = λ honest.
    IfErr-weaker c.commit_bytes-kept.result (IsFaultOrInvalidInputIf ⊥) (λ e. ((e ≡ AlreadyExists) × (staged_bytes c.args.medium ≡ [] → ⊥)) ⊎ IsFaultOrInvalidInputIf ⊥ e) (λ e fault. inr fault) c.commit_bytes-kept.ensures.errors

pub returns-in-Ok-clause-refused_only_if : goal.returns-in-Ok-clause-refused_only_if
returns-in-Ok-clause-refused_only_if g c = λ honest. inl (refl, λ empty. c.in-Ok.field-0-test.1 (c.in-Ok.ensures.length honest ∙ ap length empty))

pub returns-in-Err-clause-refused_only_if : goal.returns-in-Err-clause-refused_only_if
returns-in-Err-clause-refused_only_if g c = λ honest. inr c.in-Err.ensures.errors

pub returns-in-Ok-eq0-clause-cause : goal.returns-in-Ok-eq0-clause-cause
returns-in-Ok-eq0-clause-cause g c = λ healthy.
    let live = sym (c.len.ensures.continues c.args.medium (record { device = g.met.D.Device.rests_refl _; failed = refl })).failed ∙ healthy in
    fresh_along g.D.Device c.commit_bytes-kept.result (device_of c.len.new.self) (device_of c.args.medium) (device_of c.commit_bytes-kept.new.medium) c.into_device.result c.len.ensures.quiet c.into_device.ensures.device
    (c.commit_bytes-kept.ensures.cause live)

pub returns-in-Ok-clause-cause : goal.returns-in-Ok-clause-cause
returns-in-Ok-clause-cause g c = λ healthy. (λ is. (let never : AlreadyExists ≡ Device = is in absurd (cc)), λ is. (let never : AlreadyExists ≡ Failed = is in cc))

pub returns-in-Err-clause-cause : goal.returns-in-Err-clause-cause
returns-in-Err-clause-cause g c = λ healthy. (let never : true ≡ false = c.in-Err.ensures.answer ∙ healthy in absurd (cc))

pub returns-in-Ok-eq0-clause-counted : goal.returns-in-Ok-eq0-clause-counted
returns-in-Ok-eq0-clause-counted g c =
    count_along g.D.Device (device_of c.len.new.self) (device_of c.args.medium) (device_of c.commit_bytes-kept.new.medium) c.into_device.result c.len.ensures.quiet c.into_device.ensures.device c.commit_bytes-kept.ensures.counted
