use Rattle.std.proofs.Common.{◌≡◌, ◌∙◌, ◌⊎◌, [], ap, false, inl, inr, length, refl, sym, true}
use Rattle.std.proofs.lemmas.List.{nil_from_length}
use Rattle.std.proofs.lemmas.Result.{IfErr-weaker}
use Rattle.std.specs.Prelude.{IsTrue}
use Rattle.cfb.specs.Views.{file_case_table, mini_of}
use Rattle.cfb_fat.specs.Tables.{IsJustifiedBySectors}
use Rattle.cfb_medium.specs.declared.error.Error.TheVariants.{AlreadyExists, Device, Failed}
use Rattle.cfb_mini.specs.Views.{allocator_of}
use Rattle.installer_runs.proofs.Copied.{cause_along, copied_there, count_along, rested_survives, survives_along, survives_between, survives_none}
use Rattle.installer_runs.specs.Copying.{IsUncopied}
use Rattle.msi.specs.Opened.{file_in}
use Rattle.staged.specs.Staged.{device_of, staged_bytes}
use Rattle.installer_runs.proofs.copying.copy_over.Goals as goal

pub returns-in-Ok-eq0-clause-copied : goal.returns-in-Ok-eq0-clause-copied
returns-in-Ok-eq0-clause-copied g c = λ honest.
    let after : IsTrue (g.D.Device.honest (device_of c.len.new.self)) = rw c.len.ensures.honest honest in
    let none : length (staged_bytes c.args.medium) ≡ 0 = sym (c.in-Ok-eq0.ensures.length honest) ∙ c.in-Ok-eq0.field-0-test in
    copied_there c.args.source.now g.D.Device c.commit_copy-copied.result (staged_bytes c.args.medium ≡ []) (device_of c.commit_copy-copied.new.medium) c.into_device.result c.into_device.ensures.device
    (nil_from_length (staged_bytes c.args.medium) none) (c.commit_copy-copied.ensures.copied after)

pub returns-in-Ok-eq0-clause-survives : goal.returns-in-Ok-eq0-clause-survives
returns-in-Ok-eq0-clause-survives g c = λ honest.
    let after : IsTrue (g.D.Device.honest (device_of c.len.new.self)) = rw c.len.ensures.honest honest in
    survives_along c.args.source.now g.D.Device (device_of c.len.new.self) (device_of c.args.medium) (device_of c.commit_copy-copied.new.medium) c.into_device.result c.len.ensures.quiet c.into_device.ensures.device
    (c.commit_copy-copied.ensures.survives after)

pub returns-in-Ok-clause-survives : goal.returns-in-Ok-clause-survives
returns-in-Ok-clause-survives g c = λ honest.
    let d = g.met.D.Device in
    survives_none c.args.source.now g.D.Device _ _ (rw c.into_device-in-Ok.ensures.device (rested_survives g.D.Device (file_case_table (file_in c.args.source.now)) d.counts_now d.rests_keeps d.rests_leaves (device_of c.args.medium) (device_of c.len.new.self)
    (c.len.ensures.continues c.args.medium (record { device = d.rests_refl _; failed = refl })).device))

pub returns-in-Ok-clause-kept : goal.returns-in-Ok-clause-kept
returns-in-Ok-clause-kept g c = λ honest other.
    let d = g.met.D.Device in
    rw c.into_device-in-Ok.ensures.device (rested_survives g.D.Device (file_case_table (file_in c.args.source.now)) d.counts_now d.rests_keeps d.rests_leaves (device_of c.args.medium) (device_of c.len.new.self)
    (c.len.ensures.continues c.args.medium (record { device = d.rests_refl _; failed = refl })).device)

pub returns-in-Err-clause-survives : goal.returns-in-Err-clause-survives
returns-in-Err-clause-survives g c = λ honest.
    let d = g.met.D.Device in
    survives_none c.args.source.now g.D.Device _ _ (rw c.into_device-in-Err.ensures.device (rested_survives g.D.Device (file_case_table (file_in c.args.source.now)) d.counts_now d.rests_keeps d.rests_leaves (device_of c.args.medium) (device_of c.len.new.self)
    (c.len.ensures.continues c.args.medium (record { device = d.rests_refl _; failed = refl })).device))

pub returns-in-Err-clause-kept : goal.returns-in-Err-clause-kept
returns-in-Err-clause-kept g c = λ honest other.
    let d = g.met.D.Device in
    rw c.into_device-in-Err.ensures.device (rested_survives g.D.Device (file_case_table (file_in c.args.source.now)) d.counts_now d.rests_keeps d.rests_leaves (device_of c.args.medium) (device_of c.len.new.self)
    (c.len.ensures.continues c.args.medium (record { device = d.rests_refl _; failed = refl })).device)

pub returns-in-Ok-eq0-clause-refused_only_if : goal.returns-in-Ok-eq0-clause-refused_only_if
returns-in-Ok-eq0-clause-refused_only_if g c = λ honest P held.
    IfErr-weaker c.commit_copy-copied.result (IsUncopied c.args.source.now) (λ e. ((e ≡ AlreadyExists) × (staged_bytes c.args.medium ≡ [] → ⊥)) ⊎ IsUncopied c.args.source.now e) (λ e un. inr un)
    (c.commit_copy-copied.ensures.refused_only_if P held)

pub returns-in-Ok-eq0-clause-cause : goal.returns-in-Ok-eq0-clause-cause
returns-in-Ok-eq0-clause-cause g c = λ healthy.
    let live = sym (c.len.ensures.continues c.args.medium (record { device = g.met.D.Device.rests_refl _; failed = refl })).failed ∙ healthy in
    cause_along g.D.Device (IsJustifiedBySectors (allocator_of (mini_of (file_in c.args.source.now))) (allocator_of (mini_of (file_in c.commit_copy-copied.new.source)))) c.commit_copy-copied.result (device_of c.len.new.self)
    (device_of c.args.medium) (device_of c.commit_copy-copied.new.medium) c.into_device.result c.len.ensures.quiet c.into_device.ensures.device (c.commit_copy-copied.ensures.cause live)

pub returns-in-Ok-eq0-clause-counted : goal.returns-in-Ok-eq0-clause-counted
returns-in-Ok-eq0-clause-counted g c =
    count_along g.D.Device (device_of c.len.new.self) (device_of c.args.medium) (device_of c.commit_copy-copied.new.medium) c.into_device.result c.len.ensures.quiet c.into_device.ensures.device c.commit_copy-copied.ensures.counted

pub returns-in-Err-clause-refused_only_if : goal.returns-in-Err-clause-refused_only_if
returns-in-Err-clause-refused_only_if g c = λ honest P held. inr (inr (inr (inl c.in-Err.ensures.errors)))

pub returns-in-Err-clause-cause : goal.returns-in-Err-clause-cause
returns-in-Err-clause-cause g c = λ healthy. (let never : true ≡ false = c.in-Err.ensures.answer ∙ healthy in absurd (cc))

pub returns-in-Ok-clause-cause : goal.returns-in-Ok-clause-cause
returns-in-Ok-clause-cause g c = λ healthy. inr (λ is. (let never : AlreadyExists ≡ Device = is in absurd (cc)), λ is. (let never : AlreadyExists ≡ Failed = is in cc))

pub returns-in-Ok-clause-refused_only_if : goal.returns-in-Ok-clause-refused_only_if
returns-in-Ok-clause-refused_only_if g c = λ honest P held. inl (refl, λ empty. c.in-Ok.field-0-test.1 (c.in-Ok.ensures.length honest ∙ ap length empty))

pub returns-in-Ok-eq0-clause-left : goal.returns-in-Ok-eq0-clause-left
returns-in-Ok-eq0-clause-left g c = λ honest unsound.
    let after : IsTrue (g.D.Device.honest (device_of c.len.new.self)) = rw c.len.ensures.honest honest in
    survives_between g.D.Device (file_case_table (file_in c.args.source.now)) (device_of c.len.new.self) (device_of c.args.medium) (device_of c.commit_copy-copied.new.medium) c.into_device.result c.len.ensures.quiet c.into_device.ensures.device
    (c.commit_copy-copied.ensures.left after unsound)

pub returns-in-Ok-clause-left : goal.returns-in-Ok-clause-left
returns-in-Ok-clause-left g c = λ honest unsound.
    let d = g.met.D.Device in
    rw c.into_device-in-Ok.ensures.device (rested_survives g.D.Device (file_case_table (file_in c.args.source.now)) d.counts_now d.rests_keeps d.rests_leaves (device_of c.args.medium) (device_of c.len.new.self)
    (c.len.ensures.continues c.args.medium (record { device = d.rests_refl _; failed = refl })).device)

pub returns-in-Err-clause-left : goal.returns-in-Err-clause-left
returns-in-Err-clause-left g c = λ honest unsound.
    let d = g.met.D.Device in
    rw c.into_device-in-Err.ensures.device (rested_survives g.D.Device (file_case_table (file_in c.args.source.now)) d.counts_now d.rests_keeps d.rests_leaves (device_of c.args.medium) (device_of c.len.new.self)
    (c.len.ensures.continues c.args.medium (record { device = d.rests_refl _; failed = refl })).device)
