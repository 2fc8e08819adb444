use Rattle.std.proofs.Common.{◌∙◌, ◌≡◌, [], ap, arith, false, inl, inr, length, refl, sym, true, ⊎_elim}
use Rattle.std.proofs.lemmas.List.{nil_from_length}
use Rattle.std.specs.Prelude.{IsTrue, Some}
use Rattle.cfb_tree.specs.CaseTableViews.{case_table_of}
use Rattle.msi.specs.Creating.{IsNewRefusal}
use Rattle.staged.specs.Staged.{device_of, staged_bytes}
use Rattle.installer.proofs.Begun.{began_counted, began_survives, begins_new, device_is_fault, malformed_or_fault, new_refused, recovered_fresh}
use Rattle.installer.proofs.Going.{package_live}
use Rattle.installer.proofs.Stopping.{survives_alike}
use Rattle.installer.proofs.session.SessionOver+Staged+D.create.Goals as goal

pub returns-in-Err-clause-survives : goal.returns-in-Err-clause-survives
returns-in-Err-clause-survives g c =
    survives_alike (case_table_of c.args.letters) g.D.Device g.met.D.Device.counts_now _ _ c.in-Err.ensures.err_honest c.in-Err.ensures.err_failures c.in-Err.ensures.stops

pub returns-in-Err-clause-refused_only_if : goal.returns-in-Err-clause-refused_only_if
returns-in-Err-clause-refused_only_if g c = record {
  kind = ⊎_elim (λ malformed. inl malformed) (λ fault. inr (inr (inr (inl (device_is_fault c.in-Err.error fault)))))
      (malformed_or_fault g.D.Device c.args.device c.in-Err.device c.in-Err.error c.in-Err.ensures.after_error c.in-Err.ensures.malformed);
  fault = (c.in-Err.ensures.after_error.counted, recovered_fresh c.in-Err.error c.in-Err.ensures.after_error.kind);
}

pub returns-in-Ok-len-clause-survives : goal.returns-in-Ok-len-clause-survives
returns-in-Ok-len-clause-survives g c =
    let d = g.met.D.Device in
    rw c.into_device.ensures.device (
    began_survives g.D.Device d.counts_now d.rests_keeps d.rests_leaves c.args.device (device_of c.in-Ok.medium) (device_of c.len.new.self) c.in-Ok.ensures.honest c.in-Ok.ensures.failures c.in-Ok.ensures.stops
    (c.len.ensures.continues c.in-Ok.medium (record { device = d.rests_refl _; failed = refl })).device (case_table_of c.args.letters)
    )

pub returns-in-Err-len-clause-survives : goal.returns-in-Err-len-clause-survives
returns-in-Err-len-clause-survives g c =
    let d = g.met.D.Device in
    rw c.into_device-in-Err-len.ensures.device (
    began_survives g.D.Device d.counts_now d.rests_keeps d.rests_leaves c.args.device (device_of c.in-Ok.medium) (device_of c.len.new.self) c.in-Ok.ensures.honest c.in-Ok.ensures.failures c.in-Ok.ensures.stops
    (c.len.ensures.continues c.in-Ok.medium (record { device = d.rests_refl _; failed = refl })).device (case_table_of c.args.letters)
    )

pub returns-in-Ok-create-clause-survives : goal.returns-in-Ok-create-clause-survives
returns-in-Ok-create-clause-survives g c =
    let d = g.met.D.Device in
    let on = c.in-Ok-create.ensures.created.continues c.in-Ok.medium (c.len.ensures.continues c.in-Ok.medium (record { device = d.rests_refl _; failed = refl })) in
    began_survives g.D.Device d.counts_now d.rests_keeps d.rests_leaves c.args.device (device_of c.in-Ok.medium) _ c.in-Ok.ensures.honest c.in-Ok.ensures.failures c.in-Ok.ensures.stops on.device (case_table_of c.args.letters)

pub returns-in-Ok-create-clause-sound : goal.returns-in-Ok-create-clause-sound
returns-in-Ok-create-clause-sound g c =
    let d = g.met.D.Device in
    let on = c.in-Ok-create.ensures.created.continues c.in-Ok.medium (c.len.ensures.continues c.in-Ok.medium (record { device = d.rests_refl _; failed = refl })) in
    (package_live c.in-Ok-create.package c.in-Ok-create.ensures.created.live (sym on.failed ∙ c.in-Ok.ensures.sound), c.in-Ok-create.ensures.created.sound)

pub returns-in-Ok-create-clause-began : goal.returns-in-Ok-create-clause-began
returns-in-Ok-create-clause-began g c = λ honest.
    let d = g.met.D.Device in
    let made = c.in-Ok-create.ensures.created in
    let on = made.continues c.in-Ok.medium (c.len.ensures.continues c.in-Ok.medium (record { device = d.rests_refl _; failed = refl })) in
    let before : IsTrue (g.D.Device.honest (device_of c.in-Ok.medium)) = rw c.in-Ok.ensures.honest honest in
    let after : IsTrue (g.D.Device.honest (device_of c.len.new.self)) = rw c.len.ensures.honest before in
    let none : length (staged_bytes c.in-Ok.medium) ≡ 0 = sym (c.in-Ok-eq0.ensures.length before) ∙ c.in-Ok-eq0.field-0-test in
    let empty : staged_bytes c.in-Ok.medium ≡ [] = nil_from_length (staged_bytes c.in-Ok.medium) none in
    let same : length (staged_bytes c.len.new.self) ≡ 0 = ap length (c.len.ensures.bytes before) ∙ none in
    let held = made.holds after (omega (arith, same)) in
    let live = package_live c.in-Ok-create.package made.live (sym on.failed ∙ c.in-Ok.ensures.sound) in
    (c.in-Ok.ensures.bytes honest ∙ ap (λ bytes. Some bytes) empty, held.0, held.1, held.2, begins_new _ held.0 live held.3 refl)

pub returns-in-Err-create-clause-survives : goal.returns-in-Err-create-clause-survives
returns-in-Err-create-clause-survives g c =
    let d = g.met.D.Device in
    let on = c.in-Err-create.ensures.left.1 c.in-Ok.medium (c.len.ensures.continues c.in-Ok.medium (record { device = d.rests_refl _; failed = refl })) in
    rw c.into_device-in-Err-create.ensures.device (
    began_survives g.D.Device d.counts_now d.rests_keeps d.rests_leaves c.args.device (device_of c.in-Ok.medium) _ c.in-Ok.ensures.honest c.in-Ok.ensures.failures c.in-Ok.ensures.stops on.device (case_table_of c.args.letters)
    )

pub returns-in-Err-create-clause-refused_only_if : goal.returns-in-Err-create-clause-refused_only_if
returns-in-Err-create-clause-refused_only_if g c =
    let d = g.met.D.Device in
    let start = c.len.ensures.continues c.in-Ok.medium (record { device = d.rests_refl _; failed = refl }) in
    let on = c.in-Err-create.ensures.left.1 c.in-Ok.medium start in
    let cause = c.in-Err-create.ensures.cause c.in-Ok.medium start in
    let of_honest : IsTrue (g.D.Device.honest c.args.device) → IsNewRefusal (case_table_of c.args.letters) c.in-Err-create.error = λ honest.
    let before : IsTrue (g.D.Device.honest (device_of c.in-Ok.medium)) = rw c.in-Ok.ensures.honest honest in
    let after : IsTrue (g.D.Device.honest (device_of c.len.new.self)) = rw c.len.ensures.honest before in
    let same : length (staged_bytes c.len.new.self) ≡ 0 = ap length (c.len.ensures.bytes before) ∙ (sym (c.in-Ok-eq0.ensures.length before) ∙ c.in-Ok-eq0.field-0-test) in
    c.in-Err-create.ensures.refused_only_if after (omega (arith, same)) in
    record {
      kind = inr (inr (new_refused (g.D.Device.honest c.args.device) (case_table_of c.args.letters) c.in-Err-create.error of_honest c.in-Err-create.ensures.errors));
      fault = (
        rw c.into_device-in-Err-create.ensures.device (
            began_counted g.D.Device d.counts_now d.rests_keeps d.rests_leaves c.args.device (device_of c.in-Ok.medium) _ c.in-Ok.ensures.honest c.in-Ok.ensures.failures c.in-Ok.ensures.stops on.device c.in-Err-create.error
            cause.device
            ),
        λ is. (let never : false ≡ true = sym c.in-Ok.ensures.sound ∙ cause.earlier is in cc),
      );
    }
