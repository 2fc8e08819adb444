use Rattle.std.proofs.Common.{◌∙◌, ◌≡◌, ap, false, true, inl, inr, refl, subst, sym, ⊎_elim}
use Rattle.std.specs.Prelude.{IsTrue}
use Rattle.cfb_medium.specs.Calls.{IsFaultOrInvalidInputIf}
use Rattle.cfb_tree.specs.CaseTableViews.{case_table_of}
use Rattle.msi.proofs.OpenAgain.{held_again}
use Rattle.msi.specs.Committing.{BytesKeepPackage}
use Rattle.msi.specs.Opened.{IsOpenedPackage}
use Rattle.msi_spec.specs.Opening.{keeps_encoded_names}
use Rattle.staged.specs.Staged.{device_of, staged_bytes}
use Rattle.installer.proofs.Based.{held_kept, settled_published}
use Rattle.installer.proofs.Begun.{began_counted, began_survives, begins_found, malformed_or_fault, recovered_fresh, recovery_kinds, reopen_fault, same_bytes}
use Rattle.installer.proofs.Following.{published_yet}
use Rattle.installer.proofs.Going.{package_live}
use Rattle.installer.proofs.Stopping.{survives_alike}
use Rattle.installer.proofs.session.SessionOver+Staged+D.open.Goals as goal

pub returns-in-Err-clause-survives : goal.returns-in-Err-clause-survives
returns-in-Err-clause-survives g c =
    survives_alike (case_table_of c.args.letters) g.D.Device g.met.D.Device.counts_now _ _ c.in-Err.ensures.err_honest c.in-Err.ensures.err_failures c.in-Err.ensures.stops

pub returns-in-Ok-open-clause-survives : goal.returns-in-Ok-open-clause-survives
returns-in-Ok-open-clause-survives g c =
    let d = g.met.D.Device in
    let on = c.in-Ok-open.ensures.opens.continues c.in-Ok.medium (record { device = d.rests_refl _; failed = refl }) in
    began_survives g.D.Device d.counts_now d.rests_keeps d.rests_leaves c.args.device (device_of c.in-Ok.medium) _ c.in-Ok.ensures.honest c.in-Ok.ensures.failures c.in-Ok.ensures.stops on.device (case_table_of c.args.letters)

pub returns-in-Ok-open-clause-not_failed : goal.returns-in-Ok-open-clause-not_failed
returns-in-Ok-open-clause-not_failed g c =
    let d = g.met.D.Device in
    let on = c.in-Ok-open.ensures.opens.continues c.in-Ok.medium (record { device = d.rests_refl _; failed = refl }) in
    package_live c.in-Ok-open.package c.in-Ok-open.ensures.opens.live (sym on.failed ∙ c.in-Ok.ensures.sound)

pub returns-in-Ok-open-clause-began : goal.returns-in-Ok-open-clause-began
returns-in-Ok-open-clause-began g c = λ P held.
    let d = g.met.D.Device in
    let on = c.in-Ok-open.ensures.opens.continues c.in-Ok.medium (record { device = d.rests_refl _; failed = refl }) in
    let it = c.in-Ok-open.package in
    let medium = c.in-Ok.medium in
    let bytes = staged_bytes medium in
    let kept = d.rests_keeps (device_of medium) _ on.device in
    let before : IsTrue (g.D.Device.honest (device_of medium)) = subst IsTrue (sym kept.as_honest) held.file.honest in
    let first : IsTrue (g.D.Device.honest c.args.device) = subst IsTrue c.in-Ok.ensures.honest before in
    let opened = c.in-Ok-open.ensures.opened before in
    let live = package_live it c.in-Ok-open.ensures.opens.live (sym on.failed ∙ c.in-Ok.ensures.sound) in
    begins_found _ P live held refl (λ sound. record {
      honest = held.file.honest;
      live = sym on.failed ∙ c.in-Ok.ensures.sound;
      usable = held.usable;
      bytes = bytes;
      published = published_yet d.counts_now d.rests_keeps d.rests_leaves (device_of medium) _ bytes on.device before
          (settled_published g.D.Device (device_of medium) bytes (c.in-Ok.ensures.settled first) (c.in-Ok.ensures.home first));
      found = subst (λ l. BytesKeepPackage l bytes P) (sym opened.compared)
          (held_kept (case_table_of c.args.letters) bytes it opened (ap keeps_encoded_names (sym opened.compared) ∙ held.usable) sound (c.in-Ok-open.ensures.opens.bytes before) P held);
    })

pub returns-in-Ok-open-clause-opened : goal.returns-in-Ok-open-clause-opened
returns-in-Ok-open-clause-opened g c = λ honest.
    let before : IsTrue (g.D.Device.honest (device_of c.in-Ok.medium)) = rw c.in-Ok.ensures.honest honest in
    (staged_bytes c.in-Ok.medium, c.in-Ok.ensures.bytes honest, c.in-Ok-open.ensures.opened before)

pub returns-in-Ok-open-clause-reopens : goal.returns-in-Ok-open-clause-reopens
returns-in-Ok-open-clause-reopens g c = λ honest bytes P given holds.
    let before : IsTrue (g.D.Device.honest (device_of c.in-Ok.medium)) = rw c.in-Ok.ensures.honest honest in
    let letters = case_table_of c.args.letters in
    let same = same_bytes g.D.Device letters c.args.device c.args.device bytes P given holds (staged_bytes c.in-Ok.medium) (c.in-Ok.ensures.bytes honest) in
    held_again letters bytes P holds c.in-Ok-open.package (subst (λ b. IsOpenedPackage letters b c.in-Ok-open.package) same (c.in-Ok-open.ensures.opened before))

pub returns-in-Err-open-clause-survives : goal.returns-in-Err-open-clause-survives
returns-in-Err-open-clause-survives g c =
    let d = g.met.D.Device in
    let on = c.in-Err-open.ensures.left.extends c.in-Ok.medium (record { device = d.rests_refl _; failed = refl }) in
    rw c.into_device.ensures.device (
    began_survives g.D.Device d.counts_now d.rests_keeps d.rests_leaves c.args.device (device_of c.in-Ok.medium) _ c.in-Ok.ensures.honest c.in-Ok.ensures.failures c.in-Ok.ensures.stops on.device (case_table_of c.args.letters)
    )

pub returns-in-Err-open-clause-refused_only_if : goal.returns-in-Err-open-clause-refused_only_if
returns-in-Err-open-clause-refused_only_if g c =
    let d = g.met.D.Device in
    let on = c.in-Err-open.ensures.left.extends c.in-Ok.medium (record { device = d.rests_refl _; failed = refl }) in
    let cause = c.in-Err-open.ensures.cause c.in-Ok.medium (record { device = d.rests_refl _; failed = refl }) in
    record {
      kind = λ honest.
          let before : IsTrue (g.D.Device.honest (device_of c.in-Ok.medium)) = rw c.in-Ok.ensures.honest honest in
          ⊎_elim (λ fault. inr (inl fault)) (λ refused. inr (inr (staged_bytes c.in-Ok.medium, c.in-Ok.ensures.bytes honest, refused))) (c.in-Err-open.ensures.refused_only_if before);
      told = c.in-Err-open.ensures.errors;
      fault = (
        rw c.into_device.ensures.device (
            began_counted g.D.Device d.counts_now d.rests_keeps d.rests_leaves c.args.device (device_of c.in-Ok.medium) _ c.in-Ok.ensures.honest c.in-Ok.ensures.failures c.in-Ok.ensures.stops on.device c.in-Err-open.error
            cause.device
            ),
        λ is. (let never : false ≡ true = sym c.in-Ok.ensures.sound ∙ cause.earlier is in cc),
      );
    }

pub returns-in-Err-open-clause-reopens : goal.returns-in-Err-open-clause-reopens
returns-in-Err-open-clause-reopens g c = λ honest bytes P given holds.
    let before : IsTrue (g.D.Device.honest (device_of c.in-Ok.medium)) = rw c.in-Ok.ensures.honest honest in
    reopen_fault g.D.Device (case_table_of c.args.letters) c.args.device c.args.device bytes P given holds c.in-Err-open.error honest
    (⊎_elim (λ fault. inr (inl fault)) (λ refused. inr (inr (staged_bytes c.in-Ok.medium, c.in-Ok.ensures.bytes honest, refused))) (c.in-Err-open.ensures.refused_only_if before))

pub returns-in-Err-clause-refused_only_if : goal.returns-in-Err-clause-refused_only_if
returns-in-Err-clause-refused_only_if g c = record {
  kind = λ honest. ⊎_elim (λ malformed. inl malformed) (λ fault. inr (inl (subst (IsFaultOrInvalidInputIf ⊥) (sym fault) tt)))
      (malformed_or_fault g.D.Device c.args.device c.in-Err.refusal.0 c.in-Err.refusal.1 c.in-Err.ensures.after_error c.in-Err.ensures.malformed);
  told = recovery_kinds c.in-Err.refusal.1 c.in-Err.ensures.after_error.kind;
  fault = (c.in-Err.ensures.after_error.counted, recovered_fresh c.in-Err.refusal.1 c.in-Err.ensures.after_error.kind);
}

pub returns-in-Err-clause-reopens : goal.returns-in-Err-clause-reopens
returns-in-Err-clause-reopens g c = λ honest bytes P given holds.
    reopen_fault g.D.Device (case_table_of c.args.letters) c.args.device c.in-Err.refusal.0 bytes P given holds c.in-Err.refusal.1 honest
    (⊎_elim (λ malformed. inl malformed) (λ fault. inr (inl (subst (IsFaultOrInvalidInputIf ⊥) (sym fault) tt)))
    (malformed_or_fault g.D.Device c.args.device c.in-Err.refusal.0 c.in-Err.refusal.1 c.in-Err.ensures.after_error c.in-Err.ensures.malformed))
