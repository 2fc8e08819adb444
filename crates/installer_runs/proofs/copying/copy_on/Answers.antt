use Rattle.std.proofs.Common.{◌∙◌, [], Some, ap, inl, inr, subst, sym, ⊎_elim}
use Rattle.std.specs.Prelude.{IsTrue}
use Rattle.cfb.specs.Views.{file_case_table}
use Rattle.cfb_medium.specs.Calls.{IsFaultOrInvalidInputIf}
use Rattle.installer.proofs.Begun.{began_survives, malformed_or_fault, recovered_fresh}
use Rattle.installer.proofs.Stopping.{survives_alike, survives_then}
use Rattle.installer_runs.proofs.Copied.{copies_on, copy_refused, survives_behind, survives_none}
use Rattle.msi.specs.Opened.{file_in}
use Rattle.staged.specs.Staged.{device_of, staged_bytes}
use Rattle.installer_runs.proofs.copying.copy_on.Goals as goal

pub returns-in-Ok-clause-survives : goal.returns-in-Ok-clause-survives
returns-in-Ok-clause-survives g c = λ honest.
    let d = g.met.D.Device in
    let after : IsTrue (g.D.Device.honest (device_of c.in-Ok.medium)) = rw c.in-Ok.ensures.honest honest in
    survives_behind c.args.source.now g.D.Device c.args.device (device_of c.in-Ok.medium) c.copy_over.result.0
    (began_survives g.D.Device d.counts_now d.rests_keeps d.rests_leaves c.args.device (device_of c.in-Ok.medium) (device_of c.in-Ok.medium) c.in-Ok.ensures.honest c.in-Ok.ensures.failures c.in-Ok.ensures.stops (d.rests_refl _) (file_case_table (file_in c.args.source.now)))
    (c.copy_over.ensures.survives after)

pub returns-in-Ok-clause-kept : goal.returns-in-Ok-clause-kept
returns-in-Ok-clause-kept g c = λ honest other.
    let d = g.met.D.Device in
    let after : IsTrue (g.D.Device.honest (device_of c.in-Ok.medium)) = rw c.in-Ok.ensures.honest honest in
    survives_then (file_case_table (file_in c.args.source.now)) g.D.Device c.args.device (device_of c.in-Ok.medium) c.copy_over.result.0 [] []
    (began_survives g.D.Device d.counts_now d.rests_keeps d.rests_leaves c.args.device (device_of c.in-Ok.medium) (device_of c.in-Ok.medium) c.in-Ok.ensures.honest c.in-Ok.ensures.failures c.in-Ok.ensures.stops (d.rests_refl _) (file_case_table (file_in c.args.source.now)))
    (c.copy_over.ensures.kept after (λ empty. other (c.in-Ok.ensures.bytes honest ∙ ap Some empty)))

pub returns-in-Err-clause-survives : goal.returns-in-Err-clause-survives
returns-in-Err-clause-survives g c = λ honest.
    survives_none c.args.source.now g.D.Device _ _ (survives_alike (file_case_table (file_in c.args.source.now)) g.D.Device g.met.D.Device.counts_now _ _ c.in-Err.ensures.err_honest c.in-Err.ensures.err_failures c.in-Err.ensures.stops)

pub returns-in-Err-clause-kept : goal.returns-in-Err-clause-kept
returns-in-Err-clause-kept g c = λ honest other.
    survives_alike (file_case_table (file_in c.args.source.now)) g.D.Device g.met.D.Device.counts_now _ _ c.in-Err.ensures.err_honest c.in-Err.ensures.err_failures c.in-Err.ensures.stops

pub returns-in-Ok-clause-refused_only_if : goal.returns-in-Ok-clause-refused_only_if
returns-in-Ok-clause-refused_only_if g c = λ honest P held.
    let after : IsTrue (g.D.Device.honest (device_of c.in-Ok.medium)) = rw c.in-Ok.ensures.honest honest in
    copy_refused c.args.source.now c.copy_over.new.source g.D.Device c.args.device (device_of c.in-Ok.medium) c.copy_over.result.0 (staged_bytes c.in-Ok.medium) (c.in-Ok.ensures.bytes honest) c.in-Ok.ensures.failures
    c.copy_over.ensures.counted c.copy_over.result.1 (c.copy_over.ensures.refused_only_if after P held) (c.copy_over.ensures.cause c.in-Ok.ensures.sound)

pub returns-in-Err-clause-refused_only_if : goal.returns-in-Err-clause-refused_only_if
returns-in-Err-clause-refused_only_if g c = λ honest P held. record {
  kind = ⊎_elim (λ malformed. inl malformed) (λ fault. inr (inr (inr (inr (inl (subst (IsFaultOrInvalidInputIf ⊥) (sym fault) tt))))))
      (malformed_or_fault g.D.Device c.args.device c.in-Err.device c.in-Err.error c.in-Err.ensures.after_error c.in-Err.ensures.malformed);
  cause = inr (c.in-Err.ensures.after_error.counted, recovered_fresh c.in-Err.error c.in-Err.ensures.after_error.kind);
}

pub returns-in-Ok-clause-copied : goal.returns-in-Ok-clause-copied
returns-in-Ok-clause-copied g c = λ honest.
    let after : IsTrue (g.D.Device.honest (device_of c.in-Ok.medium)) = rw c.in-Ok.ensures.honest honest in
    copies_on c.args.source.now g.D.Device c.args.device c.copy_over.result.0 (staged_bytes c.in-Ok.medium) (c.in-Ok.ensures.bytes honest) c.copy_over.result.1 (c.copy_over.ensures.copied after)

pub returns-in-Ok-clause-left : goal.returns-in-Ok-clause-left
returns-in-Ok-clause-left g c = λ honest unsound.
    let d = g.met.D.Device in
    let after : IsTrue (g.D.Device.honest (device_of c.in-Ok.medium)) = rw c.in-Ok.ensures.honest honest in
    survives_then (file_case_table (file_in c.args.source.now)) g.D.Device c.args.device (device_of c.in-Ok.medium) c.copy_over.result.0 [] []
    (began_survives g.D.Device d.counts_now d.rests_keeps d.rests_leaves c.args.device (device_of c.in-Ok.medium) (device_of c.in-Ok.medium) c.in-Ok.ensures.honest c.in-Ok.ensures.failures c.in-Ok.ensures.stops (d.rests_refl _) (file_case_table (file_in c.args.source.now)))
    (c.copy_over.ensures.left after unsound)

pub returns-in-Err-clause-left : goal.returns-in-Err-clause-left
returns-in-Err-clause-left g c = λ honest unsound.
    survives_alike (file_case_table (file_in c.args.source.now)) g.D.Device g.met.D.Device.counts_now _ _ c.in-Err.ensures.err_honest c.in-Err.ensures.err_failures c.in-Err.ensures.stops
