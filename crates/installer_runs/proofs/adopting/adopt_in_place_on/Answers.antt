use Rattle.std.proofs.Common.{inl, inr, subst, sym, ⊎_elim}
use Rattle.std.specs.Prelude.{IsTrue}
use Rattle.std.proofs.lemmas.Result.{IfErr-weaker}
use Rattle.cfb_medium.specs.Calls.{IsFaultOrInvalidInputIf}
use Rattle.cfb_tree.specs.CaseTableViews.{case_table_of}
use Rattle.installer.proofs.Begun.{began_survives, counted_later, malformed_or_fault, recovered_fresh}
use Rattle.installer.proofs.Stopping.{survives_alike}
use Rattle.installer_runs.proofs.Adopted.{adopts_behind, adopts_never, adopts_none, bytes_of, refused_behind}
use Rattle.staged.specs.Staged.{device_of, staged_bytes}
use Rattle.installer_runs.proofs.adopting.adopt_in_place_on.Goals as goal

pub returns-in-Ok-clause-adopted : goal.returns-in-Ok-clause-adopted
returns-in-Ok-clause-adopted g c = λ honest tree P holds.
    let after : IsTrue (g.D.Device.honest (device_of c.in-Ok.medium)) = rw c.in-Ok.ensures.honest honest in
    c.adopt_over.ensures.adopted after tree P (bytes_of (case_table_of c.args.letters) g.D.Device c.args.device (staged_bytes c.in-Ok.medium) (c.in-Ok.ensures.bytes honest) tree P holds)

pub returns-in-Ok-clause-survives : goal.returns-in-Ok-clause-survives
returns-in-Ok-clause-survives g c = λ honest may.
    let d = g.met.D.Device in
    let letters = case_table_of c.args.letters in
    let after : IsTrue (g.D.Device.honest (device_of c.in-Ok.medium)) = rw c.in-Ok.ensures.honest honest in
    adopts_behind letters g.D.Device c.args.device (device_of c.in-Ok.medium) c.adopt_over.result.0 (staged_bytes c.in-Ok.medium) (c.in-Ok.ensures.bytes honest)
    (began_survives g.D.Device d.counts_now d.rests_keeps d.rests_leaves c.args.device (device_of c.in-Ok.medium) (device_of c.in-Ok.medium) c.in-Ok.ensures.honest c.in-Ok.ensures.failures c.in-Ok.ensures.stops (d.rests_refl _) letters)
    (c.adopt_over.ensures.survives after may)

pub returns-in-Ok-clause-kept : goal.returns-in-Ok-clause-kept
returns-in-Ok-clause-kept g c = λ honest tree P holds cant.
    adopts_never (case_table_of c.args.letters) g.D.Device c.args.device c.adopt_over.result.0 tree P holds cant (returns-in-Ok-clause-survives g c honest holds.held.usable)

pub returns-in-Ok-clause-refused_only_if : goal.returns-in-Ok-clause-refused_only_if
returns-in-Ok-clause-refused_only_if g c = λ honest tree P holds.
    let letters = case_table_of c.args.letters in
    let after : IsTrue (g.D.Device.honest (device_of c.in-Ok.medium)) = rw c.in-Ok.ensures.honest honest in
    refused_behind letters g.D.Device c.args.device (device_of c.in-Ok.medium) c.adopt_over.result.0 tree P c.in-Ok.ensures.failures c.adopt_over.ensures.counted c.adopt_over.result.1
    (c.adopt_over.ensures.refused_only_if after tree P (bytes_of letters g.D.Device c.args.device (staged_bytes c.in-Ok.medium) (c.in-Ok.ensures.bytes honest) tree P holds))
    (c.adopt_over.ensures.cause c.in-Ok.ensures.sound)

pub returns-in-Err-clause-survives : goal.returns-in-Err-clause-survives
returns-in-Err-clause-survives g c = λ honest may bytes given.
    let letters = case_table_of c.args.letters in
    adopts_none letters g.D.Device bytes c.args.device c.in-Err.device
    (survives_alike letters g.D.Device g.met.D.Device.counts_now _ _ c.in-Err.ensures.err_honest c.in-Err.ensures.err_failures c.in-Err.ensures.stops)

pub returns-in-Err-clause-kept : goal.returns-in-Err-clause-kept
returns-in-Err-clause-kept g c = λ honest tree P holds cant.
    survives_alike (case_table_of c.args.letters) g.D.Device g.met.D.Device.counts_now _ _ c.in-Err.ensures.err_honest c.in-Err.ensures.err_failures c.in-Err.ensures.stops

pub returns-in-Err-clause-refused_only_if : goal.returns-in-Err-clause-refused_only_if
returns-in-Err-clause-refused_only_if g c = λ honest tree P holds. record {
  kind = ⊎_elim (λ malformed. inl malformed) (λ fault. inr (inl (inl (subst (IsFaultOrInvalidInputIf ⊥) (sym fault) tt))))
      (malformed_or_fault g.D.Device c.args.device c.in-Err.device c.in-Err.error c.in-Err.ensures.after_error c.in-Err.ensures.malformed);
  cause = (c.in-Err.ensures.after_error.counted, recovered_fresh c.in-Err.error c.in-Err.ensures.after_error.kind);
}
