use Rattle.std.proofs.Common.{◌≡◌, [], Some, ap, inl, inr, subst, sym, ◌∙◌, ⊎_elim}
use Rattle.std.specs.Prelude.{IsTrue}
use Rattle.cfb_medium.specs.Calls.{IsFaultOrInvalidInputIf}
use Rattle.installer.proofs.Begun.{began_survives, malformed_or_fault, recovered_fresh}
use Rattle.installer.proofs.Stopping.{survives_alike, survives_then}
use Rattle.installer_runs.proofs.Copied.{no_mark}
use Rattle.installer_runs.proofs.Moved.{bytes_refused, published_on}
use Rattle.staged.specs.Staged.{device_of, staged_bytes}
use Rattle.installer_runs.proofs.moving.bytes_on.Goals as goal

pub returns-in-Ok-clause-published : goal.returns-in-Ok-clause-published
returns-in-Ok-clause-published g c = λ honest.
    let after : IsTrue (g.D.Device.honest (device_of c.in-Ok.medium)) = rw c.in-Ok.ensures.honest honest in
    published_on g.D.Device c.args.device c.bytes_over.result.0 c.args.bytes.now (staged_bytes c.in-Ok.medium) (c.in-Ok.ensures.bytes honest) c.bytes_over.result.1 (c.bytes_over.ensures.published after)

pub returns-in-Ok-clause-survives : goal.returns-in-Ok-clause-survives
returns-in-Ok-clause-survives g c = λ honest letters P keeps.
    let d = g.met.D.Device in
    let after : IsTrue (g.D.Device.honest (device_of c.in-Ok.medium)) = rw c.in-Ok.ensures.honest honest in
    let own = c.bytes_over.ensures.survives after letters P keeps in (
      own.0,
      own.1,
      survives_then letters g.D.Device c.args.device (device_of c.in-Ok.medium) c.bytes_over.result.0 [] own.0
          (began_survives g.D.Device d.counts_now d.rests_keeps d.rests_leaves c.args.device (device_of c.in-Ok.medium) (device_of c.in-Ok.medium) c.in-Ok.ensures.honest c.in-Ok.ensures.failures c.in-Ok.ensures.stops (d.rests_refl _) letters) own.2,
    )

pub returns-in-Ok-clause-kept : goal.returns-in-Ok-clause-kept
returns-in-Ok-clause-kept g c = λ honest other letters.
    let d = g.met.D.Device in
    let after : IsTrue (g.D.Device.honest (device_of c.in-Ok.medium)) = rw c.in-Ok.ensures.honest honest in
    survives_then letters g.D.Device c.args.device (device_of c.in-Ok.medium) c.bytes_over.result.0 [] []
    (began_survives g.D.Device d.counts_now d.rests_keeps d.rests_leaves c.args.device (device_of c.in-Ok.medium) (device_of c.in-Ok.medium) c.in-Ok.ensures.honest c.in-Ok.ensures.failures c.in-Ok.ensures.stops (d.rests_refl _) letters)
    (c.bytes_over.ensures.kept after (λ empty. other (c.in-Ok.ensures.bytes honest ∙ ap Some empty)) letters)

pub returns-in-Ok-clause-refused_only_if : goal.returns-in-Ok-clause-refused_only_if
returns-in-Ok-clause-refused_only_if g c = λ honest.
    let after : IsTrue (g.D.Device.honest (device_of c.in-Ok.medium)) = rw c.in-Ok.ensures.honest honest in
    bytes_refused g.D.Device c.args.device (device_of c.in-Ok.medium) c.bytes_over.result.0 (staged_bytes c.in-Ok.medium) (c.in-Ok.ensures.bytes honest) c.in-Ok.ensures.failures c.bytes_over.ensures.counted c.bytes_over.result.1
    (c.bytes_over.ensures.refused_only_if after) (c.bytes_over.ensures.cause c.in-Ok.ensures.sound)

pub returns-in-Err-clause-survives : goal.returns-in-Err-clause-survives
returns-in-Err-clause-survives g c = λ honest letters P keeps.
    ([], no_mark (λ m. m.held ≡ P), survives_alike letters g.D.Device g.met.D.Device.counts_now _ _ c.in-Err.ensures.err_honest c.in-Err.ensures.err_failures c.in-Err.ensures.stops)

pub returns-in-Err-clause-kept : goal.returns-in-Err-clause-kept
returns-in-Err-clause-kept g c = λ honest other letters.
    survives_alike letters g.D.Device g.met.D.Device.counts_now _ _ c.in-Err.ensures.err_honest c.in-Err.ensures.err_failures c.in-Err.ensures.stops

pub returns-in-Err-clause-refused_only_if : goal.returns-in-Err-clause-refused_only_if
returns-in-Err-clause-refused_only_if g c = λ honest. record {
  kind = ⊎_elim (λ malformed. inl malformed) (λ fault. inr (inr (subst (IsFaultOrInvalidInputIf ⊥) (sym fault) tt)))
      (malformed_or_fault g.D.Device c.args.device c.in-Err.device c.in-Err.error c.in-Err.ensures.after_error c.in-Err.ensures.malformed);
  cause = (c.in-Err.ensures.after_error.counted, recovered_fresh c.in-Err.error c.in-Err.ensures.after_error.kind);
}
