use Rattle.std.proofs.Common.{ap, inl, inr, refl, sym, ◌∙◌}
use Rattle.installer.proofs.Answering.{answers_memory, answers_refused, answers_told, cause_own, reads_err, reads_ok, refusal_own, rests_itself}
use Rattle.cfb_medium.specs.declared.error.Error.TheVariants.{NotFound}
use Rattle.command_file.specs.Request as asked
use Rattle.msi_copies.proofs.Columns.{columns_found, columns_lost}
use Rattle.installer.specs.Reply as told
use Rattle.installer.specs.Sessions.{package_in}
use Rattle.msi_spec.specs.Calls.{found_table}
use Rattle.installer.proofs.session.SessionOver.columns.Goals as goal

pub returns-in-None : goal.returns-in-None
returns-in-None g c =
    let G = g.met.F.ReadMedium in
    answers_refused G.continues_refl G.continues_keeps c.args.self.now _ c.requires refl (rests_itself (package_in c.args.self.now)) (asked.columns c.args.name.now) NotFound refl refl
    (cause_own (package_in c.args.self.now) (package_in c.args.self.now) NotFound (refusal_own NotFound (inl refl)))
    (λ P h. inr (reads_err (found_table P c.args.name.now) NotFound (λ t. told.columns t.columns) P (columns_lost (package_in c.args.self.now) P h c.args.name.now (sym c.in-None.ensures))))

pub returns-in-Ok : goal.returns-in-Ok
returns-in-Ok g c =
    let G = g.met.F.ReadMedium in
    answers_told G.continues_refl G.continues_keeps c.args.self.now _ c.requires refl (rests_itself (package_in c.args.self.now)) (asked.columns c.args.name.now) (told.columns _) refl refl refl
    (λ P h.
    let found = columns_found (package_in c.args.self.now) P h c.args.name.now _ (sym c.in-Some.ensures) in
    reads_ok (found_table P c.args.name.now) found.0 (λ t. told.columns t.columns) P _ found.1 (ap (λ columns. told.columns columns) (c.in-Ok.ensures.copies ∙ c.columns.ensures ∙ sym found.2)))

pub returns-in-Err : goal.returns-in-Err
returns-in-Err g c =
    let G = g.met.F.ReadMedium in
    answers_memory G.continues_refl G.continues_keeps c.args.self.now _ c.requires refl (rests_itself (package_in c.args.self.now)) (asked.columns c.args.name.now) c.in-Err.error refl c.in-Err.ensures.errors (λ _. refl)
