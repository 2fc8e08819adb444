use Rattle.std.proofs.Common.{ap, inl, inr, refl, ⊎_elim}
use Rattle.installer.proofs.Answering.{answers_memory, answers_refused, answers_told, cause_own, reads_err, reads_ok, refusal_own}
use Rattle.command_file.specs.Request as asked
use Rattle.installer.specs.Reply as told
use Rattle.installer.specs.Sessions.{package_in}
use Rattle.msi.specs.Rows.{rows_shown}
use Rattle.msi_spec.specs.Calls.{selected_in}
use Rattle.msi_query.specs.Said.{query_of}
use Rattle.installer.proofs.session.SessionOver.select.Goals as goal

pub returns-in-Err : goal.returns-in-Err
returns-in-Err g c =
    let G = g.met.F.ReadMedium in
    answers_refused G.continues_refl G.continues_keeps c.args.self.now _ c.requires refl c.select_rows.ensures.only_reads (asked.select (query_of c.args.select.now)) c.in-Err.error refl refl
    (⊎_elim (λ cause. cause) (λ refused. cause_own (package_in c.args.self.now) c.select_rows.new.self c.in-Err.error (refusal_own c.in-Err.error refused.0)) c.in-Err.ensures.cause)
    (λ P h. ⊎_elim (λ fault. inl fault)
    (λ rule. inr (reads_err (selected_in P (query_of c.args.select.now)) c.in-Err.error (λ s. told.rows s.0 s.1) P rule)) (c.in-Err.ensures.answer P h))

pub returns-in-Ok-values_of_rows : goal.returns-in-Ok-values_of_rows
returns-in-Ok-values_of_rows g c =
    let G = g.met.F.ReadMedium in
    answers_told G.continues_refl G.continues_keeps c.args.self.now _ c.requires refl c.select_rows.ensures.only_reads (asked.select (query_of c.args.select.now)) (told.rows _ _) refl refl refl
    (λ P h. reads_ok (selected_in P (query_of c.args.select.now)) (rows_shown c.in-Ok.rows) (λ s. told.rows s.0 s.1) P _ (c.in-Ok.ensures.answer P h)
    (ap (λ s. told.rows s.0 s.1) c.in-Ok-values_of_rows.ensures.answer))

pub returns-in-Err-values_of_rows : goal.returns-in-Err-values_of_rows
returns-in-Err-values_of_rows g c =
    let G = g.met.F.ReadMedium in
    answers_memory G.continues_refl G.continues_keeps c.args.self.now _ c.requires refl c.select_rows.ensures.only_reads (asked.select (query_of c.args.select.now)) c.in-Err-values_of_rows.error refl c.in-Err-values_of_rows.ensures.errors (λ _. refl)
