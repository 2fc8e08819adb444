use Rattle.std.proofs.Common.{ap, inl, inr, refl, ⊎_elim}
use Rattle.installer.proofs.Answering.{answers_refused, answers_told, reads_err, reads_ok}
use Rattle.command_file.specs.Request as asked
use Rattle.installer.specs.Reply as told
use Rattle.installer.specs.Sessions.{session_case_table}
use Rattle.msi_spec.specs.Streams.{stream_read}
use Rattle.installer.proofs.session.SessionOver.read_stream.Goals as goal

pub returns-in-Ok : goal.returns-in-Ok
returns-in-Ok g c =
    let G = g.met.F.ReadMedium in
    answers_told G.continues_refl G.continues_keeps c.args.self.now _ c.requires refl c.read_stream.ensures.only_reads (asked.read_stream c.args.name.now) (told.bytes _) refl refl refl
    (λ P h. reads_ok (stream_read (session_case_table c.args.self.now) P c.args.name.now) _ (λ bytes. told.bytes bytes) P _ (c.in-Ok.ensures.answer P h) (ap (λ bytes. told.bytes bytes) c.into_bytes.ensures))

pub returns-in-Err : goal.returns-in-Err
returns-in-Err g c =
    let G = g.met.F.ReadMedium in
    answers_refused G.continues_refl G.continues_keeps c.args.self.now _ c.requires refl c.read_stream.ensures.only_reads (asked.read_stream c.args.name.now) c.in-Err.error refl refl c.in-Err.ensures.cause
    (λ P h. ⊎_elim (λ fault. inl fault)
    (λ rule. inr (reads_err (stream_read (session_case_table c.args.self.now) P c.args.name.now) c.in-Err.error (λ bytes. told.bytes bytes) P rule)) (c.in-Err.ensures.answer P h))
