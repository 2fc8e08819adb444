use Rattle.std.proofs.Common.{ap, inl, refl, ◌∙◌}
use Rattle.installer.proofs.Answering.{answers_memory, answers_refused, answers_told, rests_itself}
use Rattle.command_file.specs.Request as asked
use Rattle.installer.specs.Reply as told
use Rattle.installer.specs.Sessions.{package_in}
use Rattle.installer.proofs.session.SessionOver.streams.Goals as goal

pub returns-in-Err : goal.returns-in-Err
returns-in-Err g c =
    let G = g.met.F.ReadMedium in
    answers_refused G.continues_refl G.continues_keeps c.args.self.now _ c.requires refl (rests_itself (package_in c.args.self.now)) asked.streams c.in-Err.error refl refl c.in-Err.ensures.cause
    (λ P h. inl (c.in-Err.ensures.answer P h))

pub returns-in-Ok-names_of_streams : goal.returns-in-Ok-names_of_streams
returns-in-Ok-names_of_streams g c =
    let G = g.met.F.ReadMedium in
    answers_told G.continues_refl G.continues_keeps c.args.self.now _ c.requires refl (rests_itself (package_in c.args.self.now)) asked.streams (told.names _) refl refl refl
    (λ P h. (refl, ap (λ names. told.names names) (c.in-Ok-names_of_streams.ensures.names ∙ c.in-Ok.ensures.answer P h)))

pub returns-in-Err-names_of_streams : goal.returns-in-Err-names_of_streams
returns-in-Err-names_of_streams g c =
    let G = g.met.F.ReadMedium in
    answers_memory G.continues_refl G.continues_keeps c.args.self.now _ c.requires refl (rests_itself (package_in c.args.self.now)) asked.streams c.in-Err-names_of_streams.error refl c.in-Err-names_of_streams.ensures.errors (λ _. refl)
