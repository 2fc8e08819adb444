use Rattle.std.proofs.Common.{ap, refl, ◌∙◌}
use Rattle.installer.proofs.Answering.{answers_memory, answers_told, rests_itself}
use Rattle.command_file.specs.Request as asked
use Rattle.installer.specs.Reply as told
use Rattle.installer.specs.Sessions.{package_in}
use Rattle.msi.proofs.Flushed.{here_live}
use Rattle.installer.proofs.session.SessionOver.tables.Goals as goal

pub returns-in-Err : goal.returns-in-Err
returns-in-Err g c =
    let G = g.met.F.ReadMedium in
    answers_memory G.continues_refl G.continues_keeps c.args.self.now _ c.requires refl (rests_itself (package_in c.args.self.now)) asked.tables c.in-Err.error refl (c.in-Err.ensures.errors (here_live (package_in c.args.self.now) c.requires)) (λ _. refl)

pub returns-in-Ok-names_of_tables : goal.returns-in-Ok-names_of_tables
returns-in-Ok-names_of_tables g c =
    let G = g.met.F.ReadMedium in
    answers_told G.continues_refl G.continues_keeps c.args.self.now _ c.requires refl (rests_itself (package_in c.args.self.now)) asked.tables (told.names _) refl refl refl
    (λ P h. (refl, ap (λ names. told.names names) (c.in-Ok-names_of_tables.ensures.names ∙ c.in-Ok.ensures.held P h)))

pub returns-in-Err-names_of_tables : goal.returns-in-Err-names_of_tables
returns-in-Err-names_of_tables g c =
    let G = g.met.F.ReadMedium in
    answers_memory G.continues_refl G.continues_keeps c.args.self.now _ c.requires refl (rests_itself (package_in c.args.self.now)) asked.tables c.in-Err-names_of_tables.error refl c.in-Err-names_of_tables.ensures.errors (λ _. refl)
