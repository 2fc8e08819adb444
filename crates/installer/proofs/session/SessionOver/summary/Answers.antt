use Rattle.std.proofs.Common.{ap, refl, ◌∙◌}
use Rattle.installer.proofs.Answering.{answers_memory, answers_told, rests_itself}
use Rattle.command_file.specs.Request as asked
use Rattle.installer.specs.Reply as told
use Rattle.installer.specs.Sessions.{package_in}
use Rattle.msi_props.specs.Held.{SetState}
use Rattle.msi_props.specs.Props.{Props}
use Rattle.installer.proofs.session.SessionOver.summary.Goals as goal

pub returns-in-Ok : goal.returns-in-Ok
returns-in-Ok g c =
    let G = g.met.F.ReadMedium in
    answers_told G.continues_refl G.continues_keeps c.args.self.now _ c.requires refl (rests_itself (package_in c.args.self.now)) asked.summary (told.summary _) refl refl refl
    (λ P h. (refl, ap (λ values. told.summary values) (c.in-Ok.ensures.copies ∙ c.properties.ensures ∙ ap (λ (s : SetState). s.props.values) c.summary_info.ensures ∙ ap (λ (s : Props). s.values) h.memory.summary)))

pub returns-in-Err : goal.returns-in-Err
returns-in-Err g c =
    let G = g.met.F.ReadMedium in
    answers_memory G.continues_refl G.continues_keeps c.args.self.now _ c.requires refl (rests_itself (package_in c.args.self.now)) asked.summary c.in-Err.error refl c.in-Err.ensures.errors (λ _. refl)
