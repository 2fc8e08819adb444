use Rattle.std.proofs.Common.{ap, refl, ◌∙◌}
use Rattle.installer.proofs.Answering.{answers_told, rests_itself}
use Rattle.command_file.specs.Request as asked
use Rattle.installer.specs.Reply as told
use Rattle.installer.specs.Sessions.{package_in}
use Rattle.msi_pool.specs.Pool.{Pool}
use Rattle.installer.proofs.session.SessionOver.codepage.Goals as goal

pub returns : goal.returns
returns g c =
    let G = g.met.F.ReadMedium in
    answers_told G.continues_refl G.continues_keeps c.args.self.now _ c.requires refl (rests_itself (package_in c.args.self.now)) asked.codepage (told.codepage _) refl refl refl
    (λ P h. (refl, ap (λ page. told.codepage page) (c.database_codepage.ensures ∙ ap (λ (p : Pool). p.page) h.memory.pool)))
