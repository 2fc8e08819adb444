use Rattle.std.proofs.Common.{ap, inl, refl}
use Rattle.installer.proofs.Answering.{answers_in_memory, permission_own}
use Rattle.installer.specs.Sessions.{is_failed, is_sound}
use Rattle.installer.specs.Step.{told_of}
use Rattle.msi.specs.Changing.{setting_page}
use Rattle.installer.proofs.session.SessionOver.set_codepage.Goals as goal

pub returns : goal.returns
returns g c =
    let G = g.met.F.ReadMedium in
    let told = c.set_database_codepage.ensures in
    answers_in_memory G.continues_refl G.continues_keeps c.args.self.now _ c.requires refl (setting_page c.args.page) _ _ c.set_database_codepage.result refl
    (λ P Q answer made. inl (made.0, ap told_of made.1)) told.changes told.file
    (permission_own (is_failed c.args.self.now) (is_sound c.args.self.now) c.set_database_codepage.result c.requires told.answer) c.answer_of.ensures
