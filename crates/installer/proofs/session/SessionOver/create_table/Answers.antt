use Rattle.std.proofs.Common.{◌∙◌, inl, refl, subst, sym}
use Rattle.std.proofs.lemmas.Bool.{both_ways}
use Rattle.installer.proofs.Answering.{answers_changes, answers_memory, answers_unsound, may_fill, rests_itself}
use Rattle.msi_columns.specs.Held.{columns_of}
use Rattle.msi_spec.specs.Calls.{Creates}
use Rattle.installer.specs.Sessions.{is_sound, session_case_table, package_in}
use Rattle.installer.proofs.session.SessionOver.create_table.Goals as goal

pub returns-in-Ok : goal.returns-in-Ok
returns-in-Ok g c =
    let G = g.met.F.ReadMedium in
    answers_changes G.continues_refl G.continues_keeps c.args.self.now _ c.requires refl (λ P Q answer. Creates (session_case_table c.args.self.now) P c.args.name.now (columns_of c.in-Ok.columns.items) Q answer) _ _
    c.create_table.result refl (λ P Q answer made. inl (answer, subst (λ columns. Creates (session_case_table c.args.self.now) P c.args.name.now columns Q answer) c.in-Ok.ensures.copies made, refl))
    c.create_table.ensures.changes c.create_table.ensures.invariants c.create_table.ensures.cause (may_fill c.create_table.result refl) c.answer_of.ensures

pub returns-in-Err : goal.returns-in-Err
returns-in-Err g c =
    let G = g.met.F.ReadMedium in
    answers_memory G.continues_refl G.continues_keeps c.args.self.now _ c.requires refl (rests_itself (package_in c.args.self.now)) _ c.in-Err.error refl c.in-Err.ensures.errors (λ unsound. absurd (both_ways (is_sound c.args.self.now) unsound (sym c.is_sound.ensures ∙ c.if-not-is_sound.false)))

pub returns-then-not-is_sound : goal.returns-then-not-is_sound
returns-then-not-is_sound g c =
    let G = g.met.F.ReadMedium in
    answers_unsound G.continues_refl G.continues_keeps c.args.self.now _ c.requires refl (rests_itself (package_in c.args.self.now)) _ refl (sym c.is_sound.ensures ∙ c.if-not-is_sound.true)
