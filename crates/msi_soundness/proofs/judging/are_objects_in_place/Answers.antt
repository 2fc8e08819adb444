use Rattle.std.specs.Prelude.{All, IsTrue}
use Rattle.cfb.specs.Views.{file_case_table}
use Rattle.msi_spec.specs.Package.{objects}
use Rattle.msi_parts.specs.Judged.{is_in_place}
use Rattle.msi_schema.specs.Headings.{headings_in}
use Rattle.msi_soundness.proofs.Unread.{unread_answers}
use Rattle.msi_soundness.proofs.judging.are_objects_in_place.Goals as goal

pub returns-in-Err-clause-answer : goal.returns-in-Err-clause-answer
returns-in-Err-clause-answer g c tree held =
    unread_answers c.in-Err.error (All (λ o. IsTrue (is_in_place (file_case_table c.args.file.now) (headings_in c.args.tables.now) o)) (objects tree.content))
    c.no_unless_fault.result c.no_unless_fault.ensures (λ other place. other (c.in-Err.ensures.answer tree held))
