use Rattle.std.proofs.Common.{subst}
use Rattle.cfb.specs.Views.{file_case_table}
use Rattle.msi_changes.specs.Laws.{uses_in}
use Rattle.msi_spec.specs.Uses.{TakesUses}
use Rattle.msi_tables.specs.Held.{heading_of, rows_held}
use Rattle.msi_soundness.proofs.Taken.{read_taken, unread_taken}
use Rattle.msi_soundness.proofs.Told.{no_rows}
use Rattle.msi_soundness.proofs.Unread.{unread_ok}
use Rattle.msi_soundness.specs.Counting.{RefcountsTaken}
use Rattle.msi_soundness.proofs.counting.take_uses.Goals as goal

pub returns-in-Ok-clause-answer : goal.returns-in-Ok-clause-answer
returns-in-Ok-clause-answer g c tree held =
    let old = c.args.left.now in
    let new = c.take_rows.new.left in
    read_taken (file_case_table c.args.file.now) tree (heading_of c.args.table.now) (rows_held c.in-Ok.rows.items) old new c.take_rows.result (c.in-Ok.ensures.answer tree held)
    (subst (λ rows. TakesUses (uses_in (rows_held rows)) old new c.take_rows.result) c.deref.ensures.value c.take_rows.ensures)

pub returns-in-Err-clause-answer : goal.returns-in-Err-clause-answer
returns-in-Err-clause-answer g c tree held =
    let letters = file_case_table c.args.file.now in
    let h = heading_of c.args.table.now in
    let left = c.args.left.now in
    unread_ok c.in-Err.error (RefcountsTaken letters tree h left left) c.no_unless_fault.result c.no_unless_fault.ensures
    (λ other. unread_taken letters tree h left left (no_rows letters tree h c.in-Err.error (c.in-Err.ensures.answer tree held) other))
