use Rattle.std.proofs.Common.{◌∙◌, ap, Some}
use Rattle.cfb.specs.Views.{file_case_table}
use Rattle.msi_parts.specs.Judged.{list_system}
use Rattle.msi_tables.specs.Held.{heading_of, rows_held}
use Rattle.msi_soundness.proofs.Told.{no_rows, unlisted_read}
use Rattle.msi_soundness.proofs.Unread.{unread_answers}
use Rattle.msi_soundness.specs.Counting.{IsUnlistedAt}
use Rattle.msi_soundness.proofs.unlisted.lists_no_system_table.Goals as goal

pub returns-in-Ok-clause-answer : goal.returns-in-Ok-clause-answer
returns-in-Ok-clause-answer g c tree held =
    let pool = c.args.pool.now.pool in
    unlisted_read (file_case_table c.args.file.now) tree (heading_of c.args.table.now) pool (rows_held c.in-Ok.rows.items) c.lists_system_table.result
    (c.in-Ok.ensures.answer tree held) (c.lists_system_table.ensures ∙ ap (λ rows. list_system pool (rows_held rows)) c.deref.ensures.value)

pub returns-in-Err-clause-answer : goal.returns-in-Err-clause-answer
returns-in-Err-clause-answer g c tree held =
    let letters = file_case_table c.args.file.now in
    let pool = c.args.pool.now.pool in
    let h = heading_of c.args.table.now in
    unread_answers c.in-Err.error (IsUnlistedAt letters tree pool (Some h)) c.no_unless_fault.result c.no_unless_fault.ensures
    (λ other listed. no_rows letters tree h c.in-Err.error (c.in-Err.ensures.answer tree held) other listed.0)
