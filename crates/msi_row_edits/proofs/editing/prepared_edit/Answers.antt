use Rattle.std.proofs.Common.{◌≡◌, ◌∙◌, Some, None, arith, inl, subst, sym, ⊎_elim}
use Rattle.std.specs.Rc.{rc_value}
use Rattle.msi_row_edits.specs.Asked.{asked}
use Rattle.msi_tables.specs.Held.{heading_of, rows_held}
use Rattle.cfb.specs.Views.{file_case_table, mini_of}
use Rattle.msi_stored.specs.StoredPackages.{rows_in}
use Rattle.cfb_mini.specs.Views.{allocator_of}
use Rattle.msi_row_edits.proofs.Exits.{own_causes, owns_unput, prepared_own, told_so}
use Rattle.msi_row_edits.proofs.Refusals.{read_unput}
use Rattle.msi_row_edits.proofs.editing.prepared_edit.Goals as goal

pub returns-in-Err-clause-answer : goal.returns-in-Err-clause-answer
returns-in-Err-clause-answer g c = λ tree held wide rows read.
    ⊎_elim (λ fault. inl fault) (λ broken. let never : None ≡ Some rows = sym (subst (λ t. rows_in (file_case_table c.args.file.now) tree (heading_of t) ≡ None) c.deref.ensures broken.1) ∙ read in absurd (cc)) (c.in-Err.ensures.answer tree held)

pub returns-clause-answer : goal.returns-clause-answer
returns-clause-answer g c = λ tree held wide rows read.
    let both : Some (rows_held c.in-Ok.rows.items) ≡ Some rows = sym (subst (λ t. rows_in (file_case_table c.args.file.now) tree (heading_of t) ≡ Some (rows_held c.in-Ok.rows.items)) c.deref.ensures (c.in-Ok.ensures.answer tree held)) ∙ read in
    let same : rows_held c.in-Ok.rows.items ≡ rows = grind (arith, both) in
    told_so (asked c.args.query.now) (heading_of (rc_value c.args.table.now)) c.args.pool.now (rows_held c.in-Ok.rows.items) rows c.edited_rows.result same c.edited_rows.ensures.answer

pub returns-clause-cause : goal.returns-clause-cause
returns-clause-cause g c =
    own_causes (allocator_of (mini_of c.args.file.now)) (allocator_of (mini_of c.rows_of_table.new.file)) c.edited_rows.result
    (prepared_own (asked c.args.query.now) (heading_of (rc_value c.args.table.now)) c.args.pool.now (rows_held c.in-Ok.rows.items) c.edited_rows.result c.edited_rows.ensures.answer)

pub returns-in-Err-clause-errors : goal.returns-in-Err-clause-errors
returns-in-Err-clause-errors g c = read_unput c.in-Err.error c.in-Err.ensures.errors

pub returns-clause-errors : goal.returns-clause-errors
returns-clause-errors g c =
    owns_unput c.edited_rows.result (prepared_own (asked c.args.query.now) (heading_of (rc_value c.args.table.now)) c.args.pool.now (rows_held c.in-Ok.rows.items) c.edited_rows.result c.edited_rows.ensures.answer)
