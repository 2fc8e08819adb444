use Rattle.std.proofs.Common.{◌≡◌, ◌∙◌, ap, inl, inr, subst, sym}
use Rattle.cfb.specs.Views.{file_case_table, mini_of}
use Rattle.cfb_medium.specs.Calls.{IsFaultOrInvalidInputIf}
use Rattle.cfb_mini.specs.Views.{allocator_of}
use Rattle.msi_row_edits.proofs.Refusals.{own_so, own_unput, IsOwn}
use Rattle.msi_schema.specs.Headings.{headings_in}
use Rattle.msi_tables.specs.Held.{heading_of}
use Rattle.msi_tables.specs.Schema.{columns_columns, columns_name, tables_columns, tables_name}
use Rattle.msi_table_edits.proofs.RemainsSo.{missing_own, refused_so, remains_told}
use Rattle.msi_table_edits.proofs.remaining.prepared_drop.Goals as goal

pub returns-in-Err-clause-answer : goal.returns-in-Err-clause-answer
returns-in-Err-clause-answer g c = λ tree P m s memory. inr (refused_so P c.args.name.now (headings_in c.args.tables.now) c.args.pool.now.pool memory c.in-Err.error c.in-Err.ensures)

pub returns-in-Err-clause-cause : goal.returns-in-Err-clause-cause
returns-in-Err-clause-cause g c =
    own_so (allocator_of (mini_of c.args.file.now)) (allocator_of (mini_of c.args.file.now)) c.in-Err.error (missing_own (headings_in c.args.tables.now) c.args.name.now c.in-Err.error c.in-Err.ensures)

pub returns-in-Err-clause-errors : goal.returns-in-Err-clause-errors
returns-in-Err-clause-errors g c = own_unput c.in-Err.error (missing_own (headings_in c.args.tables.now) c.args.name.now c.in-Err.error c.in-Err.ensures)

pub returns-in-Err-fixed_tables-clause-answer : goal.returns-in-Err-fixed_tables-clause-answer
returns-in-Err-fixed_tables-clause-answer g c = λ tree P m s memory. inl (subst (IsFaultOrInvalidInputIf ⊥) (sym c.in-Err-fixed_tables.ensures.errors) tt)

pub returns-in-Err-fixed_tables-clause-cause : goal.returns-in-Err-fixed_tables-clause-cause
returns-in-Err-fixed_tables-clause-cause g c =
    own_so (allocator_of (mini_of c.args.file.now)) (allocator_of (mini_of c.args.file.now)) c.in-Err-fixed_tables.error (subst IsOwn (sym c.in-Err-fixed_tables.ensures.errors) tt)

pub returns-in-Err-fixed_tables-clause-errors : goal.returns-in-Err-fixed_tables-clause-errors
returns-in-Err-fixed_tables-clause-errors g c = own_unput c.in-Err-fixed_tables.error (subst IsOwn (sym c.in-Err-fixed_tables.ensures.errors) tt)

pub returns-clause-answer : goal.returns-clause-answer
returns-clause-answer g c = λ tree P m s memory.
    let long : c.long_string_refs.result ≡ c.args.pool.now.pool.long = c.long_string_refs.ensures in
    remains_told P c.args.name.now (headings_in c.args.tables.now) c.args.pool.now memory (heading_of c.in-Ok.found.0.now) (heading_of c.in-Ok.found.1.now) c.in-Ok.ensures (file_case_table c.args.file.now) tree s
    (heading_of c.deref.result.now) (heading_of c.deref-2.result.now) (ap heading_of c.deref.ensures ∙ c.in-Ok-fixed_tables.ensures.columns ∙ ap (λ l. record { name = columns_name; columns = columns_columns; long = l }) long) (ap heading_of c.deref-2.ensures ∙ c.in-Ok-fixed_tables.ensures.tables ∙ ap (λ l. record { name = tables_name; columns = tables_columns; long = l }) long)
    c.remaining_bytes.result (λ rows v cs ts one two three four. c.remaining_bytes.ensures.answer tree m rows v cs ts one two three four)
