use Rattle.std.proofs.Common.{◌≡◌, List, None, Some, rc_value, subst}
use Rattle.std.specs.Prelude.{OnOk}
use Rattle.cfb.specs.Views.{file_case_table}
use Rattle.msi_findings.proofs.Unread.{read_table, unread_so, unread_table}
use Rattle.msi_findings.proofs.tables.note.Goals as goal
use Rattle.msi_soundness.proofs.Steps.{memory_cause}
use Rattle.msi_schema.specs.Headings.{headings_in}
use Rattle.msi_stored.specs.StoredPackages.{rows_in}
use Rattle.msi_tables.specs.Held.{heading_of, rows_held}
use Rattle.msi_tables.specs.Table.{Heading}
use Rattle.msi_tables.specs.declared.table.Table.{Table as HeldTable}

pub returns-in-Ok-clause-answer : goal.returns-in-Ok-clause-answer
returns-in-Ok-clause-answer g c tree held =
    let letters = file_case_table c.args.file.now in
    let rows = rows_held c.in-Ok._rows.items in
    read_table letters tree (headings_in c.args.found.now.items) (heading_of (rc_value c.args.table.now)) rows
    (subst (λ (t : HeldTable). rows_in letters tree (heading_of t) ≡ Some rows) c.deref.ensures (c.in-Ok.ensures.answer tree held))

pub returns-in-Err-InvalidData-clause-answer : goal.returns-in-Err-InvalidData-clause-answer
returns-in-Err-InvalidData-clause-answer g c tree held =
    let letters = file_case_table c.args.file.now in
    let old = headings_in c.args.found.now.items in
    let so = unread_so c.in-Err-InvalidData.field-0 (rows_in letters tree (heading_of c.deref.result.now) ≡ None) c.in-Err-InvalidData.field-0-is (c.in-Err-InvalidData.ensures.answer tree held) in
    subst (λ (hs : List Heading). OnOk c.add.result (headings_in c.add.new.found.items ≡ hs))
    (unread_table letters tree old (heading_of (rc_value c.args.table.now)) (subst (λ (t : HeldTable). rows_in letters tree (heading_of t) ≡ None) c.deref.ensures so)) c.add.ensures.added

pub returns-in-Err-InvalidData-clause-cause : goal.returns-in-Err-InvalidData-clause-cause
returns-in-Err-InvalidData-clause-cause g c = memory_cause c.args.file.now c.rows_of_table.new.file c.add.result c.add.ensures.errors
