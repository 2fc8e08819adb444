use Rattle.std.proofs.Common.{◌≡◌, ◌∙◌, ap, sym, subst}
use Rattle.std.specs.Prelude.{Contains, Ok}
use Rattle.cfb.specs.Views.{file_case_table}
use Rattle.msi_columns.specs.Held.{columns_of}
use Rattle.msi_spec.specs.Opening.{rows_by}
use Rattle.msi_spec.specs.Package.{objects, stream_name}
use Rattle.msi_stored.specs.Shown.{FindsPart, bytes_in, opening_names}
use Rattle.msi_tables.specs.Held.{heading_of, rows_held}
use Rattle.msi_tables.specs.Rows.{kinds_of}
use Rattle.msi_tables.specs.Table.{Heading}
use Rattle.msi_store.proofs.Told.{rows_found}
use Rattle.msi_store.proofs.system.rows_by_columns.Goals as goal

pub returns-clause-shown : goal.returns-clause-shown
returns-clause-shown g c tree shown pool long own =
    let letters = file_case_table c.args.file.now in
    let bytes = bytes_in c.args.file.now in
    let columns = columns_of c.args.columns.items in
    let h = heading_of c.from_parts-table.result in
    let is = c.from_parts-table.ensures in
    let named : h.name ≡ c.args.name.now = ap (λ (k : Heading). k.name) is ∙ c.in_ok-name.ensures.ok in
    subst (λ name. FindsPart letters bytes (λ rows. rows_by letters (objects tree.content) pool name columns ≡ Ok (rows_held rows.items)) (rows_by letters (objects tree.content) pool name columns) c.rows_of_table.result)
    named
    (rows_found letters tree bytes h pool columns c.rows_of_table.result (long ∙ sym (ap (λ (k : Heading). k.long) is)) (ap (λ (k : Heading). kinds_of k.columns) (sym is))
    (subst (λ name. Contains opening_names (stream_name name)) (sym named) own) (c.rows_of_table.ensures.shown tree shown))
