use Rattle.std.proofs.Common.{◌≡◌, ◌∙◌, [], Some, None, ap, get_or, inr, refl, sym, take}
use Rattle.std.proofs.lemmas.Map.Text.{btree_map_updates_str}
use Rattle.msi_values.specs.Borrowed.{borrowed_data}
use Rattle.msi_values.specs.Datum.{null}
use Rattle.msi_schema.specs.Columns.{text_in}
use Rattle.msi_schema.specs.Headings.{at_text, has_name}
use Rattle.msi_schema.specs.Index.{rows_said}
use Rattle.msi_schema.proofs.Judged.{row_fails, rows_more}
use Rattle.msi_schema.proofs.Told.{counted, named_more, nameless}
use Rattle.msi_schema.proofs.counts.names_of.Goals as goal

pub returns-in_default-clause-errors : goal.returns-in_default-clause-errors
returns-in_default-clause-errors c =
    let ds = borrowed_data c.row-item.result.items in
    let none : None ≡ text_in (get_or ds 0 null) = c.in_default.ensures ∙ ap text_in c.value_at.ensures ∙ ap (λ r. text_in (get_or (borrowed_data r) 0 null)) c.deref.ensures.value in
    inr (refl, row_fails has_name c.args.tables.now c.loop-row.row-index c.row-item.result c.loop-row-test.true c.row-item.is (nameless ds none))

pub loop-row-preserved : goal.loop-row-preserved
loop-row-preserved c =
    let rows = c.args.tables.now in
    let i = c.loop-row.row-index in
    let t = c.in-Some.name.now in
    let ds = borrowed_data c.row-item.result.items in
    let has : Some t ≡ text_in (get_or ds 0 null) = c.in-Some.ensures ∙ ap text_in c.value_at.ensures ∙ ap (λ r. text_in (get_or (borrowed_data r) 0 null)) c.deref.ensures.value in
    λ name.
    named_more (rows_said (take i rows)) ds t has (at_text c.loop-row.names) (at_text c.insert.new.self) c.loop-row.invariant
    (btree_map_updates_str t c.loop-row.names c.insert.new.self (Some 0) c.in_ok-insert.ensures.updates) name
    ∙ ap (λ rs. counted rs [] name) (sym (rows_more rows i c.row-item.result c.loop-row-test.true c.row-item.is))
