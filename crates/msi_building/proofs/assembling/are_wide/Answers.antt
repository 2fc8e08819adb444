use Rattle.std.proofs.Common.{◌≡◌, ◌∙◌, ap, length, subst, sym}
use Rattle.std.proofs.lemmas.List.{length-map}
use Rattle.std.proofs.lemmas.List.Elements.{All-from_recursion}
use Rattle.msi.proofs.HeldTables.{rows_are_wide}
use Rattle.msi_columns.specs.Held.{column_of}
use Rattle.msi_parts.specs.Whole.{Wide}
use Rattle.msi_tables.specs.Held.{heading_of, rows_held}
use Rattle.msi_building.proofs.assembling.are_wide.Goals as goal

pub returns : goal.returns
returns c is =
    let rows = c.args.rows.now in
    let count = length c.columns.result.now in
    let wanted = length (heading_of c.args.table.now).columns in
    let same : count ≡ wanted = sym (length-map c.columns.result.now column_of) ∙ ap length c.columns.ensures in
    All-from_recursion (λ row. length row ≡ wanted) (rows_held rows) (subst (λ n. Wide n (rows_held rows)) same (rows_are_wide count rows (sym c.have_cells.ensures ∙ is)))
