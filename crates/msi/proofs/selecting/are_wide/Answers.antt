use Rattle.std.proofs.Common.{◌≡◌, ◌∙◌, ap, length, subst, sym}
use Rattle.std.proofs.lemmas.List.{length-map}
use Rattle.msi_columns.specs.Held.{column_of}
use Rattle.msi_parts.specs.Whole.{Wide}
use Rattle.msi_tables.specs.Held.{heading_of, rows_held}
use Rattle.msi.proofs.HeldTables.{rows_are_wide, wide_rows_pass}
use Rattle.msi.proofs.selecting.are_wide.Goals as goal

pub returns : goal.returns
returns c =
    let rows = c.args.rows.now in
    let count = length c.columns.result.now in
    let same : count ≡ length (heading_of c.args.table.now).columns = sym (length-map c.columns.result.now column_of) ∙ ap length c.columns.ensures in (
      λ is. subst (λ n. Wide n (rows_held rows)) same (rows_are_wide count rows (sym c.have_cells.ensures ∙ is)),
      λ wide. c.have_cells.ensures ∙ wide_rows_pass count rows (subst (λ n. Wide n (rows_held rows)) (sym same) wide),
    )
