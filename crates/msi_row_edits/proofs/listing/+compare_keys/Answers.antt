use Rattle.std.proofs.Common.{sym, ◌∙◌, ap}
use Rattle.msi_columns.specs.Held.{column_of, columns_of}
use Rattle.msi_row_edits.proofs.Listed.{by_others}
use Rattle.msi_row_edits.proofs.listing.+compare_keys.Goals as goal

pub returns-then-not-is_primary_key : goal.returns-then-not-is_primary_key
returns-then-not-is_primary_key t c =
    c.compare_keys.ensures ∙ sym (by_others (columns_of c.args.columns.now) (columns_of c.in-Some.columns.now) (column_of c.in-Some.column.now) c.args.a.now c.args.b.now
    c.behind_first.result.now c.behind_first-then-not-is_primary_key.result.now (ap columns_of c.in-Some.ensures.cases.0) (sym c.is_primary_key.ensures ∙ c.if-not-is_primary_key.true) c.behind_first.ensures c.behind_first-then-not-is_primary_key.ensures)
