use Rattle.std.proofs.Common.{rules}
use Rattle.std.proofs.lemmas.Fn.{always_returns_same}
use Rattle.msi_tables.specs.Rows.{row_less, skips_of}
use Rattle.msi_columns.specs.Held.{columns_of}
use Rattle.msi_tables.proofs.CellOrder.{row_less_orders, sorted_by}
use Rattle.msi_tables.proofs.writing.sort_rows.Goals as goal

pub returns-clause-sorted : goal.returns-clause-sorted
returns-clause-sorted c =
    let skips = skips_of (columns_of c.args.columns.now) in
    sorted_by _ _ (row_less skips) _ _ (row_less_orders skips) (always_returns_same _ _ _ (λ a r f' k. search rules)) c.sort_by.ensures.sorted

pub returns-clause-stable : goal.returns-clause-stable
returns-clause-stable c =
    let skips = skips_of (columns_of c.args.columns.now) in
    c.sort_by.ensures.stable (row_less skips) (row_less_orders skips) (always_returns_same _ _ _ (λ a r f' k. search rules))
