use Rattle.std.proofs.Common.{rules}
use Rattle.std.proofs.lemmas.Fn.{always_returns_same}
use Rattle.msi_columns.specs.Held.{columns_of}
use Rattle.msi_row_edits.specs.Valued.{kept_less}
use Rattle.msi_row_edits.proofs.Listed.{kept_order}
use Rattle.msi_tables.proofs.CellOrder.{sorted_by}
use Rattle.msi_row_edits.proofs.listing.sort_by_keys.Goals as goal

pub returns-clause-sorted : goal.returns-clause-sorted
returns-clause-sorted c =
    let columns = columns_of c.args.columns.now in
    sorted_by _ _ (kept_less columns) _ _ (kept_order columns) (always_returns_same _ _ _ (λ a r f' k. search rules)) c.sort_by.ensures.sorted

pub returns-clause-stable : goal.returns-clause-stable
returns-clause-stable c =
    let columns = columns_of c.args.columns.now in
    c.sort_by.ensures.stable (kept_less columns) (kept_order columns) (always_returns_same _ _ _ (λ a r f' k. search rules))
