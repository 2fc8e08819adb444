use Rattle.std.proofs.Common.{rules}
use Rattle.std.proofs.lemmas.Fn.{always_returns_same}
use Rattle.msi_columns.specs.Held.{columns_of}
use Rattle.msi_tables.specs.Table.{key_less}
use Rattle.msi_tables.proofs.CellOrder.{sorted_by}
use Rattle.msi_tables.proofs.Keys.{key_less_orders}
use Rattle.msi_tables.proofs.listing.sort_by_keys.Goals as goal

pub returns-clause-sorted : goal.returns-clause-sorted
returns-clause-sorted c =
    let pool = c.args.string_pool.now.pool in
    let columns = columns_of c.args.columns.now in
    sorted_by _ _ (key_less pool columns) _ _ (key_less_orders pool columns) (always_returns_same _ _ _ (λ a r f' k. search rules)) c.sort_by.ensures.sorted

pub returns-clause-stable : goal.returns-clause-stable
returns-clause-stable c =
    let pool = c.args.string_pool.now.pool in
    let columns = columns_of c.args.columns.now in
    c.sort_by.ensures.stable (key_less pool columns) (key_less_orders pool columns) (always_returns_same _ _ _ (λ a r f' k. search rules))
