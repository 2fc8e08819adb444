use Rattle.msi_columns.specs.Held.{columns_of}
use Rattle.msi_tables.proofs.StoredHeld.{listed_held}
use Rattle.msi_tables.proofs.table.Table.by_keys.Goals as goal

pub returns-clause-ok : goal.returns-clause-ok
returns-clause-ok c =
    rw c.columns.ensures at (listed_held c.args.string_pool.now.pool (columns_of c.columns.result.now) c.args.rows.items c.sort_by_keys.new.rows.items c.in_ok-sort_by_keys.ensures.sorted c.in_ok-sort_by_keys.ensures.stable)
