use Rattle.std.proofs.Common.{◌≡◌, map, take}
use Rattle.std.specs.Rc.{rc_value}
use Rattle.msi_tables.specs.Held.{heading_of, rows_held}
use Rattle.msi.specs.Rows.{value_row}
use Rattle.msi.proofs.rows.rows_of_cells.Given as goal

-- the rows so far
abbrev pub invariant-loop-row : goal.invariant-loop-row
invariant-loop-row l = l.told.items ≡ map (value_row (heading_of (rc_value l.table)).columns l.pool.pool) (rows_held (take l.row-index l.row-items))
