-- Rows that are still to come, as what they say.
use Rattle.std.specs.Prelude.{List}
use Rattle.std.specs.Rc.{rc_value}
use Rattle.std.specs.Vec.Iter.{into_iter_items}
use Rattle.msi_columns.specs.Column.{Column}
use Rattle.msi_tables.specs.Row.{ValueRow}
use Rattle.msi_tables.specs.Held.{heading_of}
use Rattle.msi_tables.specs.declared.rows.Rows.{Rows}

-- the columns of rows
unfoldable pub rows_columns : Rows → List Column
rows_columns rows = (heading_of (rc_value rows.table)).columns

-- the rows that are left
unfoldable pub rows_left : Rows → List ValueRow
rows_left rows = into_iter_items rows.left
