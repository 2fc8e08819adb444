use Rattle.std.specs.Prelude.{bytes_eq}
use Rattle.msi_columns.specs.Held.{column_of}
use Rattle.msi_tables.specs.Held.{heading_of}
use Rattle.msi_tables.proofs.Searches.{found_says}
use Rattle.msi_tables.proofs.table.Table.get_column.Goals as goal

pub returns : goal.returns
unfolding heading_of
returns c = found_says _ column_of c.column_named.result (λ column. bytes_eq column.name c.args.column_name.now) c.args.self.now.columns.items (rw c.deref.ensures.value at c.column_named.ensures)
