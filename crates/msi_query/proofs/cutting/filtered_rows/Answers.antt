use Rattle.msi_tables.specs.Held.{heading_of, rows_held}
use Rattle.msi_query.proofs.LetThrough.{each_passes}
use Rattle.msi_query.proofs.cutting.filtered_rows.Goals as goal

pub returns-in-None-clause-ok : goal.returns-in-None-clause-ok
returns-in-None-clause-ok c = rw c.in-None.is (each_passes c.args.pool.now.pool (heading_of c.args.table.now).columns (rows_held c.args.rows.items))
