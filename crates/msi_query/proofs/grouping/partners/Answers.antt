use Rattle.msi_query.specs.Grouped.{rows_lent}
use Rattle.msi_query.proofs.GroupedRows.{indexed_pairs}
use Rattle.msi_query.proofs.grouping.partners.Goals as goal

pub returns-else-left-width : goal.returns-else-left-width
returns-else-left-width c = λ columns on index.
    indexed_pairs c.args.pool.now.pool columns on c.args.width c.in-Some.place c.args.left.now (rows_lent c.args.all.now) (rows_lent c.rows_of_value.result.now) c.in-Some.groups c.value_at.result
    c.if-left-width.false c.value_at.ensures c.rows_of_value.ensures (rw c.in-Some.is at index)
