use Rattle.package_rules.specs.Firsts.{said_at}
use Rattle.package_rules.specs.Places.{numbered}
use Rattle.package_rules.proofs.Left.{given_more}
use Rattle.column_rules.specs.Described.{undescribed_at}
use Rattle.column_rules.proofs.described.add_tables.Goals as goal

pub loop-table_at-preserved : goal.loop-table_at-preserved
loop-table_at-preserved c =
    given_more (undescribed_at (said_at c.args.said.now)) c.args.tables.now c.loop-table_at.table_at c.index-tables-table_at.result c.args.found.now.items c.loop-table_at.found.items
    c.add_table.new.found.items (numbered (undescribed_at (said_at c.args.said.now)) c.args.tables.now) c.loop-table_at-test.true c.index-tables-table_at.is c.loop-table_at.invariant c.in_ok-add_table.ensures
