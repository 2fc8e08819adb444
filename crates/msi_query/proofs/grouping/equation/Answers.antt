use Rattle.std.proofs.Common.{sym}
use Rattle.msi_expr.specs.Formula.{formula_of}
use Rattle.msi_tables.specs.Held.{heading_of}
use Rattle.msi_query.proofs.GroupedRows.{first_is_left, second_is_left}
use Rattle.msi_query.proofs.grouping.equation.Goals as goal

pub returns-then-width-other : goal.returns-then-width-other
returns-then-width-other c =
    first_is_left (heading_of c.args.table.now).columns (formula_of c.args.on.now) c.in_ok-one.one.now c.in_ok-one.other.now c.in_ok-one-2.one c.in_ok-other.other c.args.width
    (sym c.in_ok-one.ensures) (sym c.in_ok-one-2.ensures) (sym c.in_ok-other.ensures) c.if-one-width.true c.if-width-other.true

pub returns-then-width-one : goal.returns-then-width-one
returns-then-width-one c =
    second_is_left (heading_of c.args.table.now).columns (formula_of c.args.on.now) c.in_ok-one.one.now c.in_ok-one.other.now c.in_ok-one-2.one c.in_ok-other.other c.args.width
    (sym c.in_ok-one.ensures) (sym c.in_ok-one-2.ensures) (sym c.in_ok-other.ensures) c.if-other-width.true c.if-width-one.true
