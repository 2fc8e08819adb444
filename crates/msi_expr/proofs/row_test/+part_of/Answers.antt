use Rattle.std.proofs.Common.{sym}
use Rattle.msi_expr.specs.Formula.{ast_formula}
use Rattle.msi_expr.specs.RowTests.{IsPartOf}
use Rattle.msi_tables.specs.Held.{heading_of}
use Rattle.msi_expr.proofs.RowTests.{both_says, either_says}
use Rattle.msi_expr.proofs.row_test.+part_of.Goals as goal

pub returns-in_ok-new-in-And-2 : goal.returns-in_ok-new-in-And-2
returns-in_ok-new-in-And-2 t c =
    let columns = (heading_of c.args.table.now).columns in
    let one : IsPartOf columns (ast_formula c.in-And.arg1.value) c.in_ok-new-in-And.field-0.value = rw (c.in_ok-new-in-And.ensures.ok, sym c.deref.ensures) c.in_ok-part1-in-And.ensures in
    let other : IsPartOf columns (ast_formula c.in-And.arg2.value) c.in_ok-new-in-And-2.field-0.value = rw (c.in_ok-new-in-And-2.ensures.ok, sym c.deref-in-And.ensures) c.in_ok-part2-in-And.ensures in
    rw c.in-And.is (record {
      knows = (one.knows, other.knows);
      says = both_says columns (ast_formula c.in-And.arg1.value) (ast_formula c.in-And.arg2.value) c.in_ok-new-in-And.field-0.value c.in_ok-new-in-And-2.field-0.value one other;
    })

pub returns-in_ok-new-in-Or-2 : goal.returns-in_ok-new-in-Or-2
returns-in_ok-new-in-Or-2 t c =
    let columns = (heading_of c.args.table.now).columns in
    let one : IsPartOf columns (ast_formula c.in-Or.arg1.value) c.in_ok-new-in-Or.field-0.value = rw (c.in_ok-new-in-Or.ensures.ok, sym c.deref-in-Or.ensures) c.in_ok-part1-in-Or.ensures in
    let other : IsPartOf columns (ast_formula c.in-Or.arg2.value) c.in_ok-new-in-Or-2.field-0.value = rw (c.in_ok-new-in-Or-2.ensures.ok, sym c.deref-in-Or-2.ensures) c.in_ok-part2-in-Or.ensures in
    rw c.in-Or.is (record {
      knows = (one.knows, other.knows);
      says = either_says columns (ast_formula c.in-Or.arg1.value) (ast_formula c.in-Or.arg2.value) c.in_ok-new-in-Or.field-0.value c.in_ok-new-in-Or-2.field-0.value one other;
    })
