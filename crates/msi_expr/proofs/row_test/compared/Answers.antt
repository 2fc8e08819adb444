use Rattle.std.proofs.Common.{rules, ◌≡◌, Some, string_bytes}
use Rattle.msi_columns.specs.Column.{column_place}
use Rattle.msi_tables.specs.Held.{heading_of}
use Rattle.msi_values.specs.Borrowed.{borrowed_datum}
use Rattle.msi_values.specs.Datum.{datum_of}
use Rattle.msi_expr.proofs.RowTests.{compared_says}
use Rattle.msi_expr.proofs.row_test.compared.Goals as goal

pub returns : goal.returns
returns c =
    let columns = (heading_of c.args.table.now).columns in
    let at : column_place columns (string_bytes c.in-Column.name) ≡ Some c.in_ok-place.place = search rules in
    let is : borrowed_datum c.as_borrowed.result ≡ datum_of c.in-Literal.value = search rules in
    rw (c.in-Column.is, c.in-Literal.is) (compared_says columns c.args.op (string_bytes c.in-Column.name) c.in_ok-place.place (datum_of c.in-Literal.value) c.as_borrowed.result at is)
