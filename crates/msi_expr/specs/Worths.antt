-- What an expression is worth in memory, as what it says.
use Rattle.msi_values.specs.Datum.{Datum, datum_of}
use Rattle.msi_values.specs.Borrowed.{borrowed_datum}
use Rattle.msi_expr.specs.declared.record.Worth.{Worth}
use Rattle.msi_expr.specs.declared.record.Worth.TheVariants as worth

abbrev pub worth_said : Worth → Datum
worth_said (worth.Borrowed v) = borrowed_datum v
worth_said (worth.Made v) = datum_of v
