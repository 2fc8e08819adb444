-- A value whose text stands elsewhere, as what it says.
use Rattle.std.specs.Prelude.{List, map}
use Rattle.msi_values.specs.Datum.{Datum, null, number, text, binary}
use Rattle.msi_values.specs.declared.borrowed.BorrowedValue.{BorrowedValue}
use Rattle.msi_values.specs.declared.borrowed.BorrowedValue.TheVariants as borrowed

abbrev pub borrowed_datum : BorrowedValue → Datum
borrowed_datum borrowed.Null = null
borrowed_datum (borrowed.Int z) = number z
borrowed_datum (borrowed.Str s) = text s.now
borrowed_datum borrowed.Binary = binary

-- those of a list
abbrev pub borrowed_data : List BorrowedValue → List Datum
borrowed_data vs = map borrowed_datum vs
