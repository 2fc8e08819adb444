-- Rows beside their values.
use Rattle.std.specs.Prelude.{List, map, Vec}
use Rattle.std.specs.declared.alloc.Global.{Global}
use Rattle.msi_columns.specs.Column.{Column}
use Rattle.msi_pool.specs.declared.stringref.ValueRef.{ValueRef}
use Rattle.msi_tables.specs.Rows.{AreRowsWritable, Row}
use Rattle.msi_tables.specs.Table.{key_cmp, key_values}
use Rattle.msi_values.specs.Borrowed.{borrowed_data}
use Rattle.msi_values.specs.Datum.{Datum}
use Rattle.msi_values.specs.declared.borrowed.BorrowedValue.{BorrowedValue}
use Rattle.std.specs.Prelude.{Bool}
use Rattle.std.specs.Ordering.{is_lt}
use Rattle.std.specs.declared.cmp.Ordering.{Ordering}

-- the values of rows
abbrev pub rows_said : List (Vec BorrowedValue Global) → List (List Datum)
rows_said values = map (λ v. borrowed_data v.items) values

-- a row as it is kept beside its values
abbrev pub RowWithValues : Type 0
RowWithValues = Vec BorrowedValue Global × Vec ValueRef Global

-- the same as what they say
abbrev pub kept_said : RowWithValues → List Datum × Row
kept_said r = (borrowed_data r.0.items, r.1.items)

-- rows by the values of the key's columns
abbrev pub values_cmp : List Column → List Datum × Row → List Datum × Row → Ordering
values_cmp columns a b = key_cmp (key_values columns a.0) (key_values columns b.0)

-- the same of rows as they are kept
abbrev pub kept_less : List Column → RowWithValues → RowWithValues → Bool
kept_less columns a b = is_lt (values_cmp columns (kept_said a) (kept_said b))

-- rows that can be written, whatever the columns, are such rows still
abbrev pub StayWritable : List Row → List Row → Type 0
StayWritable old new = (long : Bool) (columns : List Column) → AreRowsWritable long columns old → AreRowsWritable long columns new
