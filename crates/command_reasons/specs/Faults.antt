-- Why a value or a row isn't taken: what is told of it is so.
use Rattle.std.specs.Prelude.{◌≡◌, ◌≢◌, ◌⊎◌, ◌<◌, ℕ, Bool, true, false, List, length, take, slice_get, Some, ℤ, chars}
use Rattle.command_reasons.specs.declared.cells.CellFault.{CellFault}
use Rattle.command_reasons.specs.declared.cells.CellFault.TheVariants as fault
use Rattle.command_reasons.specs.declared.rows.RowFault.{RowFault}
use Rattle.command_reasons.specs.declared.rows.RowFault.TheVariants as broken
use Rattle.msi_columns.specs.Column.{Column, are_valid, is_binary, is_listed, is_valid, is_within, number_fits}
use Rattle.msi_columns.specs.declared.column.ColumnType.{ColumnType}
use Rattle.msi_columns.specs.declared.column.ColumnType.TheVariants as kind
use Rattle.msi_texts.specs.Category.{is_in_category}
use Rattle.msi_values.specs.Datum.{Datum, null, number, text, binary}

-- a column of this type holds values of this kind; null is of each
abbrev pub is_of_kind : ColumnType → Datum → Bool
is_of_kind k null = true
is_of_kind kind.Int16 (number z) = true
is_of_kind kind.Int32 (number z) = true
is_of_kind (kind.Str n) (number z) = false
is_of_kind kind.Binary (number z) = false
is_of_kind kind.Int16 (text t) = false
is_of_kind kind.Int32 (text t) = false
is_of_kind (kind.Str n) (text t) = true
is_of_kind kind.Binary (text t) = false
is_of_kind kind.Int16 binary = false
is_of_kind kind.Int32 binary = false
is_of_kind (kind.Str n) binary = false
is_of_kind kind.Binary binary = true

-- what is told of a column and a value is so
abbrev pub IsSoOfCell : Column → Datum → CellFault → Type 0
IsSoOfCell c d fault.Null = (d ≡ null) × ((c.nullable ≡ false) ⊎ (is_binary c.kind ≡ true))
IsSoOfCell c d fault.Kind = is_of_kind c.kind d ≡ false
IsSoOfCell c d (fault.Range low high) = (z : ℤ) × (d ≡ number z) × (c.range ≡ Some (low, high)) × (is_within c.range z ≡ false)
IsSoOfCell c d fault.Size = (z : ℤ) × (d ≡ number z) × (is_of_kind c.kind d ≡ true) × (number_fits c.kind z ≡ false)
IsSoOfCell c d (fault.Category category) = (t : List ℕ) × (d ≡ text t) × (c.category ≡ Some category) × (is_in_category category t ≡ false)
IsSoOfCell c d fault.Choice = (t : List ℕ) × (d ≡ text t) × (is_listed c.choices t ≡ false)
IsSoOfCell c d (fault.Length n) = (t : List ℕ) × (d ≡ text t) × (c.kind ≡ kind.Str n) × (n ≢ 0) × (n < length (chars t))

-- WHY A COLUMN DOESN'T TAKE A VALUE: it doesn't, and what is told is so
abbrev pub IsCellFault : Column → Datum → CellFault → Type 0
IsCellFault c d f = (is_valid c d ≡ false) × IsSoOfCell c d f

-- the columns in front of a place take their values, and the one there doesn't, as it is told
pub record IsWrongFrom (columns : List Column) (row : List Datum) (at : ℕ) (f : CellFault) : Type 0 where
  pub before : are_valid (take at columns) (take at row) ≡ true
  pub inside : at < length columns
  pub column : Column
  pub there : slice_get columns at ≡ Some column
  pub value : Datum
  pub stands : slice_get row at ≡ Some value
  pub wrong : IsCellFault column value f

-- WHY A ROW ISN'T TAKEN: it has another number of values than there are columns; or the first column that doesn't take its value is told
abbrev pub IsRowFault : List Column → List Datum → RowFault → Type 0
IsRowFault columns row (broken.Length values wanted) = (length row ≡ values) × (length columns ≡ wanted) × (values ≢ wanted)
IsRowFault columns row (broken.Cell at f) = IsWrongFrom columns row at f
