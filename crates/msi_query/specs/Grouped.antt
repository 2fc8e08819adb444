-- Rows of a join's right side, grouped by the value that must be equal to one of the left side.
use Rattle.std.specs.Prelude.{◌≡◌, ℕ, ◌+◌, ◌<◌, List, [], Option, Some, None, if◌then◌else◌, IfSome, Vec, filter, map, slice_index_or}
use Rattle.std.specs.BTreeMap.{get}
use Rattle.std.specs.Borrow.{Bor}
use Rattle.std.specs.Ordering.{is_eq}
use Rattle.std.specs.declared.alloc.Global.{Global}
use Rattle.std.specs.declared.collections.BTreeMap.{BTreeMap}
use Rattle.msi_values.specs.Datum.{Datum, null, datum_cmp}
use Rattle.msi_values.specs.Borrowed.{borrowed_datum}
use Rattle.msi_values.specs.declared.borrowed.BorrowedValue.{BorrowedValue}
use Rattle.msi_values.specs.contracts.borrowed.BorrowedValueOrd.TheImpl.{ghosts as order}
use Rattle.msi_pool.specs.Pool.{Pool}
use Rattle.msi_columns.specs.Column.{Column}
use Rattle.msi_tables.specs.Rows.{Row}
use Rattle.msi_tables.specs.Table.{row_data}
use Rattle.msi_expr.specs.Formula.{Formula}
use Rattle.msi_expr.specs.Conditions.{matches}

-- the value at a place of a row; past its end null
abbrev pub value_in : Pool → Row → ℕ → Datum
value_in pool row place = slice_index_or (row_data pool row) place null

-- rows that stand elsewhere
abbrev pub rows_lent : List (Bor Row) → List Row
rows_lent rows = map (λ row. row.now) rows

-- rows by their values
abbrev pub Groups : Type 0
Groups = BTreeMap BorrowedValue (Vec (Bor Row) Global) Global

-- the rows of a group, where there is one
abbrev pub group_rows : Option (Vec (Bor Row) Global) → List Row
group_rows None = []
group_rows (Some group) = rows_lent group.items

-- those of a value
abbrev pub rows_with : Groups → BorrowedValue → List Row
rows_with groups value = group_rows (get order.cmp groups value)

-- a value is left without rows, and each other one as it was
abbrev pub ValueIsTaken : Groups → Groups → BorrowedValue → Type 0
ValueIsTaken old new value = (other : BorrowedValue) → get order.cmp new other ≡ (if is_eq (order.cmp value other) then None else get order.cmp old other)

-- the value at the place is equal to this one
abbrev pub has_value : Pool → ℕ → Datum → Row → Rattle.std.specs.Prelude.Bool
has_value pool place d row = is_eq (datum_cmp d (value_in pool row place))

-- each value has the rows with it, in their order
abbrev pub AreGrouped : Pool → ℕ → List Row → Groups → Type 0
AreGrouped pool place rows groups = (value : BorrowedValue) → rows_with groups value ≡ filter (has_value pool place (borrowed_datum value)) rows

-- the condition counts as true where the values at two places are equal: one of the left side, which has so many cells, and one of the right side
pub record IsEquation (columns : List Column) (on : Formula) (width left right : ℕ) : Type 0 where
  pub inside : left < width
  pub decides : (pool : Pool) (row : Row) → matches pool columns (Some on) row ≡ has_value pool (width + right) (value_in pool row left) row

-- the right rows are grouped by what the condition asks for, where it is such an equation
abbrev pub RightRowsAreGrouped : Pool → List Column → Formula → ℕ → List Row → Option (ℕ × Groups) → Type 0
RightRowsAreGrouped pool columns on width rows index = IfSome index (λ x. (right : ℕ) × IsEquation columns on width x.0 right × AreGrouped pool right rows x.1)
