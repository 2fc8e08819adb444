-- Columns in memory, as what they say.
use Rattle.std.specs.Prelude.{◌≡◌, ℕ, List, map, option_map, ℤ, String, string_bytes}
use Rattle.std.specs.declared.alloc.Global.{Global}
use Rattle.msi_columns.specs.Column.{Column}
use Rattle.msi_columns.specs.declared.column.ColumnType.{ColumnType}
use Rattle.msi_columns.specs.declared.column.Column.{Column as HeldColumn}
use Rattle.msi_columns.specs.declared.builder.ColumnBuilder.{ColumnBuilder}

-- a table and a column's number
abbrev pub key_of : String Global × ℤ → List ℕ × ℤ
key_of f = (string_bytes f.0, f.1)

-- what a column says
unfoldable pub column_of : HeldColumn → Column
column_of c = record {
  name = string_bytes c.name;
  kind = c.coltype;
  localizable = c.is_localizable;
  nullable = c.is_nullable;
  key = c.is_primary_key;
  range = c.value_range;
  foreign = option_map key_of c.foreign_key;
  category = c.category;
  choices = map string_bytes c.enum_values.items;
}

-- those of a list
abbrev pub columns_of : List HeldColumn → List Column
columns_of cs = map column_of cs

-- the column that a builder makes with this type
unfoldable pub built : ColumnBuilder → ColumnType → Column
built b kind = record (column_of b.column) { kind = kind }

-- a builder makes what another made, changed so, whatever the type
abbrev pub BuildsColumn : ColumnBuilder → (Column → Column) → ColumnBuilder → Type 0
BuildsColumn new changed old = (kind : ColumnType) → built new kind ≡ changed (built old kind)
