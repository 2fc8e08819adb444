-- What a package holds, as plain data.
use Rattle.std.specs.Prelude.{ℕ, ℤ, Bool, List}
use Rattle.msi_listing.specs.declared.column.Kind.{Kind}

-- a cell: a text is the list of its bytes
pub data CellContent : Type 0 where
  null : CellContent
  number : ℤ → CellContent
  text : List ℕ → CellContent
  bytes : CellContent

-- A column: its name, which values it has, whether its texts may be translated, whether it takes null, and whether it belongs to the key.
pub record ColumnContent : Type 0 where
  pub name : List ℕ
  pub kind : Kind
  pub localizable : Bool
  pub nullable : Bool
  pub key : Bool

-- A table: its name, its columns and its rows.
pub record TableContent : Type 0 where
  pub name : List ℕ
  pub columns : List ColumnContent
  pub rows : List (List CellContent)

-- the value of a property: a time is the tenths of a microsecond since 1601
pub data PropertyContent : Type 0 where
  empty : PropertyContent
  nothing : PropertyContent
  i1 : ℤ → PropertyContent
  i2 : ℤ → PropertyContent
  i4 : ℤ → PropertyContent
  words : List ℕ → PropertyContent
  time : ℕ → PropertyContent

-- A package: the number of its code page, its tables, the names of its streams that belong to no table, and its summary's properties.
pub record ListingContent : Type 0 where
  pub codepage : ℤ
  pub tables : List TableContent
  pub streams : List (List ℕ)
  pub properties : List (ℕ × PropertyContent)
