-- What it says of a place that a rule isn't kept there.
use Rattle.std.specs.Prelude.{◌≡◌, ◌≢◌, ◌==◌, ℕ, ◌<◌, Bool, Contains, true, false, List, Some, position, slice_get}
use Rattle.std.specs.List.{slice_split}
use Rattle.msi_listing.specs.Content.{CellContent, ColumnContent, ListingContent, TableContent, null, bytes}
use Rattle.msi_listing.specs.declared.column.Kind.TheVariants as kind
use Rattle.package_rules.specs.Foreign.{entries}
use Rattle.package_rules.specs.Keys.{key_cells}
use Rattle.package_rules.specs.Said.{column_in, said_of, tables_in}
use Rattle.package_rules.specs.Streams.{stream_name}
use Rattle.package_rules.specs.declared.place.Place.{Place}

-- a cell of a listing with its row, its column and its table
pub record Found : Type 0 where
  pub table : TableContent
  pub column : ColumnContent
  pub row : List CellContent
  pub cell : CellContent

-- it stands at this place
pub record StandsAt (L : ListingContent) (at : Place) (it : Found) : Type 0 where
  pub in_listing : slice_get L.tables at.table ≡ Some it.table
  pub in_columns : slice_get it.table.columns at.column ≡ Some it.column
  pub in_rows : slice_get it.table.rows at.row ≡ Some it.row
  pub in_row : slice_get it.row at.column ≡ Some it.cell

-- a null in a column that takes none
abbrev pub IsUntakenNull : ListingContent → Place → Type 0
IsUntakenNull L at = (it : Found) × StandsAt L at it × (it.column.nullable ≡ false) × (it.cell ≡ null)

-- a cell of a column of which a rule speaks, and that fails it
abbrev pub FailsAt : (TableContent → ColumnContent → Bool) → (TableContent → ColumnContent → List CellContent → CellContent → Bool) → ListingContent → Place → Type 0
FailsAt speaks fails L at = (it : Found) × StandsAt L at it × (speaks it.table it.column ≡ true) × (fails it.table it.column it.row it.cell ≡ true)

-- a null in a column of the key that takes none
abbrev pub IsNullKey : ListingContent → Place → Type 0
IsNullKey L at = (it : Found) × StandsAt L at it × (it.column.key ≡ true) × (it.column.nullable ≡ false) × (it.cell ≡ null)

-- A row that has the key of a row before it in its table; it is told by the first column of the key.
pub record RepeatsKey (L : ListingContent) (at : Place) : Type 0 where
  pub table : TableContent
  pub row : List CellContent
  pub before : ℕ
  pub other : List CellContent
  pub in_listing : slice_get L.tables at.table ≡ Some table
  pub first : position (λ c. c.key) table.columns ≡ Some at.column
  pub in_rows : slice_get table.rows at.row ≡ Some row
  pub earlier : before < at.row
  pub there : slice_get table.rows before ≡ Some other
  pub same : key_cells table.columns other ≡ key_cells table.columns row

-- bytes in a column of bytes, and no stream has their name
abbrev pub IsUnbacked : ListingContent → Place → Type 0
IsUnbacked L at = (it : Found) × StandsAt L at it × (it.column.kind ≡ kind.Binary) × (it.cell ≡ bytes) × ((k : ℕ) → slice_get L.streams k ≡ Some (stream_name it.table it.row) → ⊥)

-- A cell that holds something, in a column for which `_Validation` names tables, and no cell of their column there holds the same.
pub record LeadsNowhere (L : ListingContent) (at : Place) : Type 0 where
  pub it : Found
  pub stand : StandsAt L at it
  pub row : List CellContent
  pub tables : List ℕ
  pub said : said_of L it.table.name it.column.name ≡ Some row
  pub named : tables_in row ≡ Some tables
  pub holds : it.cell ≢ null
  pub lost : (name : List ℕ) → Contains (slice_split (λ b. b == 59) tables) name → Contains (entries L) (record { table = name; column = column_in row; cell = it.cell }) → ⊥
