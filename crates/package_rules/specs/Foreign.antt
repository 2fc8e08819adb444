-- Cells that must be keys of another table.
use Rattle.std.specs.Prelude.{ℕ, ◌+◌, Bool, true, false, not, ◌&&◌, ◌==◌, List, [], ◌∷◌, is_some}
use Rattle.std.specs.List.{list_any, slice_split}
use Rattle.std.specs.Option.{option_map_or}
use Rattle.std.specs.Ordering.{is_eq, nat_cmp}
use Rattle.msi_listing.specs.Content.{CellContent, ListingContent, TableContent}
use Rattle.package_rules.specs.Cells.{is_null}
use Rattle.package_rules.specs.Keys.{cell_cmp}
use Rattle.package_rules.specs.Places.{numbered, places_where}
use Rattle.package_rules.specs.Said.{column_in, is_same, said_of, tables_in}
use Rattle.package_rules.specs.declared.place.Place.{Place}

-- a cell of a package: the name of its table, the number of its column from 1, and what it holds
pub record Entry : Type 0 where
  pub table : List ℕ
  pub column : ℕ
  pub cell : CellContent

-- all cells of a package
abbrev pub entries_of_row : List ℕ → List CellContent → List Entry
entries_of_row table row = numbered (λ k d. record { table = table; column = k + 1; cell = d } ∷ []) row

abbrev pub entries_of_table : TableContent → List Entry
entries_of_table t = numbered (λ j row. entries_of_row t.name row) t.rows

abbrev pub entries : ListingContent → List Entry
entries L = numbered (λ i t. entries_of_table t) L.tables

-- two cells are of one table and column, and hold the same
abbrev pub is_entry : Entry → Entry → Bool
is_entry a b = is_same a.table b.table && (is_eq (nat_cmp a.column b.column) && is_eq (cell_cmp a.cell b.cell))

-- a cell of this table and column holds this
abbrev pub stands : List Entry → List ℕ → ℕ → CellContent → Bool
stands es table column d = list_any (λ e. is_entry e (record { table = table; column = column; cell = d })) es

-- a row of `_Validation` names tables, and the cell stands in its column of one of them
abbrev pub leads : List Entry → List CellContent → CellContent → Bool
leads es v d = option_map_or (λ tables. list_any (λ table. stands es table (column_in v) d) (slice_split (λ b. b == 59) tables)) (tables_in v) true

-- a cell that holds something and is no key of the tables that `_Validation` names
abbrev pub foreign_found : ListingContent → List Place
foreign_found L = places_where (λ t c. option_map_or (λ v. is_some (tables_in v)) (said_of L t.name c.name) false)
    (λ t c row d. not (is_null d) && option_map_or (λ v. not (leads (entries L) v d)) (said_of L t.name c.name) false) L
