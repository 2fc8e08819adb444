-- The places of cells that fail a test: table by table, column by column, row by row.
use Rattle.std.specs.Prelude.{ℕ, Bool, true, false, List, [], ◌∷◌, if◌then◌else◌, slice_get}
use Rattle.std.specs.List.{enumerate_from, flat_map}
use Rattle.std.specs.Option.{option_map_or}
use Rattle.msi_listing.specs.Content.{CellContent, ColumnContent, ListingContent, TableContent}
use Rattle.package_rules.specs.declared.place.Place.{Place}

-- what the elements of a list give, each with its number
abbrev pub numbered : {A B : Type 0} → (ℕ → A → List B) → List A → List B
numbered f xs = flat_map (λ e. f e.0 e.1) (enumerate_from 0 xs)

-- a place, where a test says so
abbrev pub place_if : Bool → ℕ → ℕ → ℕ → List Place
place_if true i k j = record { table = i; column = k; row = j } ∷ []
place_if false i k j = []

-- the cell in column k of a row fails a test of the row and the cell
abbrev pub fails_at : (List CellContent → CellContent → Bool) → ℕ → List CellContent → Bool
fails_at p k row = option_map_or (p row) (slice_get row k) false

-- the places of the cells in column k of table i that fail
abbrev pub places_in_column : (List CellContent → CellContent → Bool) → ℕ → ℕ → List (List CellContent) → List Place
places_in_column p i k rows = numbered (λ j row. place_if (fails_at p k row) i k j) rows

-- a test that says of which columns a rule speaks, and one of the cells there that fail it
abbrev pub places_in_table : (TableContent → ColumnContent → Bool) → (TableContent → ColumnContent → List CellContent → CellContent → Bool) → ℕ → TableContent → List Place
places_in_table speaks fails i t = numbered (λ k c. if speaks t c then places_in_column (fails t c) i k t.rows else []) t.columns

abbrev pub places_where : (TableContent → ColumnContent → Bool) → (TableContent → ColumnContent → List CellContent → CellContent → Bool) → ListingContent → List Place
places_where speaks fails L = numbered (λ i t. places_in_table speaks fails i t) L.tables
