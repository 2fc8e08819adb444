-- Keys of rows.
use Rattle.std.specs.Prelude.{ℕ, Bool, List, [], ◌∷◌, if◌then◌else◌, map, take, position}
use Rattle.std.specs.List.{list_any}
use Rattle.std.specs.Option.{option_map_or}
use Rattle.std.specs.Ordering.{is_eq, nat_cmp, int_cmp}
use Rattle.std.specs.declared.cmp.Ordering.{Ordering}
use Rattle.std.specs.declared.cmp.Ordering.TheVariants.{Less, Equal, Greater}
use Rattle.std.specs.Cmp.Lexicographic.{slice_cmp}
use Rattle.msi_listing.specs.Content.{CellContent, ColumnContent, TableContent, ListingContent, null, number, text, bytes}
use Rattle.package_rules.specs.Places.{numbered, place_if}
use Rattle.package_rules.specs.declared.place.Place.{Place}

-- nothing comes before numbers, numbers before texts by their bytes, texts before bytes
abbrev pub cell_cmp : CellContent → CellContent → Ordering
cell_cmp null null = Equal
cell_cmp null _ = Less
cell_cmp (number x) null = Greater
cell_cmp (number x) (number y) = int_cmp x y
cell_cmp (number x) (text t) = Less
cell_cmp (number x) bytes = Less
cell_cmp (text s) null = Greater
cell_cmp (text s) (number y) = Greater
cell_cmp (text s) (text t) = slice_cmp nat_cmp s t
cell_cmp (text s) bytes = Less
cell_cmp bytes bytes = Equal
cell_cmp bytes _ = Greater

-- the cells of the key columns
abbrev pub key_cells : List ColumnContent → List CellContent → List CellContent
key_cells [] ds = []
key_cells (c ∷ cs) [] = []
key_cells (c ∷ cs) (d ∷ ds) = if c.key then d ∷ key_cells cs ds else key_cells cs ds

-- two keys are one
abbrev pub same_key : List CellContent → List CellContent → Bool
same_key k q = is_eq (slice_cmp cell_cmp k q)

-- the key is one of these
abbrev pub has_key : List (List CellContent) → List CellContent → Bool
has_key keys k = list_any (λ x. same_key x k) keys

-- The rows of table i that have the key of a row before them: the places of their cells in column k.
abbrev pub repeated_rows : ℕ → TableContent → ℕ → List Place
repeated_rows i t k = numbered (λ j row. place_if (has_key (map (key_cells t.columns) (take j t.rows)) (key_cells t.columns row)) i k j) t.rows

-- the same, where there is a key, of which the first column is meant
abbrev pub repeated_in : ℕ → TableContent → List Place
repeated_in i t = option_map_or (repeated_rows i t) (position (λ c. c.key) t.columns) []

abbrev pub repeated_found : ListingContent → List Place
repeated_found L = numbered repeated_in L.tables
