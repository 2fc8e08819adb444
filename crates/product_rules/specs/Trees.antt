-- Directories and features that stand below themselves. A row names the row above it by what that has in the first column.
use Rattle.std.specs.Prelude.{ℕ, zero, suc, ◌+◌, ◌^◌, Bool, true, false, ◌&&◌, List, [], ◌∷◌, Option, Some, None, is_some, map, slice_get, unwrap_or, option_and_then, codes, bytes_eq, if◌then◌else◌, position}
use Rattle.std.specs.Option.{option_map_or}
use Rattle.msi_listing.specs.Content.{CellContent, ListingContent, TableContent}
use Rattle.package_rules.specs.Cells.{cell_at}
use Rattle.package_rules.specs.Places.{numbered, place_if}
use Rattle.package_rules.specs.Said.{words_in}
use Rattle.package_rules.specs.declared.place.Place.{Place}

-- a row is named so
abbrev pub has_name : List ℕ → List CellContent → Bool
has_name name row = option_map_or (λ t. bytes_eq t name) (words_in (cell_at 0 row)) false

-- the first row that is named so, where the rows are counted from n
abbrev pub number_of : List ℕ → ℕ → List (List CellContent) → Option ℕ
number_of name n [] = None
number_of name n (row ∷ rows) = if has_name name row then Some n else number_of name (n + 1) rows

-- The row above a row, which the cell in column k names; `named` finds rows by their names. A root has none: its cell is null, or, where `own`, names the row itself. So has a row that names none.
abbrev pub parent_by : (List ℕ → Option ℕ) → Bool → ℕ → List CellContent → Option ℕ
parent_by named own k row = option_and_then (λ name. if own && has_name name row then None else named name) (words_in (cell_at k row))

-- those of all rows
abbrev pub parents_in : Bool → ℕ → List (List CellContent) → List (Option ℕ)
parents_in own k rows = map (parent_by (λ name. number_of name 0 rows) own k) rows

-- the row above row j
abbrev pub above : List (Option ℕ) → ℕ → Option ℕ
above parents j = unwrap_or (slice_get parents j) None

-- the row n steps above row j
abbrev pub after_steps : List (Option ℕ) → ℕ → ℕ → Option ℕ
after_steps parents zero j = Some j
after_steps parents (suc n) j = option_and_then (after_steps parents n) (above parents j)

-- Going up from row j doesn't end: there is still a row after 2 ^ 64 steps, and no table has so many rows.
unfoldable pub is_endless : List (Option ℕ) → ℕ → Bool
is_endless parents j = is_some (after_steps parents (2 ^ 64) j)

-- the places of the cells in column k from which going up doesn't end
abbrev pub endless_rows : ℕ → Bool → ℕ → List (List CellContent) → List Place
endless_rows i own k rows = numbered (λ j row. place_if (is_endless (parents_in own k rows) j) i k j) rows

-- the same, where the table has such a column
abbrev pub endless_by : ℕ → Bool → List ℕ → TableContent → List Place
endless_by i own column t = option_map_or (λ k. endless_rows i own k t.rows) (position (λ c. bytes_eq c.name column) t.columns) []

-- A directory that names itself is a root; a feature that does is below itself.
abbrev pub endless_in : ℕ → TableContent → List Place
endless_in i t =
    if bytes_eq t.name (codes "Directory") then endless_by i true (codes "Directory_Parent") t
    else if bytes_eq t.name (codes "Feature") then endless_by i false (codes "Feature_Parent") t
    else []

abbrev pub tree_found : ListingContent → List Place
tree_found L = numbered endless_in L.tables
