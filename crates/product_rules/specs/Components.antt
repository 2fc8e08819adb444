-- Codes of components that are no GUIDs, and codes that stand twice.
use Rattle.std.specs.Prelude.{ℕ, Bool, false, not, ◌&&◌, List, [], Option, codes, bytes_eq, if◌then◌else◌, position, take}
use Rattle.std.specs.List.{list_any}
use Rattle.std.specs.Option.{option_map_or}
use Rattle.msi_listing.specs.Content.{CellContent, ListingContent, TableContent}
use Rattle.msi_texts.specs.Category.{is_guid}
use Rattle.package_rules.specs.Cells.{cell_at}
use Rattle.package_rules.specs.Places.{numbered, place_if, places_where}
use Rattle.package_rules.specs.Said.{words_in}
use Rattle.package_rules.specs.declared.place.Place.{Place}

-- a text that holds something else; a component without a code isn't registered
abbrev pub is_no_guid : CellContent → Bool
is_no_guid d = option_map_or (λ t. not (is_guid t)) (words_in d) false

abbrev pub guid_found : ListingContent → List Place
guid_found L = places_where (λ t c. bytes_eq t.name (codes "Component") && bytes_eq c.name (codes "ComponentId")) (λ t c row d. is_no_guid d) L

-- ---- codes that stand twice

-- the code of a component, in column k
abbrev pub code_at : ℕ → List CellContent → Option (List ℕ)
code_at k row = words_in (cell_at k row)

-- A component has the code q, by each of its characters: a GUID in small letters is told as no GUID.
abbrev pub has_code : ℕ → List ℕ → List CellContent → Bool
has_code k q row = option_map_or (λ t. bytes_eq t q) (code_at k row) false

-- Components of table i that have the code of a component before them: the places of their cells in column k.
abbrev pub again_in_rows : ℕ → ℕ → List (List CellContent) → List Place
again_in_rows i k rows = numbered (λ j row. place_if (option_map_or (λ q. list_any (has_code k q) (take j rows)) (code_at k row) false) i k j) rows

-- the same of the table of components
abbrev pub again_in : ℕ → TableContent → List Place
again_in i t =
    if bytes_eq t.name (codes "Component")
    then option_map_or (λ k. again_in_rows i k t.rows) (position (λ c. bytes_eq c.name (codes "ComponentId")) t.columns) []
    else []

abbrev pub again_found : ListingContent → List Place
again_found L = numbered again_in L.tables
