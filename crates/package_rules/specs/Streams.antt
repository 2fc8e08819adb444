-- Cells of bytes, and the streams that have them.
use Rattle.std.specs.Prelude.{ℕ, Bool, true, false, not, ◌&&◌, List, [], ◌∷◌, ◌++◌, bytes_eq}
use Rattle.std.specs.Fmt.{signed_decimal}
use Rattle.std.specs.List.{flat_map, list_any}
use Rattle.msi_listing.specs.Content.{CellContent, ListingContent, TableContent, null, number, text, bytes}
use Rattle.msi_listing.specs.declared.column.Kind.{Kind}
use Rattle.msi_listing.specs.declared.column.Kind.TheVariants as kind
use Rattle.package_rules.specs.Cells.{is_bytes}
use Rattle.package_rules.specs.Keys.{key_cells}
use Rattle.package_rules.specs.Places.{places_where}
use Rattle.package_rules.specs.declared.place.Place.{Place}

-- a cell of a key in the name of a stream
abbrev pub shown : CellContent → List ℕ
shown null = []
shown (number z) = signed_decimal z
shown (text t) = t
shown bytes = []

-- the stream of a row: its table and the cells of its key, with a dot before each of these
abbrev pub stream_name : TableContent → List CellContent → List ℕ
stream_name t row = t.name ++ flat_map (λ d. 46 ∷ shown d) (key_cells t.columns row)

abbrev pub has_stream : ListingContent → List ℕ → Bool
has_stream L name = list_any (λ s. bytes_eq s name) L.streams

abbrev pub is_binary : Kind → Bool
is_binary kind.Binary = true
is_binary kind.Int16 = false
is_binary kind.Int32 = false
is_binary (kind.Str n) = false

-- bytes whose stream isn't there
abbrev pub stream_found : ListingContent → List Place
stream_found L = places_where (λ t c. is_binary c.kind) (λ t c row d. is_bytes d && not (has_stream L (stream_name t row))) L
