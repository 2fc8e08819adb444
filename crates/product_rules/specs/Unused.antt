-- Streams that nothing names.
use Rattle.std.specs.Prelude.{ℕ, Bool, true, false, not, ◌&&◌, ◌||◌, ◌==◌, List, [], ◌∷◌, Option, None, bytes_eq}
use Rattle.std.specs.List.{list_any}
use Rattle.std.specs.Option.{option_map_or}
use Rattle.msi_listing.specs.Content.{CellContent, ListingContent, TableContent, null, number, text, bytes}
use Rattle.package_rules.specs.Cells.{cell_at, is_bytes}
use Rattle.package_rules.specs.Places.{numbered}
use Rattle.package_rules.specs.Streams.{stream_name}
use Rattle.product_rules.specs.Media.{is_media}
use Rattle.product_rules.specs.Texts.{packed_name}

-- the stream of a row's bytes has the name q
abbrev pub backs : List ℕ → TableContent → List CellContent → Bool
backs q t row = list_any is_bytes row && bytes_eq (stream_name t row) q

-- the stream that the cabinet of a medium is
abbrev pub packed_of : CellContent → Option (List ℕ)
packed_of (text t) = packed_name t
packed_of null = None
packed_of (number z) = None
packed_of bytes = None

abbrev pub packed_in : List CellContent → Option (List ℕ)
packed_in row = packed_of (cell_at 3 row)

-- has the name q
abbrev pub packs : List ℕ → TableContent → List CellContent → Bool
packs q t row = is_media t.name && option_map_or (λ name. bytes_eq name q) (packed_in row) false

abbrev pub uses_in : List ℕ → TableContent → List CellContent → Bool
uses_in q t row = backs q t row || packs q t row

abbrev pub uses : List ℕ → TableContent → Bool
uses q t = list_any (uses_in q t) t.rows

-- a set of properties
abbrev pub is_property_set : List ℕ → Bool
is_property_set [] = false
is_property_set (b ∷ bs) = b == 5

-- a number, where a test says so
abbrev pub number_if : Bool → ℕ → List ℕ
number_if true k = k ∷ []
number_if false k = []

abbrev pub unused_found : ListingContent → List ℕ
unused_found L = numbered (λ k s. number_if (not (list_any (uses s) L.tables) && not (is_property_set s)) k) L.streams
