-- Cabinets whose stream isn't there, and files that no medium has. The columns of Media: DiskId, LastSequence, DiskPrompt, Cabinet, VolumeLabel, Source.
use Rattle.std.specs.Prelude.{ℕ, ℤ, pos, Bool, true, false, not, ◌&&◌, List, Option, int_le, codes, bytes_eq}
use Rattle.std.specs.List.{list_any}
use Rattle.std.specs.Option.{option_map_or}
use Rattle.msi_listing.specs.Content.{CellContent, ListingContent, TableContent, null, number, text, bytes}
use Rattle.package_rules.specs.Cells.{cell_at}
use Rattle.package_rules.specs.Places.{places_where}
use Rattle.package_rules.specs.Said.{number_in}
use Rattle.package_rules.specs.Streams.{has_stream}
use Rattle.package_rules.specs.declared.place.Place.{Place}
use Rattle.product_rules.specs.Texts.{packed_name}

abbrev pub is_media : List ℕ → Bool
is_media t = bytes_eq t (codes "Media")

-- A name with `#` before it is that of a stream that isn't there; `has` tells which are.
abbrev pub is_lost_name : (List ℕ → Bool) → List ℕ → Bool
is_lost_name has t = option_map_or (λ name. not (has name)) (packed_name t) false

abbrev pub is_lost_cabinet : (List ℕ → Bool) → CellContent → Bool
is_lost_cabinet has (text t) = is_lost_name has t
is_lost_cabinet has null = false
is_lost_cabinet has (number z) = false
is_lost_cabinet has bytes = false

abbrev pub cabinet_found : ListingContent → List Place
cabinet_found L = places_where (λ t c. is_media t.name && bytes_eq c.name (codes "Cabinet")) (λ t c row d. is_lost_cabinet (has_stream L) d) L

-- ---- files

abbrev pub has_media : List TableContent → Bool
has_media ts = list_any (λ t. is_media t.name) ts

-- a number isn't beyond a last one, if there is one
abbrev pub reached_by : Option ℤ → ℤ → Bool
reached_by last z = option_map_or (λ n. int_le z n) last false

-- a medium's last number isn't before z
abbrev pub reaches : ℤ → List CellContent → Bool
reaches z row = reached_by (number_in (cell_at 1 row)) z

-- some medium's isn't
abbrev pub is_reached : List TableContent → ℤ → Bool
is_reached ts z = list_any (λ t. is_media t.name && list_any (reaches z) t.rows) ts

-- a number below 1, or beyond the last of each medium; `reached` tells which aren't beyond
abbrev pub is_beyond_media : (ℤ → Bool) → CellContent → Bool
is_beyond_media reached (number z) = not (int_le (pos 1) z && reached z)
is_beyond_media reached null = false
is_beyond_media reached (text t) = false
is_beyond_media reached bytes = false

abbrev pub sequence_found : ListingContent → List Place
sequence_found L = places_where (λ t c. has_media L.tables && bytes_eq t.name (codes "File") && bytes_eq c.name (codes "Sequence"))
    (λ t c row d. is_beyond_media (is_reached L.tables) d) L
