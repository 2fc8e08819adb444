-- What stands in the rows of a listing.
use Rattle.std.specs.Prelude.{ℕ, Bool, true, false, List, unwrap_or, slice_get, bytes_eq}
use Rattle.msi_listing.specs.Content.{CellContent, null, number, text, bytes}

-- the cell in a column, from 0; a row that ends before it has none
abbrev pub cell_at : ℕ → List CellContent → CellContent
cell_at k row = unwrap_or (slice_get row k) null

abbrev pub is_null : CellContent → Bool
is_null null = true
is_null (number z) = false
is_null (text t) = false
is_null bytes = false

abbrev pub is_bytes : CellContent → Bool
is_bytes bytes = true
is_bytes null = false
is_bytes (number z) = false
is_bytes (text t) = false

-- the cell holds this text
abbrev pub is_text : List ℕ → CellContent → Bool
is_text t (text s) = bytes_eq s t
is_text t null = false
is_text t (number z) = false
is_text t bytes = false
