-- What `_Validation` says of columns. Its columns: Table, Column, Nullable, MinValue, MaxValue, KeyTable, KeyColumn, Category, Set, Description.
use Rattle.std.specs.Prelude.{ℕ, ℤ, pos, negsuc, Bool, false, not, ◌&&◌, ◌||◌, List, [], ◌∷◌, Option, Some, None, is_some, find, option_and_then, option_map, codes, bytes_eq, if◌then◌else◌}
use Rattle.std.specs.List.{flat_map}
use Rattle.std.specs.Option.{option_map_or}
use Rattle.std.specs.Ordering.{is_eq, nat_cmp}
use Rattle.std.specs.Cmp.Lexicographic.{slice_cmp}
use Rattle.msi_listing.specs.Content.{CellContent, ListingContent, null, number, text, bytes}
use Rattle.package_rules.specs.Cells.{cell_at}

-- the rows of the tables of a name
abbrev pub rows_named : List ℕ → ListingContent → List (List CellContent)
rows_named name L = flat_map (λ t. if bytes_eq t.name name then t.rows else []) L.tables

-- two texts are one
abbrev pub is_same : List ℕ → List ℕ → Bool
is_same s t = is_eq (slice_cmp nat_cmp s t)

-- the text of a cell, if it is one
abbrev pub text_in : CellContent → Option (List ℕ)
text_in (text t) = Some t
text_in null = None
text_in (number z) = None
text_in bytes = None

-- the table and the column that a row of `_Validation` names: two texts
abbrev pub names_in : List CellContent → Option (List ℕ × List ℕ)
names_in v = option_and_then (λ t. option_map (λ c. (t, c)) (text_in (cell_at 1 v))) (text_in (cell_at 0 v))

-- it speaks of this column of this table
abbrev pub speaks_of : List ℕ → List ℕ → List CellContent → Bool
speaks_of table column v = option_map_or (λ n. is_same n.0 table && is_same n.1 column) (names_in v) false

-- the first row that does
abbrev pub said_of : ListingContent → List ℕ → List ℕ → Option (List CellContent)
said_of L table column = find (speaks_of table column) (rows_named (codes "_Validation") L)

-- a text that isn't empty
abbrev pub words_in : CellContent → Option (List ℕ)
words_in (text []) = None
words_in (text (b ∷ bs)) = Some (b ∷ bs)
words_in null = None
words_in (number z) = None
words_in bytes = None

abbrev pub number_in : CellContent → Option ℤ
number_in (number z) = Some z
number_in null = None
number_in (text t) = None
number_in bytes = None

-- A category beside a key that leaves its values free: other values of such a column stand for themselves, as a version in File.Version.
abbrev pub is_free : Option (List ℕ) → Bool
is_free None = false
is_free (Some name) = not (bytes_eq name (codes "Identifier") || bytes_eq name (codes "Text"))

-- the tables of which a row makes the column's cells keys; it names no set beside them
abbrev pub tables_in : List CellContent → Option (List ℕ)
tables_in v = if is_some (words_in (cell_at 8 v)) || is_free (words_in (cell_at 7 v)) then None else words_in (cell_at 5 v)

-- the column of these tables, from 1; a number below 1 names none
abbrev pub column_of : CellContent → ℕ
column_of null = 1
column_of (number (pos n)) = n
column_of (number (negsuc n)) = 0
column_of (text t) = 1
column_of bytes = 1

abbrev pub column_in : List CellContent → ℕ
column_in v = column_of (cell_at 6 v)
