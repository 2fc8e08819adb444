-- Rows of exported tables.
use Rattle.std.specs.Prelude.{ℕ, zero, suc, Bool, false, List, [], ◌∷◌, ◌++◌, Option, Some, None, map, if◌then◌else◌}
use Rattle.std.specs.Fmt.{signed_decimal}
use Rattle.std.specs.List.{flat_map}
use Rattle.msi_values.specs.Datum.{Datum, null, number, text, binary}
use Rattle.msi_columns.specs.Column.{Column}
use Rattle.msi_tables.specs.Row.{ValueRow}
use Rattle.msi_tables.specs.Table.{key_values}
use Rattle.idt_rows.specs.Rows as cell

-- a value as a cell; bytes are the name of the file that has them, where there is one
abbrev pub cell_of : Option (List ℕ) → Datum → cell.Datum
cell_of file null = cell.null
cell_of file (number z) = cell.number z
cell_of file (text t) = cell.text t
cell_of None binary = cell.null
cell_of (Some name) binary = cell.file name

-- the line of a row
abbrev pub row_line : Option (List ℕ) → ValueRow → List ℕ
row_line file row = cell.line_of (map (cell_of file) row.values)

-- the column at a place belongs to the key
abbrev pub is_key_at : List Column → ℕ → Bool
is_key_at [] i = false
is_key_at (c ∷ cs) zero = c.key
is_key_at (c ∷ cs) (suc i) = is_key_at cs i

-- a key in the name of a stream
abbrev pub key_text : Datum → List ℕ
key_text null = []
key_text (number z) = signed_decimal z
key_text (text t) = t
key_text binary = []

-- a key behind a dot, and nothing of another value
abbrev pub key_part : Bool → Datum → List ℕ
key_part is_key d = if is_key then 46 ∷ key_text d else []

abbrev pub keys_text : List Datum → List ℕ
keys_text keys = flat_map (λ key. 46 ∷ key_text key) keys

-- the stream in which a row's bytes lie: the names of the table and its keys, a dot before each key
abbrev pub stream_of : List ℕ → ValueRow → List ℕ
stream_of table row = table ++ keys_text (key_values row.columns row.values)
