-- A table of texts as lines: its cells in columns, each filled up with blanks to the width of its column. Texts are bytes of UTF-8, widths
-- numbers of characters; 32 is a blank, 45 a dash.
use Rattle.std.specs.Prelude.{ℕ, ◌+◌, ◌-◌, List, [], ◌∷◌, ◌++◌, chars, length, map, max, min, replicate, slice_index_or, string_bytes}
use Rattle.std.specs.Str.{trim_end}
use Rattle.text_columns.specs.declared.cell.Cell.{Cell}
use Rattle.text_columns.specs.declared.cell.Side.{Side}
use Rattle.text_columns.specs.declared.cell.Side.TheVariants.{Left, Right}

-- how many characters a cell has
abbrev pub width_of : Cell → ℕ
width_of c = length (chars (string_bytes c.text))

-- the widths of a row's cells, each at most the limit
abbrev pub cell_widths : ℕ → List Cell → List ℕ
cell_widths limit row = map (λ c. min (width_of c) limit) row

-- column by column the greater width
abbrev pub wider : List ℕ → List ℕ → List ℕ
wider [] vs = vs
wider (u ∷ us) [] = u ∷ us
wider (u ∷ us) (v ∷ vs) = max u v ∷ wider us vs

-- THE WIDTHS OF THE COLUMNS: each has that of its widest cell
abbrev pub widths : ℕ → List (List Cell) → List ℕ
widths limit [] = []
widths limit (row ∷ rows) = wider (cell_widths limit row) (widths limit rows)

-- a text with so many blanks: behind what stands at the left, before what stands at the right
abbrev pub filled : Side → ℕ → List ℕ → List ℕ
filled Left n text = text ++ replicate n 32
filled Right n text = replicate n 32 ++ text

-- a cell filled up to a width, and two blanks
abbrev pub in_column : ℕ → Cell → List ℕ
in_column width c = filled c.side (width - width_of c) (string_bytes c.text) ++ 32 ∷ 32 ∷ []

-- the cells of a row, the first of which stands in column k
abbrev pub in_columns : List ℕ → ℕ → List Cell → List ℕ
in_columns ws k [] = []
in_columns ws k (c ∷ cs) = in_column (slice_index_or ws k 0) c ++ in_columns ws (k + 1) cs

-- as many dashes as each column is wide
abbrev pub dashes : List ℕ → List ℕ
dashes [] = []
dashes (w ∷ ws) = replicate w 45 ++ 32 ∷ 32 ∷ dashes ws

-- A ROW AS A LINE, and the line under the heading: without blanks at the end
abbrev pub line : List ℕ → List Cell → List ℕ
line ws row = trim_end (in_columns ws 0 row)

abbrev pub dash_line : List ℕ → List ℕ
dash_line ws = trim_end (dashes ws)

-- THE TABLE
abbrev pub table_lines : ℕ → List Cell → List (List Cell) → List (List ℕ)
table_lines limit heading rows =
    let ws = widths limit (heading ∷ rows) in
    line ws heading ∷ dash_line ws ∷ map (line ws) rows
