-- Files of exported tables.
use Rattle.std.specs.Prelude.{ℕ, Bool, not, ◌&&◌, List, [], ◌∷◌, ◌++◌, map, Option, Some, None}
use Rattle.std.specs.List.{list_all}
use Rattle.idt_rows.specs.Rows.{Datum, line_of, row_fits, row_in}
use Rattle.idt_rows.specs.declared.cells.Kind.{Kind}
use Rattle.idt_rows.specs.declared.cells.Kind.TheVariants as kind
use Rattle.idt_tables.specs.Headings.{Heading, all_in, heading_in, heading_lines, is_plain}
use Rattle.idt_tables.specs.Lines.{is_line, lines_in, text_of}
use Rattle.idt_tables.specs.declared.types.ColumnType.{ColumnType}
use Rattle.idt_tables.specs.declared.types.Letter.{Letter}
use Rattle.idt_tables.specs.declared.types.Letter.TheVariants as letter

-- what the cells of a column are
abbrev pub kind_of : Letter → Kind
kind_of letter.Text = kind.Text
kind_of letter.Localized = kind.Text
kind_of letter.Number = kind.Number
kind_of letter.Bytes = kind.File

abbrev pub kinds_of : List ColumnType → List Kind
kinds_of types = map (λ t. kind_of t.letter) types

pub record Table : Type 0 where
  pub heading : Heading
  pub rows : List (List Datum)

-- THE FILE OF A TABLE: its heading and a line for each row
abbrev pub file_of : Table → List ℕ
file_of t = text_of (heading_lines t.heading ++ map line_of t.rows)

-- ---- read back

abbrev pub rows_in : List Kind → List (List ℕ) → Option (List (List Datum))
rows_in kinds lines = all_in (row_in kinds) lines

abbrev pub with_rows : Heading → Option (List (List Datum)) → Option Table
with_rows h None = None
with_rows h (Some rows) = Some (record { heading = h; rows = rows })

abbrev pub table_by : Option Heading → List (List ℕ) → Option Table
table_by None lines = None
table_by (Some h) lines = with_rows h (rows_in (kinds_of h.types) lines)

abbrev pub table_of_lines : List (List ℕ) → Option Table
table_of_lines (names ∷ types ∷ keys ∷ rows) = table_by (heading_in (names ∷ types ∷ keys ∷ [])) rows
table_of_lines _ = None

-- WHAT A FILE SAYS
abbrev pub table_in : List ℕ → Option Table
table_in text = table_of_lines (lines_in text)

-- no line feed stands in the names
abbrev pub has_lines : Heading → Bool
has_lines h = list_all is_line (h.table ∷ h.keys) && list_all is_line h.names

-- a plain heading, and rows that fit it
abbrev pub table_fits : Table → Bool
table_fits t = is_plain t.heading && has_lines t.heading && list_all (row_fits (kinds_of t.heading.types)) t.rows
