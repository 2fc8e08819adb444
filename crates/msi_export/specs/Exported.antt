-- Tables as Windows Installer exports them: a line of the columns' names, a line of their types, and a line of the table's name and its
-- keys' names, with a tab between each two.
use Rattle.std.specs.Prelude.{ℕ, Bool, List, [], ◌∷◌, map, filter, if◌then◌else◌}
use Rattle.std.specs.Char.{to_ascii_uppercase}
use Rattle.std.specs.Fmt.{decimal}
use Rattle.std.specs.List.{join_with_byte}
use Rattle.msi_columns.specs.Column.{Column}
use Rattle.msi_columns.specs.declared.column.ColumnType.{ColumnType}
use Rattle.msi_columns.specs.declared.column.ColumnType.TheVariants as kind
use Rattle.msi_tables.specs.Table.{Heading}

-- `i` for numbers, `s` for texts, `l` for texts that are translated, `v` for bytes
abbrev pub letter : ColumnType → Bool → ℕ
letter kind.Int16 localizable = 105
letter kind.Int32 localizable = 105
letter (kind.Str n) localizable = if localizable then 108 else 115
letter kind.Binary localizable = 118

-- how many bytes a number has, and how many characters a text has at most
abbrev pub width : ColumnType → ℕ
width kind.Int16 = 2
width kind.Int32 = 4
width (kind.Str n) = n
width kind.Binary = 0

-- the letter, in capitals where the column takes null, and the width
abbrev pub exported_type : Column → List ℕ
exported_type c =
    (if c.nullable then to_ascii_uppercase (letter c.kind c.localizable) else letter c.kind c.localizable)
    ∷ decimal (width c.kind)

abbrev pub exported_heading : Heading → List (List ℕ)
exported_heading h =
    join_with_byte 9 (map (λ c. c.name) h.columns)
    ∷ join_with_byte 9 (map exported_type h.columns)
    ∷ join_with_byte 9 (h.name ∷ map (λ c. c.name) (filter (λ c. c.key) h.columns))
    ∷ []
