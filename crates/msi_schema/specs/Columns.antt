-- Columns as their rows of _Columns and _Validation describe them.
use Rattle.std.specs.Prelude.{ℕ, ◌||◌, List, [], ◌∷◌, Option, Some, None, option_and_then, option_map, ℤ, bytes_eq, codes}
use Rattle.std.specs.Int.{w32, cast_unsigned}
use Rattle.msi_values.specs.Datum.{Datum, null, number, text, binary}
use Rattle.msi_columns.specs.Column.{Column}
use Rattle.msi_tables.specs.Schema.{category_read, choices_read, column_of_bits, described_by, foreign_of, range_of}

-- the text of a value
abbrev pub text_in : Datum → Option (List ℕ)
text_in (text t) = Some t
text_in _ = None

-- the number of a value
abbrev pub number_in : Datum → Option ℤ
number_in (number z) = Some z
number_in _ = None

-- the name and the bits of a column's type in its row of _Columns: a text, a number, a text and a number
abbrev pub head_in : List Datum → Option (List ℕ × ℤ)
head_in (table ∷ n ∷ name ∷ bits ∷ []) =
    option_and_then (λ _. option_and_then (λ _. option_and_then (λ t. option_map (λ z. (t, z)) (number_in bits)) (text_in name)) (number_in n)) (text_in table)
head_in _ = None

-- a column from its row of _Columns, and its row of _Validation where it has one
abbrev pub column_by : Option (List Datum) → List Datum → Option Column
column_by validation row = option_and_then (λ head. option_and_then (described_by validation) (column_of_bits head.0 (cast_unsigned w32 head.1))) (head_in row)

-- ---- what one part of a row of _Validation makes of a column

-- this, where it is there
abbrev pub first_some : {A : Type 0} → Option A → Option A → Option A
first_some (Some x) o = Some x
first_some None o = o

-- the column takes null where the row says so
abbrev pub with_answer : List ℕ → Column → Column
with_answer answer c = record c { nullable = c.nullable || bytes_eq answer (codes "Y") }

-- the range that two values say
abbrev pub with_range : Datum → Datum → Column → Column
with_range low high c = record c { range = first_some (range_of low high) c.range }

-- the foreign key that two values say
abbrev pub with_foreign : Datum → Datum → Column → Column
with_foreign table n c = record c { foreign = first_some (foreign_of table n) c.foreign }

-- the category that a value says
abbrev pub with_category : Datum → Column → Column
with_category name c = record c { category = first_some (category_read name) c.category }

-- the choices that a text says
abbrev pub with_choices : Datum → Column → Column
with_choices (text t) c = record c { choices = choices_read (text t) }
with_choices null c = c
with_choices (number z) c = c
with_choices binary c = c

-- all that a row of ten values says
abbrev pub said_by : List ℕ → (ℕ → Datum) → Column → Column
said_by answer at c = with_choices (at 8) (with_category (at 7) (with_foreign (at 5) (at 6) (with_range (at 3) (at 4) (with_answer answer c))))
