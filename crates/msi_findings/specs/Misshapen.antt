-- Columns of _Validation that aren't as they must be.
use Rattle.std.specs.Prelude.{ℕ, ◌+◌, ◌==◌, ◌&&◌, Bool, true, false, not, if◌then◌else◌, List, [], ◌∷◌, ◌++◌, Option, Some, None}
use Rattle.msi_columns.specs.Column.{Column}
use Rattle.msi_columns.specs.declared.column.ColumnType.{ColumnType}
use Rattle.msi_columns.specs.declared.column.ColumnType.TheVariants as kind
use Rattle.msi_tables.specs.Schema.{validation_columns}
use Rattle.msi_tables.specs.Table.{Heading}

-- the types are one
abbrev pub is_same_type : ColumnType → ColumnType → Bool
is_same_type kind.Int16 kind.Int16 = true
is_same_type kind.Int32 kind.Int32 = true
is_same_type (kind.Str m) (kind.Str n) = m == n
is_same_type kind.Binary kind.Binary = true
is_same_type _ _ = false

-- the columns have one type, and both belong to the key or neither does
abbrev pub is_alike : Column → Column → Bool
is_alike c d = is_same_type c.kind d.kind && (if c.key then d.key else not d.key)

-- the positions, from n on, at which columns aren't so, or only one of the lists has one
abbrev pub unlike_from : ℕ → List Column → List Column → List ℕ
unlike_from n [] [] = []
unlike_from n [] (d ∷ ds) = n ∷ unlike_from (n + 1) [] ds
unlike_from n (c ∷ cs) [] = n ∷ unlike_from (n + 1) cs []
unlike_from n (c ∷ cs) (d ∷ ds) = (if is_alike c d then [] else (n ∷ [])) ++ unlike_from (n + 1) cs ds

-- THE POSITIONS, from 1, at which the columns of _Validation, where it is a table, differ from the ten that it must have
abbrev pub misshapen : Option Heading → List ℕ
misshapen None = []
misshapen (Some h) = unlike_from 1 h.columns validation_columns

-- ---- on the way to them

-- the same of columns that may be there
abbrev pub are_alike : Option Column → Option Column → Bool
are_alike None None = true
are_alike None (Some d) = false
are_alike (Some c) None = false
are_alike (Some c) (Some d) = is_alike c d

-- the position of columns that aren't
abbrev pub unlike_at : ℕ → Option Column → Option Column → List ℕ
unlike_at n c d = if are_alike c d then [] else (n ∷ [])
