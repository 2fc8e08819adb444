-- Worked inserts, updates and deletes, computed from the definitions.
use Rattle.std.proofs.Common.{◌≡◌, ℕ, true, false, List, [], ◌∷◌, refl, map, pos, negsuc}
use Rattle.std.specs.Prelude.{Some, None, Ok, Err, codes}
use Rattle.std.specs.Fmt.{debug_escape}
use Rattle.std.specs.Str.{chars}
use Rattle.std.proofs.Math.Utf8.{encode}
use Rattle.msi_values.specs.Datum.{null, number, text}
use Rattle.msi_pool.specs.Pool.{Pool}
use Rattle.msi_columns.specs.Column.{plain, as_key, but_null}
use Rattle.msi_tables.specs.Rows.{Row}
use Rattle.msi_tables.specs.Table.{Table}
use Rattle.msi_expr.specs.Formula.{literal, column, two}
use Rattle.msi_changes.specs.Printed.{insert_text, update_text}
use Rattle.msi_changes.specs.Changes.{inserted, updated, deleted, all_taken_back}
use Rattle.msi_texts.specs.declared.codepage.CodePage.TheVariants as page
use Rattle.msi_columns.specs.declared.column.ColumnType.TheVariants as kind
use Rattle.msi_pool.specs.declared.stringref.ValueRef.TheVariants as cell
use Rattle.msi_expr.specs.declared.operators.BinOp.TheVariants as binary_op
use Rattle.cfb_medium.specs.declared.error.Error.TheVariants.{InvalidInput, InvalidData, AlreadyExists}

abbrev pool : Pool
pool = record { page = page.Utf8; long = false; places = [] }

abbrev int : ℕ → Row
int n = cell.Int (pos n) ∷ []

abbrev of_numbers : List ℕ → List ℕ → List ℕ → Table
of_numbers name only numbers = record { name = name; columns = as_key (plain only kind.Int16) ∷ []; rows = map int numbers }

abbrev left : Table
left = of_numbers (codes "L") (codes "A") (1 ∷ 2 ∷ [])

-- a key that is there, twice the same new key, and a number that no cell holds
key_stored : inserted true pool left ((number (pos 1) ∷ []) ∷ []) ≡ Err AlreadyExists
key_stored = refl

key_twice : inserted true pool left ((number (pos 3) ∷ []) ∷ (number (pos 3) ∷ []) ∷ []) ≡ Err InvalidInput
key_twice = refl

lowest_number : inserted true pool left ((number (negsuc 32767) ∷ []) ∷ []) ≡ Err InvalidInput
lowest_number = refl

one_added : inserted true pool left ((number (pos 3) ∷ []) ∷ []) ≡ Ok (int 1 ∷ int 2 ∷ int 3 ∷ [], pool)
one_added = refl

keys_made_equal : updated true pool left ((codes "A", number (pos 3)) ∷ []) None ≡ Err AlreadyExists
keys_made_equal = refl

one_changed : updated true pool left ((codes "A", number (pos 3)) ∷ []) (Some (two binary_op.Eq (column (codes "A")) (literal (number (pos 1))))) ≡ Ok (int 3 ∷ int 2 ∷ [], pool)
one_changed = refl

-- a text whose last use is taken back leaves its place
abbrev with_text : Pool
with_text = record pool { places = record { text = codes "x"; count = 1 } ∷ [] }

last_use : all_taken_back with_text (cell.Str 1 ∷ []) ≡ Ok (record pool { places = record { text = []; count = 0 } ∷ [] })
last_use = refl

-- Refusals in their order.
abbrev names : Table
names = record { name = codes "N"; columns = as_key (plain (codes "Name") (kind.Str 8)) ∷ but_null (plain (codes "Size") kind.Int16) ∷ []; rows = (cell.Str 1 ∷ cell.Null ∷ []) ∷ [] }

-- a bad value comes before a key that is there, and that before the table that is closed
bad_value_first : inserted false with_text names ((text (codes "x") ∷ number (pos 1) ∷ []) ∷ (text (codes "too long a name") ∷ null ∷ []) ∷ []) ≡ Err InvalidInput
unfolding chars encode
bad_value_first = refl

key_before_closed : inserted false with_text names ((text (codes "x") ∷ number (pos 1) ∷ []) ∷ []) ≡ Err AlreadyExists
unfolding chars encode
key_before_closed = refl

closed_last : inserted false with_text names ((text (codes "y") ∷ number (pos 1) ∷ []) ∷ []) ≡ Err InvalidInput
unfolding chars encode
closed_last = refl

-- rows that repeat a key take no row, but a bad value is told first
abbrev twice : Table
twice = record names { rows = (cell.Str 1 ∷ cell.Null ∷ []) ∷ (cell.Str 1 ∷ cell.Null ∷ []) ∷ [] }

keys_repeated : inserted true with_text twice [] ≡ Err InvalidData
keys_repeated = refl

value_before_keys : inserted true with_text twice ((null ∷ null ∷ []) ∷ []) ≡ Err InvalidInput
value_before_keys = refl

-- the old use is taken back before the new one is counted: the place comes back
place_again : updated true with_text names ((codes "Name", text (codes "y")) ∷ []) None
    ≡ Ok ((cell.Str 1 ∷ cell.Null ∷ []) ∷ [], record with_text { places = record { text = codes "y"; count = 1 } ∷ [] })
unfolding chars encode
place_again = refl

-- which rows match is judged before the first is changed
abbrev counters : Table
counters = of_numbers (codes "C") (codes "A") (1 ∷ 2 ∷ [])

all_deleted : deleted true pool counters None ≡ Ok ([], pool)
all_deleted = refl

unknown_in_delete : deleted true pool counters (Some (column (codes "B"))) ≡ Err InvalidInput
unknown_in_delete = refl

-- ---- texts

insert_printed : insert_text (codes "Foobar") ((text (codes "Foo") ∷ null ∷ []) ∷ []) ≡ Some (codes "INSERT INTO Foobar VALUES (\"Foo\", NULL)")
unfolding debug_escape
insert_printed = refl

nothing_set : update_text (codes "T") [] None ≡ Some (codes "UPDATE T SET ")
nothing_set = refl
