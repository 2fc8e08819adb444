-- Rows by the values that stand first in them.
use Rattle.std.specs.Prelude.{◌≡◌, ℕ, Bool, List, Option, Vec, find, map, option_map, take}
use Rattle.std.specs.BTreeMap.{get}
use Rattle.std.specs.Borrow.{Bor}
use Rattle.std.specs.Ordering.{is_eq}
use Rattle.std.specs.Cmp.Lexicographic.{slice_cmp}
use Rattle.std.specs.declared.alloc.Global.{Global}
use Rattle.std.specs.declared.cmp.Ordering.{Ordering}
use Rattle.std.specs.declared.collections.BTreeMap.{BTreeMap}
use Rattle.msi_values.specs.Datum.{Datum}
use Rattle.msi_values.specs.Borrowed.{borrowed_data}
use Rattle.msi_values.specs.declared.borrowed.BorrowedValue.{BorrowedValue}
use Rattle.msi_values.specs.contracts.borrowed.BorrowedValueOrd.TheImpl.{ghosts as order}
use Rattle.msi_tables.specs.Table.{key_cmp}

-- rows whose values stand elsewhere
abbrev pub rows_said : List (Vec BorrowedValue Global) → List (List Datum)
rows_said rows = map (λ row. borrowed_data row.items) rows

-- a key where its values stand
abbrev pub Key : Type 0
Key = Vec BorrowedValue Global

-- the order of keys
abbrev pub held_cmp : Key → Key → Ordering
held_cmp x y = slice_cmp order.cmp x.items y.items

-- rows by their keys
abbrev pub Index : Type 0
Index = BTreeMap Key (Bor (List BorrowedValue)) Global

-- a row that is found
abbrev pub row_found : Option (Bor (List BorrowedValue)) → Option (List Datum)
row_found found = option_map (λ row. borrowed_data row.now) found

-- the row has this key as its first values
abbrev pub has_first : ℕ → List Datum → List Datum → Bool
has_first width key row = is_eq (key_cmp (take width row) key)

-- each look-up finds the first row with the key
abbrev pub IsIndex : ℕ → List (List Datum) → Index → Type 0
IsIndex width rows index = (key : Key) → row_found (get held_cmp index key) ≡ find (has_first width (borrowed_data key.items)) rows
