-- Keys whose values stand elsewhere, as what they say.
use Rattle.std.specs.Prelude.{◌≡◌, List, map, Vec}
use Rattle.std.specs.declared.alloc.Global.{Global}
use Rattle.msi_values.specs.Datum.{Datum}
use Rattle.msi_values.specs.Borrowed.{borrowed_data}
use Rattle.msi_values.specs.declared.borrowed.BorrowedValue.{BorrowedValue}
use Rattle.msi_tables.specs.Table.{has_key}

-- the keys of a list
abbrev pub keys_said : List (Vec BorrowedValue Global) → List (List Datum)
keys_said keys = map (λ key. borrowed_data key.items) keys

-- the second list has just the keys of the first
abbrev pub HaveSameKeys : List (List Datum) → List (List Datum) → Type 0
HaveSameKeys one other = (key : List Datum) → has_key other key ≡ has_key one key
