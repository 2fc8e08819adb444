-- The rows of a table in memory, and their keys in order.
use Rattle.std.specs.Prelude.{◌≡◌, true, false, List, Option, MatchOption, Vec}
use Rattle.std.specs.BTreeSet.{BTreeSet}
use Rattle.std.specs.declared.alloc.Global.{Global}
use Rattle.msi_values.specs.Datum.{Datum}
use Rattle.msi_values.specs.declared.borrowed.BorrowedValue.{BorrowedValue}
use Rattle.msi_pool.specs.PoolState.{PoolState}
use Rattle.msi_tables.specs.Rows.{Row}
use Rattle.msi_tables.specs.Table.{Heading, are_distinct, keys_of}
use Rattle.msi_changes.specs.Applied.{with_rows}
use Rattle.msi_changes.specs.Keys.{HaveSameKeys, keys_said}

-- the heading of a table, its rows, and the pool of their texts
pub record StoredTable : Type 0 where
  pub heading : Heading
  pub rows : List Row
  pub pool : PoolState

-- the keys of the rows (a step of private functions)
abbrev pub stored_keys : StoredTable → List (List Datum)
stored_keys s = keys_of s.pool.pool (with_rows s.heading s.rows)

-- no key stands twice, and the set has just these; there is none where one stands twice (a step of private functions)
abbrev pub AreOrdered : List (List Datum) → Option (BTreeSet (Vec BorrowedValue Global)) → Type 0
AreOrdered keys found = MatchOption found (are_distinct keys ≡ false) (λ set. (are_distinct keys ≡ true) × HaveSameKeys keys (keys_said set.keys))
