-- Rows that have a cell for each column of their table.
use Rattle.std.specs.Prelude.{◌≡◌, ℕ, List, length}
use Rattle.std.specs.List.{AllByRecursion}
use Rattle.msi_tables.specs.Rows.{Row}
use Rattle.msi_tables.specs.Table.{Table}

-- each row has n cells
abbrev pub Wide : ℕ → List Row → Type 0
Wide n rows = AllByRecursion (λ row. length row ≡ n) rows

-- each row of the table has a cell for each of its columns
abbrev pub HasFullRows : Table → Type 0
HasFullRows t = Wide (length t.columns) t.rows
