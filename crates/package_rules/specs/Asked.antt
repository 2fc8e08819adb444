-- Columns of tables that are asked for.
use Rattle.std.specs.Prelude.{◌≡◌, ◌==◌, ℕ, Bool, true, List}
use Rattle.std.specs.BTreeSet.{contains}
use Rattle.std.specs.List.{list_all, slice_split}
use Rattle.std.specs.Option.{option_map_or}
use Rattle.std.specs.declared.alloc.Global.{Global}
use Rattle.std.specs.declared.collections.BTreeSet.{BTreeSet}
use Rattle.msi_listing.specs.Content.{CellContent}
use Rattle.package_rules.specs.Lent.{lent}
use Rattle.package_rules.specs.Said.{column_in, tables_in}
use Rattle.package_rules.specs.declared.asked.ColumnAt.{ColumnAt}
use Rattle.package_rules.specs.contracts.asked.ColumnAtOrd.TheImpl.{ghosts as columns}

abbrev pub ColumnSet : Type 0
ColumnSet = BTreeSet ColumnAt Global

-- this column of this table is asked for
abbrev pub asks : ColumnSet → List ℕ → ℕ → Bool
asks s table column = contains columns.cmp s (record { column = column; table = lent table })

-- each column is, of which a row of `_Validation` makes the cells of its column keys
abbrev pub asks_all : ColumnSet → List CellContent → Bool
asks_all s v = option_map_or (λ tables. list_all (λ table. asks s table (column_in v)) (slice_split (λ b. b == 59) tables)) (tables_in v) true

abbrev pub AreAsked : List (List CellContent) → ColumnSet → Type 0
AreAsked rows s = list_all (asks_all s) rows ≡ true

-- what was asked for still is
abbrev pub Grows : ColumnSet → ColumnSet → Type 0
Grows old new = (table : List ℕ) (column : ℕ) → asks old table column ≡ true → asks new table column ≡ true
