-- Rows of `_Validation` under the columns of which they speak, and cells in a set, as they stand in memory.
use Rattle.std.specs.Prelude.{◌≡◌, ◌==◌, ℕ, Bool, true, List, Option, find, option_map}
use Rattle.std.specs.Borrow.{Bor}
use Rattle.std.specs.BTreeMap.{get}
use Rattle.std.specs.BTreeSet.{contains}
use Rattle.std.specs.List.{list_any, slice_split}
use Rattle.std.specs.Option.{option_map_or}
use Rattle.std.specs.declared.alloc.Global.{Global}
use Rattle.std.specs.declared.collections.BTreeMap.{BTreeMap}
use Rattle.std.specs.declared.collections.BTreeSet.{BTreeSet}
use Rattle.msi_listing.specs.Content.{CellContent, null, number, text, bytes}
use Rattle.package_rules.specs.Asked.{ColumnSet, asks}
use Rattle.package_rules.specs.Foreign.{Entry, is_entry}
use Rattle.package_rules.specs.Lent.{lent}
use Rattle.package_rules.specs.Parts.{said}
use Rattle.package_rules.specs.Said.{column_in, speaks_of, tables_in}
use Rattle.package_rules.specs.declared.names.ColumnName.{ColumnName}
use Rattle.package_rules.specs.contracts.names.ColumnNameOrd.TheImpl.{ghosts as names}
use Rattle.package_rules.specs.declared.entries.CellKey.{CellKey}
use Rattle.package_rules.specs.contracts.entries.CellKeyOrd.TheImpl.{ghosts as keys}
use Rattle.package_rules.specs.declared.parts.Part.{Part}
use Rattle.package_rules.specs.declared.parts.Part.TheVariants as part

-- rows by the columns of which they speak
abbrev pub Said : Type 0
Said = BTreeMap ColumnName (Bor (List CellContent)) Global

-- each look-up finds the first row that speaks of the column
abbrev pub AreFirsts : List (List CellContent) → Said → Type 0
AreFirsts rows m = (q : ColumnName) → option_map (λ r. r.now) (get names.cmp m q) ≡ find (speaks_of q.table.now q.column.now) rows

-- the row under the names of a table and a column
abbrev pub said_at : Said → List ℕ → List ℕ → Option (List CellContent)
said_at m table column = option_map (λ r. r.now) (get names.cmp m (record { table = lent table; column = lent column }))

-- ---- cells

abbrev pub CellSet : Type 0
CellSet = BTreeSet CellKey Global

abbrev pub entry_of : CellKey → Entry
entry_of k = record { table = k.table.now; column = k.column; cell = said k.cell }

-- in columns that are asked for the set has just these cells
abbrev pub AreEntries : ColumnSet → List Entry → CellSet → Type 0
AreEntries a es s = (q : CellKey) → asks a q.table.now q.column ≡ true → contains keys.cmp s q ≡ list_any (λ e. is_entry e (entry_of q)) es

-- a cell that stands somewhere
abbrev pub part_of : CellContent → Part
part_of null = part.Null
part_of (number z) = part.Number z
part_of (text t) = part.Text (lent t)
part_of bytes = part.Bytes

-- the set has a cell of this table and column that holds this
abbrev pub is_in : CellSet → List ℕ → ℕ → CellContent → Bool
is_in s table column d = contains keys.cmp s (record { cell = part_of d; column = column; table = lent table })

-- a row of `_Validation` names tables, and such a cell stands in its column of one of them
abbrev pub leads_in : CellSet → List CellContent → CellContent → Bool
leads_in s v d = option_map_or (λ tables. list_any (λ table. is_in s table (column_in v) d) (slice_split (λ b. b == 59) tables)) (tables_in v) true
