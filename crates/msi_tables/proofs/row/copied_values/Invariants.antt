use Rattle.std.proofs.Common.{◌≡◌, ◌++◌, drop}
use Rattle.msi_values.specs.Datum.{data_of}
use Rattle.msi_tables.proofs.row.copied_values.Given as goal

abbrev pub invariant-loop-value : goal.invariant-loop-value
invariant-loop-value l = data_of l.copies.items ++ data_of (drop l.value-index l.values) ≡ data_of l.values
