use Rattle.std.proofs.Common.{◌≡◌, ◌++◌, drop}
use Rattle.msi_values.specs.Borrowed.{borrowed_data}
use Rattle.msi_schema.proofs.index.copy_of_values.Given as goal

abbrev pub invariant-loop-value : goal.invariant-loop-value
invariant-loop-value l = borrowed_data l.values.items ++ borrowed_data (drop l.value-index l.row) ≡ borrowed_data l.row
