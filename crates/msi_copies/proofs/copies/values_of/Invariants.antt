use Rattle.std.proofs.Common.{◌≡◌, take}
use Rattle.msi_values.specs.Datum.{data_of}
use Rattle.msi_copies.proofs.copies.values_of.Given as goal

-- the values so far
abbrev pub invariant-loop-index : goal.invariant-loop-index
invariant-loop-index l = data_of l.values.items ≡ take l.index l.row.values
