use Rattle.std.proofs.Common.{◌≡◌, take}
use Rattle.msi_values.specs.Datum.{data_of}
use Rattle.msi_building.proofs.copies.copies_of.Given as goal

-- the values so far
abbrev pub invariant-loop-value : goal.invariant-loop-value
invariant-loop-value l = data_of l.copies.items ≡ data_of (take l.value-index l.values)
