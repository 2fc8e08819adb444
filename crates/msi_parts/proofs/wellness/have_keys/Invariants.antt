use Rattle.std.proofs.Common.{◌≡◌, take}
use Rattle.msi_columns.specs.Held.{columns_of}
use Rattle.std.specs.Prelude.{map}
use Rattle.msi_parts.proofs.wellness.have_keys.Given as goal

abbrev pub invariant-loop-place : goal.invariant-loop-place
invariant-loop-place l = take l.place (map (λ c. c.key) (columns_of l.columns)) ≡ take l.place l.keys
