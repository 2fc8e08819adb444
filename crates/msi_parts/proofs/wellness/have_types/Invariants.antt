use Rattle.std.proofs.Common.{◌≡◌, take}
use Rattle.msi_columns.specs.Held.{columns_of}
use Rattle.msi_tables.specs.Rows.{kinds_of}
use Rattle.msi_parts.proofs.wellness.have_types.Given as goal

abbrev pub invariant-loop-place : goal.invariant-loop-place
invariant-loop-place l = take l.place (kinds_of (columns_of l.columns)) ≡ take l.place l.types
