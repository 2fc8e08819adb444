use Rattle.std.proofs.Common.{◌≡◌, drop}
use Rattle.msi_values.specs.Borrowed.{borrowed_data}
use Rattle.msi_tables.specs.Held.{heading_of}
use Rattle.msi_changes.specs.Changes.{values_set}
use Rattle.msi_changes.specs.Said.{sets_of}
use Rattle.msi_changes.proofs.setting.set_values.Given as goal

abbrev pub invariant-loop-name : goal.invariant-loop-name
invariant-loop-name l = values_set (heading_of l.table).columns (borrowed_data l.values.items) (sets_of (drop l.name-index l.sets)) ≡ values_set (heading_of l.table).columns (borrowed_data l.fn.values.items) (sets_of l.sets)
