use Rattle.std.proofs.Common.{◌≡◌, map, take}
use Rattle.std.specs.Prelude.{string_bytes}
use Rattle.std.specs.Rc.{rc_value}
use Rattle.msi_tables.specs.Held.{heading_of}
use Rattle.msi.proofs.tables.names_of.Given as goal

-- the names so far
abbrev pub invariant-loop-table : goal.invariant-loop-table
invariant-loop-table l = map string_bytes l.names.items ≡ map (λ h. h.name) (map (λ t. heading_of (rc_value t)) (take l.table-index l.tables))
