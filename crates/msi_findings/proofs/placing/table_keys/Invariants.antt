use Rattle.std.proofs.Common.{map, take}
use Rattle.std.specs.Rc.{rc_value}
use Rattle.cfb_tree.specs.CaseTableViews.{case_table_of}
use Rattle.msi_spec.specs.Package.{stream_name}
use Rattle.msi_tables.specs.Held.{heading_of}
use Rattle.msi_store.specs.Placing.{HoldKeys}
use Rattle.msi_findings.proofs.placing.table_keys.Given as goal

-- the keys of the tables so far
abbrev pub invariant-loop-table : goal.invariant-loop-table
invariant-loop-table l = HoldKeys (case_table_of l.letters) (map (λ h. stream_name h.name) (map (λ t. heading_of (rc_value t)) (take l.table-index l.tables))) l.keys
