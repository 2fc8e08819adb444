use Rattle.std.proofs.Common.{◌≡◌, true, take}
use Rattle.std.specs.List.{list_all}
use Rattle.package_rules.specs.Asked.{Grows, asks}
use Rattle.package_rules.proofs.asked.add_parts.Given as goal

-- the columns so far are asked for, beside those that were
abbrev pub invariant-loop-table : goal.invariant-loop-table
invariant-loop-table l = record {
  grows : Grows l.fn.asked l.asked;
  there : list_all (λ t. asks l.asked t.now l.column) (take l.table-index l.tables) ≡ true;
}
