use Rattle.std.proofs.Common.{◌≡◌, ◌≤◌, drop, take, length}
use Rattle.std.specs.Prelude.{nat_eq}
use Rattle.std.specs.List.{count_by}
use Rattle.cfb_sectors.specs.Sectors.{free}
use Rattle.cfb_fat_runs.specs.RunLists.{all_runs}
use Rattle.cfb_fat_runs.specs.Runs.{start_of}
use Rattle.cfb_fat_runs.specs.Tables.{entries_of}
use Rattle.cfb_fat_runs.proofs.table.Table.count_free.Given as goal

abbrev pub invariant-loop-position : goal.invariant-loop-position
invariant-loop-position l = record {
  inside : l.position ≤ length (all_runs l.self.runs);
  counted : l.count ≡ count_by (λ entry. nat_eq entry free) (take (start_of l.self.len (drop l.position (all_runs l.self.runs))) (entries_of l.self));
}
