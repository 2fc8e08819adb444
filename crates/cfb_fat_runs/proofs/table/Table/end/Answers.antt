use Rattle.std.proofs.Common.{arith}
use Rattle.cfb_fat_runs.specs.RunLists.{all_runs}
use Rattle.cfb_fat_runs.proofs.Edited.{runs_few}
use Rattle.cfb_fat_runs.proofs.table.Table.end.Goals as goal

pub overflow_add-position : goal.overflow_add-position
overflow_add-position c = let it = c.args.self.now in let few = runs_few 0 it.len (all_runs it.runs) it.tiled in omega (arith, c.requires, few, it.few)
