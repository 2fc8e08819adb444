use Rattle.std.proofs.Common.{sym}
use Rattle.cfb_fat_runs.specs.RunLists.{all_runs}
use Rattle.cfb_fat_runs.proofs.Blocked.{joined_long}
use Rattle.cfb_fat_runs.proofs.run_list.RunList.len.Goals as goal

pub returns : goal.returns
unfolding all_runs
returns c = let it = c.args.self.now in sym (joined_long it.len it.blocks.items it.filled it.inside)
