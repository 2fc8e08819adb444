use Rattle.std.proofs.Common.{◌≡◌, ◌-◌, ◌≤◌, length}
use Rattle.cfb_fat_runs.specs.Blocks.{joined_runs, HasOneMoreAt}
use Rattle.cfb_fat_runs.proofs.run_list.spread.Given as goal

abbrev pub invariant-spread : goal.invariant-spread
invariant-spread l = record {
  to : l.at ≤ l.last;
  size : length l.blocks.items ≡ length l.fn.blocks.items;
  runs : joined_runs l.blocks.items ≡ joined_runs l.fn.blocks.items;
  more : HasOneMoreAt l.len l.at l.blocks.items;
}

abbrev pub decreases-spread : goal.decreases-spread
decreases-spread l = l.last - l.at
