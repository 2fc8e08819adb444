-- A list of runs in blocks.
use Rattle.std.specs.Prelude.{ℕ, ◌*◌, List, length}
use Rattle.cfb_fat_runs.specs.BlockLen.{most_runs}
use Rattle.cfb_fat_runs.specs.Blocks.{joined_runs}
use Rattle.cfb_fat_runs.specs.declared.run_list.RunList.{RunList}
use Rattle.cfb_fat_runs.specs.declared.runs.Run.{Run}

-- the runs of a list
unfoldable pub all_runs : RunList → List Run
all_runs it = joined_runs it.blocks.items

-- for so many runs there is memory
unfoldable pub room_for_runs : RunList → ℕ
room_for_runs it = length it.blocks.items * most_runs
