use Rattle.std.proofs.Common.{◌+◌, ◌*◌}
use Rattle.serde_json.specs.Data.{depth}
use Rattle.serde_json.specs.View.{view}
use Rattle.command_file.proofs.selects.+selects.Given as goal

abbrev pub decreases-select_at : goal.decreases-select_at
decreases-select_at l = 4 * depth (view l.json.now) + 2

abbrev pub decreases-source_at : goal.decreases-source_at
decreases-source_at l = 4 * depth (view l.json.now) + 1

abbrev pub decreases-source_of : goal.decreases-source_of
decreases-source_of l = 4 * depth (view l.json.now) + 2

abbrev pub decreases-join_of : goal.decreases-join_of
decreases-join_of l = 4 * depth (view l.json.now) + 1

abbrev pub decreases-side_at : goal.decreases-side_at
decreases-side_at l = 4 * depth (view l.json.now)

abbrev pub decreases-side_of : goal.decreases-side_of
decreases-side_of l = 4 * depth (view l.json.now) + 3
