use Rattle.std.proofs.Common.{◌≡◌, ◌+◌, ◌-◌, ◌*◌, length}
use Rattle.std.specs.Prelude.{slice_get, Some}
use Rattle.cfb_tree.specs.Directory.{Entry}
use Rattle.cfb_directory.specs.Views.{entries_held}
use Rattle.cfb_soundness.proofs.EntrySteps.{Walked}
use Rattle.cfb_soundness.proofs.entries.tree_entries.Given as goal

abbrev pub invariant-walk : goal.invariant-walk
invariant-walk g l = (root : Entry) × (slice_get (entries_held l.directory) 0 ≡ Some root) × Walked (entries_held l.directory) root.child l.ids.items l.pending.items l.met

abbrev pub decreases-walk : goal.decreases-walk
decreases-walk g l = 4 * (length (entries_held l.directory) - l.met) + length l.pending.items
