use Rattle.std.proofs.Common.{◌≡◌, ◌+◌, ◌*◌, length}
use Rattle.std.specs.Prelude.{slice_get, Some}
use Rattle.cfb_tree.specs.Directory.{Entry, kind_root}
use Rattle.cfb_tree.specs.CaseTableViews.{case_table_of}
use Rattle.cfb_directory.specs.Entries.{entries_in}
use Rattle.cfb_directory.specs.Taken.{IsTakenAsRoot}
use Rattle.cfb_directory.proofs.Counting.{unset}
use Rattle.cfb_directory.proofs.Walking.{Walked}
use Rattle.cfb_directory.proofs.walk.is_tree.Given as goal

abbrev pub invariant-walk : goal.invariant-walk
invariant-walk l = (root : Entry) × (slice_get (entries_in l.entries) 0 ≡ Some root) × IsTakenAsRoot l.validation root × (root.kind ≡ kind_root)
    × Walked l.validation (case_table_of l.letters) (entries_in l.entries) root.child l.pending.items l.seen.items

abbrev pub decreases-walk : goal.decreases-walk
decreases-walk l = 3 * unset l.seen.items + length l.pending.items
