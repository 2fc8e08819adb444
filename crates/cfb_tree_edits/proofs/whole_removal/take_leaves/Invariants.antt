use Rattle.std.proofs.Common.{◌≡◌, false}
use Rattle.cfb_directory.specs.Views.{entries_held}
use Rattle.cfb_fat.specs.Tables.{has_failed_here}
use Rattle.cfb_mini.specs.Views.{allocator_of, directory_of}
use Rattle.cfb_chain_io.specs.ChainEffects.{KeepsFileInvariants}
use Rattle.cfb_tree.specs.Names.{CaseTable}
use Rattle.cfb_tree.specs.Paths.{Path}
use Rattle.cfb_tree.specs.Tree.{Tree}
use Rattle.cfb_tree_edits.specs.WholeRemoval.{HasStorage, IsWayTo}
use Rattle.cfb_tree_edits.specs.Live.{LiveFileMeansTree}
use Rattle.cfb_tree_edits.proofs.Emptied.{Emptying}
use Rattle.cfb_tree_edits.proofs.whole_removal.take_leaves.Given as goal

abbrev pub invariant-taking : goal.invariant-taking
invariant-taking g l = record {
  goes : KeepsFileInvariants (allocator_of l.initial.mini) (allocator_of l.mini);
  live : has_failed_here (allocator_of l.mini) ≡ false;
  emptying : (letters : CaseTable) (tree : Tree) (path : Path) → (m : LiveFileMeansTree letters l.initial.mini tree) → HasStorage letters tree path
      → IsWayTo letters (entries_held (directory_of l.initial.mini)) path l.initial.above.items l.fn.top
      → Emptying letters path tree l.initial.mini l.mini m.who l._step l.count × IsWayTo letters (entries_held (directory_of l.mini)) path l.above.items l.at;
}
