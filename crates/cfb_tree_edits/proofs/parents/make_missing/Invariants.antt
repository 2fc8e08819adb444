use Rattle.std.proofs.Common.{◌≡◌, false}
use Rattle.cfb_fat.specs.Tables.{has_failed_here}
use Rattle.cfb_medium.specs.Times.{units_of}
use Rattle.cfb_mini.specs.Views.{allocator_of}
use Rattle.cfb_chain_io.specs.ChainEffects.{KeepsFileInvariants}
use Rattle.cfb_siblings.specs.Places.{path_of}
use Rattle.cfb_tree.specs.CaseTableViews.{case_table_of}
use Rattle.cfb_tree.specs.Tree.{Tree}
use Rattle.cfb_tree_edits.specs.Parents.{MeansAsFar}
use Rattle.cfb_tree_edits.specs.Orphans.{StaysTidy}
use Rattle.cfb_tree_edits.proofs.parents.make_missing.Given as goal

abbrev pub invariant-making : goal.invariant-making
invariant-making g l = record {
  goes : KeepsFileInvariants (allocator_of l.initial.mini) (allocator_of l.mini);
  live : has_failed_here (allocator_of l.mini) ≡ false;
  made : (tree : Tree) → (so : MeansAsFar (case_table_of l.letters) (units_of l.moment) tree (path_of l.names) l.fn.first l.fn.top l.initial.mini)
      → (far : MeansAsFar (case_table_of l.letters) (units_of l.moment) tree (path_of l.names) l.count l.parent l.mini) × StaysTidy l.initial.mini l.mini so.means.who far.means.who;
}
