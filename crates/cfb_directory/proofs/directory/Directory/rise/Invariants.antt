use Rattle.std.proofs.Common.{◌≡◌, false}
use Rattle.cfb_directory.specs.Turning.{HoldOn, SetsLinks}
use Rattle.cfb_directory.specs.Views.{allocator_of, entries_held}
use Rattle.cfb_fat.specs.Tables.{has_failed_here}
use Rattle.cfb_chain_io.specs.ChainEffects.{KeepsFileInvariants}
use Rattle.cfb_tree.specs.CaseTableViews.{case_table_of}
use Rattle.cfb_directory.proofs.directory.Directory.rise.Given as goal

abbrev pub invariant-rising : goal.invariant-rising
invariant-rising g l = record {
  goes : KeepsFileInvariants (allocator_of l.initial.self) (allocator_of l.self);
  live : has_failed_here (allocator_of l.self) ≡ false;
  links : SetsLinks l.initial.self l.self;
  holds : HoldOn (case_table_of l.letters) (entries_held l.initial.self) (entries_held l.self) l.parent;
}
