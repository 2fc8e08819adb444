use Rattle.std.proofs.Common.{◌≡◌, false}
use Rattle.cfb_directory.specs.Turning.{HoldChild, SetsLinks}
use Rattle.cfb_directory.specs.Views.{allocator_of, entries_held}
use Rattle.cfb_fat.specs.Tables.{has_failed_here}
use Rattle.cfb_chain_io.specs.ChainEffects.{KeepsFileInvariants}
use Rattle.cfb_directory.proofs.directory.Directory.sink.Given as goal

abbrev pub invariant-sinking : goal.invariant-sinking
invariant-sinking g l = record {
  goes : KeepsFileInvariants (allocator_of l.initial.self) (allocator_of l.self);
  live : has_failed_here (allocator_of l.self) ≡ false;
  links : SetsLinks l.initial.self l.self;
  holds : HoldChild (entries_held l.initial.self) (entries_held l.self) l.initial.link l.link l.id;
}
