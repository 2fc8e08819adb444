use Rattle.std.proofs.Common.{◌≡◌, ℕ, ◌≤◌, List, false, length, max}
use Rattle.cfb_chains.specs.Grown.{IsChainInTable}
use Rattle.cfb_fat.specs.Tables.{has_failed_here}
use Rattle.cfb_mini.specs.Changing.{HasUniqueOwners, AppendsMiniSectors}
use Rattle.cfb_mini.specs.LinkViews.{minis_of}
use Rattle.cfb_mini.specs.Views.{allocator_of, mini_fat_of}
use Rattle.cfb_chain_io.specs.ChainEffects.{KeepsFileInvariants}
use Rattle.cfb_mini.proofs.mini_allocator.MiniAllocator.lengthen_on.Given as goal

abbrev pub invariant-taking : goal.invariant-taking
invariant-taking g l = record {
  goes : KeepsFileInvariants (allocator_of l.initial.self) (allocator_of l.self);
  live : has_failed_here (allocator_of l.self) ≡ false;
  lengthened : (own : ℕ → List ℕ) → HasUniqueOwners l.initial.self own → IsChainInTable (mini_fat_of l.initial.self) (minis_of l.initial.links)
      → AppendsMiniSectors l.initial.self l.self (minis_of l.initial.links) (minis_of l.links) own × (length (minis_of l.links) ≤ max l.count (length (minis_of l.initial.links)));
}
