use Rattle.std.proofs.Common.{◌≡◌, ◌++◌, ◌-◌, ◌≤◌, false, length, IsTrue, List, ℕ}
use Rattle.cfb_medium.specs.Versions.{sector_len}
use Rattle.cfb_sectors.specs.Initial.{filling}
use Rattle.cfb_sectors.specs.Sectors.{joined}
use Rattle.cfb_chains.specs.ChainCalls.{HasEnd}
use Rattle.cfb_chains.specs.ChainViews.{holder_of, position_of, sectors_of, version_of, IsSameBut}
use Rattle.cfb_chains.specs.Changes.{AreSubsetOf}
use Rattle.cfb_chains.specs.Grown.{AreSectorsWritable, IsChainInTable}
use Rattle.cfb_chains.proofs.chain.Chain.grow_to.Given as goal

abbrev pub invariant-grow : goal.invariant-grow
invariant-grow g l = record {
  grows : (more : List ℕ) × (changed : List ℕ) × (sectors_of l.self ≡ sectors_of l.fn.self ++ more) × g.H.GrowsChains.grows more changed (holder_of l.fn.self) (holder_of l.self)
      × (IsChainInTable (g.H.FreesChains.fat (holder_of l.fn.self)) (sectors_of l.fn.self) → AreSubsetOf (sectors_of l.self) changed);
  most : length (sectors_of l.self) ≤ l.count;
  least : length (sectors_of l.fn.self) ≤ length (sectors_of l.self);
  live : g.H.HasSectors.failed (holder_of l.self) ≡ false;
  orderly : IsTrue (g.H.FreesChains.orderly (holder_of l.self));
  ends : HasEnd g.H.FreesChains.fat l.self;
  linked : IsChainInTable (g.H.FreesChains.fat (holder_of l.fn.self)) (sectors_of l.fn.self) → IsChainInTable (g.H.FreesChains.fat (holder_of l.self)) (sectors_of l.self);
  writable : g.H.GrowsChains.version (holder_of l.fn.self) ≡ version_of l.fn.self → AreSectorsWritable (g.H.ChangesSectors.may_write (holder_of l.fn.self)) (version_of l.fn.self) (sectors_of l.fn.self)
      → AreSectorsWritable (g.H.ChangesSectors.may_write (holder_of l.self)) (version_of l.fn.self) (sectors_of l.self);
  filled : IsTrue (g.H.HasSectors.honest (holder_of l.fn.self)) → g.H.GrowsChains.version (holder_of l.fn.self) ≡ version_of l.fn.self → IsChainInTable (g.H.FreesChains.fat (holder_of l.fn.self)) (sectors_of l.fn.self)
      → AreSectorsWritable (g.H.ChangesSectors.may_write (holder_of l.fn.self)) (version_of l.fn.self) (sectors_of l.fn.self)
      → joined (version_of l.fn.self) (g.H.HasSectors.bytes (holder_of l.self)) (sectors_of l.self)
      ≡ joined (version_of l.fn.self) (g.H.HasSectors.bytes (holder_of l.fn.self)) (sectors_of l.fn.self) ++ filling l.fn.init (length (sectors_of l.self) - length (sectors_of l.fn.self)) (sector_len (version_of l.fn.self));
  same : IsSameBut l.fn.self l.self;
  position : position_of l.self ≡ position_of l.fn.self;
}

abbrev pub decreases-grow : goal.decreases-grow
decreases-grow g l = l.count - length (sectors_of l.self)
