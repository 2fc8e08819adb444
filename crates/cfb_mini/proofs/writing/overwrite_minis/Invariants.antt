use Rattle.std.proofs.Common.{◌≡◌, ◌≤◌, ◌-◌, false, length, take}
use Rattle.cfb_chains.specs.Changes.{AreDistinct}
use Rattle.cfb_fat.specs.Tables.{has_failed_here}
use Rattle.cfb_chain_io.specs.ChainEffects.{KeepsFileInvariants, HasDataChain}
use Rattle.cfb_mini.specs.LinkViews.{minis_of}
use Rattle.cfb_mini.specs.Overwriting.{WritesMinis}
use Rattle.cfb_mini.proofs.writing.overwrite_minis.Given as goal

abbrev pub invariant-write : goal.invariant-write
invariant-write g l = record {
  most : l.done ≤ length l.bytes;
  live : has_failed_here l.allocator ≡ false;
  goes : KeepsFileInvariants {g = g.F.ReadMedium} l.fn.allocator l.allocator;
  written : HasDataChain {g = g.F.ReadMedium} l.fn.allocator l.fn.stream → AreDistinct (minis_of l.fn.minis)
      → WritesMinis {g = g.F.ReadMedium} l.at (take l.done l.bytes) l.fn.allocator l.allocator l.fn.stream (minis_of l.fn.minis);
}

abbrev pub decreases-write : goal.decreases-write
decreases-write g l = length l.bytes - l.done
