use Rattle.std.proofs.Common.{◌≡◌, ◌≤◌, ◌-◌, false, length, take}
use Rattle.cfb_fat.specs.Tables.{has_failed_here, KeepsTables}
use Rattle.cfb_chain_io.specs.ChainEffects.{KeepsFileInvariants, HasDataChain, Overwrites}
use Rattle.cfb_chain_io.proofs.writing.overwrite_chain.Given as goal

abbrev pub invariant-write : goal.invariant-write
invariant-write g l = record {
  most : l.done ≤ length l.bytes;
  live : has_failed_here l.allocator ≡ false;
  goes : KeepsFileInvariants {g = g.F.ReadMedium} l.fn.allocator l.allocator;
  tables : KeepsTables {g = g.F.ReadMedium} l.fn.allocator l.allocator;
  written : HasDataChain {g = g.F.ReadMedium} l.fn.allocator l.fn.links → Overwrites {g = g.F.ReadMedium} l.at (take l.done l.bytes) l.fn.allocator l.allocator l.fn.links;
}

abbrev pub decreases-write : goal.decreases-write
decreases-write g l = length l.bytes - l.done
