use Rattle.std.proofs.Common.{◌≡◌, ◌≤◌, ◌-◌, drop, length, take}
use Rattle.cfb_fat.specs.Tables.{OnlyReadsAllocator}
use Rattle.cfb_chain_io.specs.ChainEffects.{content_of, HasFatChain}
use Rattle.cfb_chain_io.proofs.reading.read_chain.Given as goal

abbrev pub invariant-read : goal.invariant-read
invariant-read g l = record {
  most : l.done ≤ length l.initial.buffer;
  size : length l.buffer ≡ length l.initial.buffer;
  rests : OnlyReadsAllocator {g = g.F.ReadMedium} l.fn.allocator l.allocator;
  read : HasFatChain {g = g.F.ReadMedium} l.fn.allocator l.fn.links → take l.done l.buffer ≡ take l.done (drop l.at (content_of l.fn.allocator l.fn.links));
}

abbrev pub decreases-read : goal.decreases-read
decreases-read g l = length l.initial.buffer - l.done
