use Rattle.std.proofs.Common.{◌≡◌, ◌≤◌, ◌-◌, drop, length, take}
use Rattle.cfb_fat.specs.Tables.{OnlyReadsAllocator}
use Rattle.cfb_chain_io.specs.ChainEffects.{content_of, len_of, HasFatChain}
use Rattle.cfb_mini.specs.LinkViews.{minis_of}
use Rattle.cfb_mini.specs.Minis.{mini_joined, AreInside}
use Rattle.cfb_mini.proofs.reading.read_minis.Given as goal

abbrev pub invariant-read : goal.invariant-read
invariant-read g l = record {
  most : l.done ≤ length l.initial.buffer;
  size : length l.buffer ≡ length l.initial.buffer;
  rests : OnlyReadsAllocator {g = g.F.ReadMedium} l.fn.allocator l.allocator;
  read : HasFatChain {g = g.F.ReadMedium} l.fn.allocator l.fn.stream → AreInside (len_of l.fn.stream) (minis_of l.fn.minis)
      → take l.done l.buffer ≡ take l.done (drop l.at (mini_joined (content_of l.fn.allocator l.fn.stream) (minis_of l.fn.minis)));
}

abbrev pub decreases-read : goal.decreases-read
decreases-read g l = length l.initial.buffer - l.done
