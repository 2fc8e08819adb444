use Rattle.std.proofs.Common.{◌≡◌, ◌≤◌, ◌-◌, false, length, take}
use Rattle.cfb_fat.specs.Tables.{has_failed_here, OnlyReadsAllocator, KeepsTables}
use Rattle.cfb_chain_io.specs.ChainEffects.{content_of, KeepsFileInvariants, HasDataChain, HasFatChain, Overwrites}
use Rattle.cfb_copying.proofs.chains.copy_bytes.Given as goal

abbrev pub invariant-copy : goal.invariant-copy
invariant-copy g l = record {
  most : l.at ≤ l.len;
  wide : length l.piece ≡ 4096;
  live : has_failed_here l.target ≡ false;
  rests : OnlyReadsAllocator {g = g.F.ReadMedium} l.fn.source l.source;
  goes : KeepsFileInvariants {g = g.T.ReadMedium} l.fn.target l.target;
  tables : KeepsTables {g = g.T.ReadMedium} l.fn.target l.target;
  copied : HasFatChain {g = g.F.ReadMedium} l.fn.source l.fn.from → HasDataChain {g = g.T.ReadMedium} l.fn.target l.fn.to
      → Overwrites {g = g.T.ReadMedium} 0 (take l.at (content_of l.fn.source l.fn.from)) l.fn.target l.target l.fn.to;
}

abbrev pub decreases-copy : goal.decreases-copy
decreases-copy g l = l.len - l.at
