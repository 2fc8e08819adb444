use Rattle.std.proofs.Common.{◌≡◌, false, List, [], take, ℕ}
use Rattle.cfb_directory.specs.Entries.{entries_in}
use Rattle.cfb_fat.specs.Tables.{has_failed_here, OnlyReadsAllocator}
use Rattle.cfb_chain_io.specs.ChainEffects.{KeepsFileInvariants}
use Rattle.cfb_ownership.specs.LiveFile.{LiveFile}
use Rattle.cfb_ownership.specs.Owners.{Owners}
use Rattle.cfb_copying.specs.Steps.{HasCopied, IsOriginal}
use Rattle.cfb_copying.proofs.streams.copy_streams.Given as goal

abbrev pub invariant-copy : goal.invariant-copy
invariant-copy g l = record {
  live : has_failed_here l.target ≡ false;
  rests : OnlyReadsAllocator {g = g.F.ReadMedium} l.fn.source l.source;
  goes : KeepsFileInvariants {g = g.T.ReadMedium} l.fn.target l.target;
  copied : (s : LiveFile) (who : Owners) (minis : List ℕ) → IsOriginal {g = g.F.ReadMedium} l.fn.source s who l.ids → HasCopied {g = g.T.ReadMedium} s who [] minis (entries_in l.fn.entries) l.fn.target
      → HasCopied {g = g.T.ReadMedium} s who (take l.id-index l.ids) minis (entries_in l.entries) l.target;
}
