use Rattle.std.proofs.Common.{◌≡◌, false, length, take}
use Rattle.cfb_chains.specs.Changes.{HaveEntry}
use Rattle.cfb_fat.specs.Tables.{has_failed_here}
use Rattle.cfb_chain_io.specs.ChainEffects.{KeepsFileInvariants, HasDataChain}
use Rattle.cfb_mini.specs.NumberWrites.{Enters, LiesSo}
use Rattle.cfb_mini.specs.NumberViews.{numbers_of}
use Rattle.cfb_mini.proofs.number_writes.set_numbers.Given as goal

abbrev pub invariant-set : goal.invariant-set
invariant-set g l = record {
  live : has_failed_here l.allocator ≡ false;
  goes : KeepsFileInvariants {g = g.F.ReadMedium} l.fn.allocator l.allocator;
  size : length (numbers_of l.mini_fat.numbers) ≡ length (numbers_of l.fn.mini_fat.numbers);
  lies : LiesSo l.fn.mini_fat l.mini_fat;
  set : HaveEntry l.number (numbers_of l.mini_fat.numbers) (take l.id-index l.mini_sector_ids);
  enters : HasDataChain {g = g.F.ReadMedium} l.fn.allocator l.fn.mini_fat.links → Enters {g = g.F.ReadMedium} l.mini_sector_ids l.fn.allocator l.allocator l.fn.mini_fat l.mini_fat;
}
