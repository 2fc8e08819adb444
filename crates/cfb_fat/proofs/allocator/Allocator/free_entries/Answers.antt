use Rattle.std.proofs.Common.{false, ◌≡◌, ◌*◌, ◌<◌, ◌≤◌, length, refl, sym, subst, arith, IsTrue}
use Rattle.std.specs.Prelude.{slice_index}
use mathlib.Core.Logic.{∥∥₁_map}
use Rattle.cfb_fat_runs.specs.Tables.{entries_of}
use Rattle.cfb_sectors.specs.Held.{bytes_of, has_failed_here, IsHonest}
use Rattle.cfb_sectors.specs.Sectors.{free}
use Rattle.cfb_chains.specs.Changes.{AreDistinct, HaveEntry}
use Rattle.cfb_fat.specs.Changing.{fat_here, WritesFatEntries}
use Rattle.cfb_fat.proofs.EndsKept.{ends_beside}
use Rattle.cfb_fat.proofs.Entering.{once_behind, order_stays}
use Rattle.cfb_fat.proofs.EntryWrites.{packed_freed, same_freed}
use Rattle.cfb_fat.proofs.FatEntries.{per}
use Rattle.cfb_fat.proofs.Listing.{header_whole}
use Rattle.cfb_fat.proofs.allocator.Allocator.free_entries.Goals as goal

pub invariant_of-self-2 : goal.invariant_of-self-2
invariant_of-self-2 g c =
    let it = c.args.self.now in
    let fs = it.fat_sectors.items in
    let ds = it.difat_sectors.items in
    let ids = c.args.sector_ids.now in
    let new = c.write_entries.new.sectors in
    let did : WritesFatEntries {g = g.F.ReadMedium} ids fs it.sectors new = subst (λ l. WritesFatEntries {g = g.F.ReadMedium} ids l it.sectors new) c.deref.ensures.value c.in_ok-write_entries.ensures.writes in
    let entries : has_failed_here {g = g.F.ReadMedium} new ≡ false → IsHonest {g = g.F.ReadMedium} it.sectors → AreDistinct fs → HaveEntry free (fat_here {g = g.F.ReadMedium} fs new) ids =
    subst (λ l. has_failed_here {g = g.F.ReadMedium} new ≡ false → IsHonest {g = g.F.ReadMedium} it.sectors → AreDistinct l → HaveEntry free (fat_here {g = g.F.ReadMedium} l new) ids) c.deref.ensures.value c.in_ok-write_entries.ensures.entries in
    let memory = c.free_all.ensures.frees in
    let now = entries_of c.free_all.new.self in
    let order = it.orderly c.requires.orderly in
    let size = memory.size in
    record {
      same = λ live honest.
          let was = subst IsTrue did.honest honest in
          let once = once_behind ds fs order.once in
          same_freed ids (entries_of it.fat) now (fat_here {g = g.F.ReadMedium} fs it.sectors) (fat_here {g = g.F.ReadMedium} fs new) (it.same (did.live live) was) memory (did.fat live was once) (entries live was once);
      there = λ live k inside. subst (λ n. slice_index fs k < n) (sym did.count) (it.there (did.live live) k inside);
      inside = λ live. let most = it.inside (did.live live) in omega (arith, size, did.count, most);
      whole = subst (λ v. length now ≤ length fs * per v) (sym did.version) (omega (arith, size, it.whole));
      packed = packed_freed (entries_of it.fat) now ds fs ids it.first_free c.lowest_of-self.result it.packed c.lowest_of-self.ensures.before c.lowest_of-self.ensures.each memory;
      orderly = λ is. order_stays it.sectors.version new.version _ _ (entries_of it.fat) now fs ds did.version did.count size (it.orderly is);
      read_difat = it.read_difat;
      read_fat = it.read_fat;
      read_alone = it.read_alone;
      listed = λ live honest.
          let was = subst IsTrue did.honest honest in
          let had = (it.listed (did.live live) was).0 c.requires.orderly in (
            λ is. (order_stays it.sectors.version new.version _ _ (entries_of it.fat) now fs ds did.version did.count size order, ∥∥₁_map had.1 (did.lists live was ds order.once)),
            λ has. c.requires.orderly,
          );
    }

pub returns-clause-changes : goal.returns-clause-changes
returns-clause-changes g c =
    let it = c.args.self.now in
    let fs = it.fat_sectors.items in
    let ids = c.args.sector_ids.now in
    let new = c.write_entries.new.sectors in
    let did : WritesFatEntries {g = g.F.ReadMedium} ids fs it.sectors new = subst (λ l. WritesFatEntries {g = g.F.ReadMedium} ids l it.sectors new) c.deref.ensures.value c.in_ok-write_entries.ensures.writes in
    let memory = c.free_all.ensures.frees in
    record {
      honest = did.honest;
      continues = did.continues;
      version = did.version;
      count = did.count;
      fat_sectors = refl;
      difat_sectors = refl;
      orderly = refl;
      live = did.live;
      fat = λ live. record { size = memory.size; others = memory.others };
      longer = did.longer;
      told = λ live honest. did.told live honest it.difat_sectors.items;
      ends = λ live honest orderly.
          let order = it.orderly orderly in
          ends_beside it.sectors.version _ (bytes_of it.sectors) (bytes_of new) it.difat_sectors.items fs did.version (header_whole it.sectors.version (bytes_of it.sectors) it.sectors.num_sectors (it.sectors.counted (did.live live) honest) order.some)
          (did.longer live honest) order.once (did.beside live honest) ((it.listed (did.live live) honest).0 orderly).1 (did.whole live honest);
      beside = did.beside;
    }
