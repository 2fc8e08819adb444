use Rattle.std.proofs.Common.{◌*◌, ◌<◌, ◌≤◌, length, refl, sym, subst, IsTrue}
use Rattle.std.specs.Prelude.{slice_index}
use mathlib.Core.Logic.{∥∥₁_map}
use Rattle.cfb_sectors.specs.Held.{bytes_of}
use Rattle.cfb_fat.specs.Listed.{Lists}
use Rattle.cfb_fat.proofs.ListedStays.{listed_still}
use Rattle.cfb_fat.proofs.Entering.{order_stays, still_same}
use Rattle.cfb_fat.proofs.FatEntries.{per}
use Rattle.cfb_fat_runs.specs.Tables.{entries_of}
use Rattle.cfb_fat.proofs.allocator.Allocator.write_beside.Goals as goal

pub invariant_of-self : goal.invariant_of-self
invariant_of-self g c =
    let it = c.args.self.now in
    let fs = it.fat_sectors.items in
    let did = c.write_part.ensures.writes c.requires.ends in
    let changes = did.0 in
    let count = did.1 in
    record {
      same = λ live honest. let was = subst IsTrue changes.honest honest in
          still_same it.sectors.version c.write_part.new.self.version _ _ fs (entries_of it.fat) c.args.bytes.now _ _ c.args.place changes.version count (changes.bytes live was) c.requires.fat (it.same (changes.live live) was);
      there = λ live k inside. subst (λ n. slice_index fs k < n) (sym count) (it.there (changes.live live) k inside);
      inside = λ live. subst (λ n. length (entries_of it.fat) ≤ n) (sym count) (it.inside (changes.live live));
      whole = subst (λ v. length (entries_of it.fat) ≤ length fs * per v) (sym changes.version) it.whole;
      packed = it.packed;
      orderly = λ now. order_stays _ _ _ _ (entries_of it.fat) (entries_of it.fat) fs it.difat_sectors.items changes.version count refl (it.orderly now);
      read_difat = it.read_difat;
      read_fat = it.read_fat;
      read_alone = it.read_alone;
      listed = λ live honest.
          let was = subst IsTrue changes.honest honest in
          let before = it.listed (changes.live live) was in
          let both : 0 < it.sectors.num_sectors → (Lists it.sectors.version (bytes_of it.sectors) it.difat_sectors.items fs → Lists c.write_part.new.self.version (bytes_of c.write_part.new.self) it.difat_sectors.items fs)
          × (Lists c.write_part.new.self.version (bytes_of c.write_part.new.self) it.difat_sectors.items fs → Lists it.sectors.version (bytes_of it.sectors) it.difat_sectors.items fs) =
          λ some. listed_still it.sectors.version c.write_part.new.self.version (bytes_of it.sectors) (bytes_of c.write_part.new.self) c.args.bytes.now it.difat_sectors.items fs c.args.place it.sectors.num_sectors c.write_part.new.self.num_sectors
          changes.version count (changes.bytes live was) (it.sectors.counted (changes.live live) was) (c.write_part.new.self.counted live honest) some c.requires.words c.requires.difat in (
            λ now. let had = before.0 now in
                (order_stays _ _ _ _ (entries_of it.fat) (entries_of it.fat) fs it.difat_sectors.items changes.version count refl had.0, ∥∥₁_map had.1 (both had.0.some).0),
            λ has. let order = order_stays _ _ _ _ (entries_of it.fat) (entries_of it.fat) fs it.difat_sectors.items (sym changes.version) (sym count) refl has.0 in
                before.1 (order, ∥∥₁_map has.1 (both order.some).1),
          );
    }
