use Rattle.std.proofs.Common.{inr, ◌*◌, ◌<◌, ◌≤◌, length, refl, sym, subst, IsTrue}
use Rattle.std.specs.Prelude.{slice_index}
use mathlib.Core.Logic.{∥∥₁_map}
use Rattle.cfb_sectors.specs.Held.{bytes_of}
use Rattle.cfb_medium.specs.Versions.{sector_len}
use Rattle.cfb_sectors.specs.Initial.{first_bytes}
use Rattle.cfb_sectors.specs.Sectors.{sector_start}
use Rattle.cfb_chains.specs.Changes.{IsBeside}
use Rattle.cfb_fat.specs.Orderly.{IsBesideWords}
use Rattle.cfb_fat.proofs.Fresh.{length-first}
use Rattle.cfb_fat.proofs.ListedStays.{behind_header}
use Rattle.cfb_chains.proofs.Staying.{apart}
use Rattle.cfb_fat.specs.Listed.{Lists}
use Rattle.cfb_fat.proofs.ListedStays.{listed_still}
use Rattle.cfb_fat.proofs.Entering.{order_stays, still_same}
use Rattle.cfb_fat.proofs.FatEntries.{per}
use Rattle.cfb_fat_runs.specs.Tables.{entries_of}
use Rattle.cfb_fat.proofs.allocator.Allocator.init_beside.Goals as goal

pub invariant_of-self : goal.invariant_of-self
invariant_of-self g c =
    let it = c.args.self.now in
    let fs = it.fat_sectors.items in
    let changes = c.init_sector.ensures.changes c.requires.there in
    let count = c.init_sector.ensures.count in
    let xs = first_bytes c.args.init (sector_len it.sectors.version) in
    let place = sector_start it.sectors.version c.args.sector_id in
    let long = length-first c.args.init it.sectors.version in
    let far = behind_header it.sectors.version c.args.sector_id in
    let words : IsBesideWords place (length xs) = inr (inr far) in
    let no_fat : IsBeside it.sectors.version fs place (length xs) = subst (IsBeside it.sectors.version fs place) (sym long) (apart it.sectors.version fs c.args.sector_id c.requires.no_fat) in
    let no_difat : IsBeside it.sectors.version it.difat_sectors.items place (length xs) = subst (IsBeside it.sectors.version it.difat_sectors.items place) (sym long) (apart it.sectors.version it.difat_sectors.items c.args.sector_id c.requires.no_difat) in
    record {
      same = λ live honest. let was = subst IsTrue changes.honest honest in
          still_same it.sectors.version c.init_sector.new.self.version _ _ fs (entries_of it.fat) xs _ _ place changes.version count (changes.bytes live was) no_fat (it.same (changes.live live) was);
      there = λ live k inside. subst (λ n. slice_index fs k < n) (sym count) (it.there (changes.live live) k inside);
      inside = λ live. subst (λ n. length (entries_of it.fat) ≤ n) (sym count) (it.inside (changes.live live));
      whole = subst (λ v. length (entries_of it.fat) ≤ length fs * per v) (sym changes.version) it.whole;
      packed = c.requires.lowest;
      orderly = λ now. order_stays _ _ _ _ (entries_of it.fat) (entries_of it.fat) fs it.difat_sectors.items changes.version count refl (it.orderly now);
      read_difat = it.read_difat;
      read_fat = it.read_fat;
      read_alone = it.read_alone;
      listed = λ live honest.
          let was = subst IsTrue changes.honest honest in
          let before = it.listed (changes.live live) was in
          let both : 0 < it.sectors.num_sectors → (Lists it.sectors.version (bytes_of it.sectors) it.difat_sectors.items fs → Lists c.init_sector.new.self.version (bytes_of c.init_sector.new.self) it.difat_sectors.items fs)
          × (Lists c.init_sector.new.self.version (bytes_of c.init_sector.new.self) it.difat_sectors.items fs → Lists it.sectors.version (bytes_of it.sectors) it.difat_sectors.items fs) =
          λ some. listed_still it.sectors.version c.init_sector.new.self.version (bytes_of it.sectors) (bytes_of c.init_sector.new.self) xs it.difat_sectors.items fs place it.sectors.num_sectors c.init_sector.new.self.num_sectors
          changes.version count (changes.bytes live was) (it.sectors.counted (changes.live live) was) (c.init_sector.new.self.counted live honest) some words no_difat in (
            λ now. let had = before.0 now in
                (order_stays _ _ _ _ (entries_of it.fat) (entries_of it.fat) fs it.difat_sectors.items changes.version count refl had.0, ∥∥₁_map had.1 (both had.0.some).0),
            λ has. let order = order_stays _ _ _ _ (entries_of it.fat) (entries_of it.fat) fs it.difat_sectors.items (sym changes.version) (sym count) refl has.0 in
                before.1 (order, ∥∥₁_map has.1 (both order.some).1),
          );
    }
