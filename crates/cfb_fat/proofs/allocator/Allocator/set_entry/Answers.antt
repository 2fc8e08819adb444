use Rattle.std.proofs.Common.{◌≡◌, ◌*◌, ◌/◌, ◌<◌, ◌≤◌, ◌+◌, [], ◌∷◌, length, refl, ◌∙◌, ap, sym, arith, subst, IsTrue}
use Rattle.std.specs.Prelude.{slice_index}
use Rattle.std.proofs.lemmas.List.{get_or_read, length-set}
use mathlib.Core.Logic.{∥∥₁_map}
use Rattle.std.specs.Int.{w32, to_le_bytes}
use Rattle.cfb_sectors.specs.Held.{bytes_of}
use Rattle.cfb_fat.proofs.ListedStays.{entry_aside, listed_still, longer_over, told_in}
use Rattle.cfb_fat.proofs.Listing.{header_whole}
use Rattle.cfb_fat.proofs.EndsKept.{ends_beside, entry_inside, whole_over}
use Rattle.cfb_fat.proofs.Entering.{differ_at, entered, index_in, order_stays, others_stay}
use Rattle.cfb_chains.specs.Changes.{DifferOnlyAt}
use Rattle.cfb_fat.proofs.FatEntries.{per}
use Rattle.cfb_fat.proofs.Sparing.{memory_used}
use Rattle.cfb_fat.proofs.Packed.{packed_set, IsPacked}
use Rattle.cfb_fat_runs.specs.Tables.{entries_of}
use Rattle.cfb_fat.proofs.allocator.Allocator.set_entry.Goals as goal

pub invariant_of-self-2 : goal.invariant_of-self-2
invariant_of-self-2 g c =
    let it = c.args.self.now in
    let fs = it.fat_sectors.items in
    let did = c.in_ok-write_number.ensures in
    let each : c.sector_len-each.result / 4 ≡ per it.sectors.version = ap (λ n. n / 4) c.sector_len-each.ensures in
    let below = index_in it.sectors.version (entries_of it.fat) fs c.args.sector_id _ each c.requires.there it.whole in
    let is = c.set.ensures.entries in
    let size = ap length is ∙ length-set (entries_of it.fat) c.args.sector_id c.args.entry in
    record {
      same = λ live honest. is ∙ entered it.sectors.version c.write_number.new.sectors.version _ _ fs it.difat_sectors.items (entries_of it.fat) _ _ c.args.sector_id c.args.entry _ _
          did.changes.version did.count each (get_or_read fs _ _ below c.index-holder.ensures 0) (did.changes.bytes live (subst IsTrue did.changes.honest honest)) (it.orderly c.requires.ready.1).once
          c.requires.there (it.inside (did.changes.live live)) it.whole c.ranges.entry.fits (it.same (did.changes.live live) (subst IsTrue did.changes.honest honest));
      there = λ live k inside. subst (λ n. slice_index fs k < n) (sym did.count) (it.there (did.changes.live live) k inside);
      inside = λ live. let most = it.inside (did.changes.live live) in omega (arith, size, did.count, most);
      whole = subst (λ v. length (entries_of c.set.new.self) ≤ length fs * per v) (sym did.changes.version) (omega (arith, size, it.whole));
      packed = subst (λ l. IsPacked c.first_free_after-self.result l it.difat_sectors.items fs) (sym is) (packed_set (entries_of it.fat) it.difat_sectors.items fs it.first_free _ c.args.sector_id c.args.entry it.packed c.first_free_after-self.ensures.before c.first_free_after-self.ensures.freed c.requires.there);
      orderly = λ now. order_stays _ _ _ _ (entries_of it.fat) _ fs it.difat_sectors.items did.changes.version did.count size (it.orderly now);
      read_difat = it.read_difat;
      read_fat = it.read_fat;
      read_alone = it.read_alone;
      listed = λ live honest.
          let was = subst IsTrue did.changes.honest honest in
          let order = it.orderly c.requires.ready.1 in
          let had = (it.listed (did.changes.live live) was).0 c.requires.ready.1 in
          let aside = entry_aside it.sectors.version it.difat_sectors.items fs (to_le_bytes w32 c.args.entry) c.args.sector_id _ _ refl each below (get_or_read fs _ _ below c.index-holder.ensures 0) order.once in
          let both = listed_still it.sectors.version c.write_number.new.sectors.version (bytes_of it.sectors) (bytes_of c.write_number.new.sectors) (to_le_bytes w32 c.args.entry) it.difat_sectors.items fs _ it.sectors.num_sectors c.write_number.new.sectors.num_sectors
          did.changes.version did.count (did.changes.bytes live was) (it.sectors.counted (did.changes.live live) was) (c.write_number.new.sectors.counted live honest) order.some aside.0 aside.1 in (
            λ now. (order_stays _ _ _ _ (entries_of it.fat) _ fs it.difat_sectors.items did.changes.version did.count size order, ∥∥₁_map had.1 both.0),
            λ has. c.requires.ready.1,
          );
    }

pub returns-clause-changes : goal.returns-clause-changes
returns-clause-changes g c =
    let it = c.args.self.now in
    let fs = it.fat_sectors.items in
    let did = c.in_ok-write_number.ensures in
    let each : c.sector_len-each.result / 4 ≡ per it.sectors.version = ap (λ n. n / 4) c.sector_len-each.ensures in
    let below = index_in it.sectors.version (entries_of it.fat) fs c.args.sector_id _ each c.requires.there it.whole in
    record {
      honest = did.changes.honest;
      continues = did.changes.continues;
      version = did.changes.version;
      count = did.count;
      fat_sectors = refl;
      difat_sectors = refl;
      orderly = refl;
      live = did.changes.live;
      fat = λ live. subst (DifferOnlyAt (c.args.sector_id ∷ []) (entries_of it.fat)) (sym c.set.ensures.entries) (differ_at (entries_of it.fat) c.args.sector_id c.args.entry);
      longer = λ live honest. longer_over (bytes_of it.sectors) (bytes_of c.write_number.new.sectors) (to_le_bytes w32 c.args.entry) _ (did.changes.bytes live honest);
      told = λ live honest. let order = it.orderly c.requires.ready.1 in
          told_in it.sectors.version (bytes_of it.sectors) (bytes_of c.write_number.new.sectors) (to_le_bytes w32 c.args.entry) it.difat_sectors.items fs _ _ (did.changes.bytes live honest)
          (header_whole it.sectors.version (bytes_of it.sectors) it.sectors.num_sectors (it.sectors.counted (did.changes.live live) honest) order.some);
      ends = λ live honest orderly.
          let order = it.orderly orderly in
          let v = it.sectors.version in
          let counted = it.sectors.counted (did.changes.live live) honest in
          let holder = get_or_read fs _ _ below c.index-holder.ensures 0 in
          let written = did.changes.bytes live honest in
          ends_beside v _ (bytes_of it.sectors) (bytes_of c.write_number.new.sectors) it.difat_sectors.items fs did.changes.version (header_whole v (bytes_of it.sectors) it.sectors.num_sectors counted order.some)
          (longer_over (bytes_of it.sectors) (bytes_of c.write_number.new.sectors) (to_le_bytes w32 c.args.entry) _ written) order.once
          (others_stay v _ _ fs c.args.sector_id c.args.entry _ _ each holder below written) ((it.listed (did.changes.live live) honest).0 orderly).1
          (whole_over v (bytes_of it.sectors) (bytes_of c.write_number.new.sectors) (to_le_bytes w32 c.args.entry) it.sectors.num_sectors _ counted order.some written
          (entry_inside v fs c.args.sector_id _ _ it.sectors.num_sectors each holder below (it.there (did.changes.live live))));
      beside = λ live honest. others_stay it.sectors.version _ _ fs c.args.sector_id c.args.entry _ _ each (get_or_read fs _ _ below c.index-holder.ensures 0) below (did.changes.bytes live honest);
    }

pub returns-clause-memory : goal.returns-clause-memory
returns-clause-memory g c = λ entries n had.
    let it = c.args.self.now in
    let did = c.in_ok-write_number.ensures in
    memory_used it _ (entries + 1) entries 1 n did.changes.version refl refl (omega arith) (omega arith) (ap length c.set.ensures.entries ∙ length-set (entries_of it.fat) c.args.sector_id c.args.entry)
    (omega (arith, c.set.ensures.capacity)) (omega (arith, c.set.ensures.runs)) refl had

pub returns-clause-keeps : goal.returns-clause-keeps
returns-clause-keeps g c = λ easy entries n had.
    let it = c.args.self.now in
    let did = c.in_ok-write_number.ensures in
    let few = c.set.ensures.easy easy in
    memory_used it _ entries entries 0 n did.changes.version refl refl (omega arith) (omega arith) (ap length c.set.ensures.entries ∙ length-set (entries_of it.fat) c.args.sector_id c.args.entry)
    (omega (arith, c.set.ensures.capacity)) (omega (arith, few)) (omega arith) had
