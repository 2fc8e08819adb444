use Rattle.std.proofs.Common.{◌*◌, ◌/◌, ◌≤◌, ◌↔◌, length, take, refl, ap, sym, subst, ◌∙◌, arith, IsTrue}
use Rattle.cfb_medium.specs.Versions.{sector_len}
use Rattle.cfb_sectors.specs.Held.{bytes_of, count_of, version_of}
use Rattle.cfb_sectors.specs.Sectors.{fat_in}
use Rattle.cfb_chains.specs.Changes.{IsNotIn}
use Rattle.cfb_fat.specs.Listed.{Lists}
use Rattle.cfb_fat.specs.Orderly.{AreBelow, AreTablesConsistent}
use Rattle.cfb_fat.specs.Rising.{AreRead}
use Rattle.cfb_fat_runs.specs.Tables.{entries_of}
use Rattle.cfb_fat.proofs.Sparing.{memory_used}
use Rattle.cfb_fat.proofs.allocator.Allocator.reserve_growth.Goals as goal

pub returns-in_err-reserve-clause-keeps : goal.returns-in_err-reserve-clause-keeps
returns-in_err-reserve-clause-keeps g c = λ entries n had.
    memory_used c.reserve_runs.new.self _ entries entries 0 n refl c.reserve.ensures.items refl (omega (arith, c.reserve.ensures.capacity)) (omega arith) refl (omega arith) (omega arith) (omega arith)
    (c.in_ok-reserve_runs.ensures.keeps entries n had)

pub returns-in_err-reserve-clause-enough : goal.returns-in_err-reserve-clause-enough
returns-in_err-reserve-clause-enough g c = λ had.
    let room = (c.in_ok-reserve_runs.ensures.keeps 0 c.args.count had).fat_sectors in
    absurd (omega (arith, room, c.in_err-reserve.ensures.full, c.reserve_runs.new.self.fat_sectors.ok.0))

pub returns-in_err-reserve-2-clause-keeps : goal.returns-in_err-reserve-2-clause-keeps
returns-in_err-reserve-2-clause-keeps g c = λ entries n had.
    memory_used c.reserve_runs.new.self _ entries entries 0 n refl c.reserve.ensures.items c.reserve-2.ensures.items (omega (arith, c.reserve.ensures.capacity)) (omega (arith, c.reserve-2.ensures.capacity)) refl (omega arith) (omega arith) (omega arith)
    (c.in_ok-reserve_runs.ensures.keeps entries n had)

pub returns-in_err-reserve-2-clause-enough : goal.returns-in_err-reserve-2-clause-enough
returns-in_err-reserve-2-clause-enough g c = λ had.
    let room = (c.in_ok-reserve_runs.ensures.keeps 0 c.args.count had).difat_sectors in
    absurd (omega (arith, room, c.in_err-reserve-2.ensures.full, c.reserve_runs.new.self.difat_sectors.ok.0))

pub returns-clause-keeps : goal.returns-clause-keeps
returns-clause-keeps g c = λ entries n had.
    memory_used c.reserve_runs.new.self _ entries entries 0 n refl c.reserve.ensures.items c.reserve-2.ensures.items (omega (arith, c.reserve.ensures.capacity)) (omega (arith, c.reserve-2.ensures.capacity)) refl (omega arith) (omega arith) (omega arith)
    (c.in_ok-reserve_runs.ensures.keeps entries n had)

pub invariant_of-self : goal.invariant_of-self
invariant_of-self g c =
    let it = c.reserve_runs.new.self in
    let v = version_of it.sectors in
    let b = bytes_of it.sectors in
    let ds = it.difat_sectors.items in
    let fat = entries_of it.fat in
    let count = count_of it.sectors in
    let is = sym c.reserve.ensures.items in
    record {
      same = λ live honest. it.same live honest ∙ ap (λ l. take count (fat_in v b l)) is;
      there = λ live. subst (AreBelow count) is (it.there live);
      inside = it.inside;
      whole = subst (λ l. length fat ≤ length l * (sector_len v / 4)) is it.whole;
      packed = λ k below free no_ds no_fs. it.packed k below free no_ds (subst (λ l. IsNotIn l k) (sym is) no_fs);
      orderly = λ now. subst (λ l. AreTablesConsistent v count fat l ds) is (it.orderly now);
      read_difat = it.read_difat;
      read_fat = subst (AreRead it.read.ids.items it.read.num_fat) is it.read_fat;
      read_alone = λ n no_ds no_fs. it.read_alone n no_ds (subst (λ l. IsNotIn l n) (sym is) no_fs);
      listed = λ live honest. subst (λ l. IsTrue it.is_orderly ↔ (AreTablesConsistent v count fat l ds × ∥ Lists v b ds l ∥₁)) is (it.listed live honest);
    }

pub invariant_of-self-2 : goal.invariant_of-self-2
invariant_of-self-2 g c =
    let it = c.reserve_runs.new.self in
    let v = version_of it.sectors in
    let b = bytes_of it.sectors in
    let ds = it.difat_sectors.items in
    let fs = it.fat_sectors.items in
    let new_fs = c.reserve.new.self.items in
    let fat = entries_of it.fat in
    let count = count_of it.sectors in
    let is = sym c.reserve.ensures.items in
    let is_ds = sym c.reserve-2.ensures.items in
    record {
      same = λ live honest. it.same live honest ∙ ap (λ l. take count (fat_in v b l)) is;
      there = λ live. subst (AreBelow count) is (it.there live);
      inside = it.inside;
      whole = subst (λ l. length fat ≤ length l * (sector_len v / 4)) is it.whole;
      packed = λ k below free no_ds no_fs. it.packed k below free (subst (λ l. IsNotIn l k) (sym is_ds) no_ds) (subst (λ l. IsNotIn l k) (sym is) no_fs);
      orderly = λ now. subst (λ l. AreTablesConsistent v count fat new_fs l) is_ds (subst (λ l. AreTablesConsistent v count fat l ds) is (it.orderly now));
      read_difat = subst (AreRead it.read.ids.items it.read.num_difat) is_ds it.read_difat;
      read_fat = subst (AreRead it.read.ids.items it.read.num_fat) is it.read_fat;
      read_alone = λ n no_ds no_fs. it.read_alone n (subst (λ l. IsNotIn l n) (sym is_ds) no_ds) (subst (λ l. IsNotIn l n) (sym is) no_fs);
      listed = λ live honest. subst (λ l. IsTrue it.is_orderly ↔ (AreTablesConsistent v count fat new_fs l × ∥ Lists v b l new_fs ∥₁)) is_ds
          (subst (λ l. IsTrue it.is_orderly ↔ (AreTablesConsistent v count fat l ds × ∥ Lists v b ds l ∥₁)) is (it.listed live honest));
    }
