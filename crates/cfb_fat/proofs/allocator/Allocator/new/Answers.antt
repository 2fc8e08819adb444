use Rattle.std.proofs.Common.{arith, ◌*◌, ◌/◌, ◌<◌, ◌≤◌, ◌↔◌, ℕ, length, take, ap, sym, subst, ◌∙◌, IsTrue}
use Rattle.std.specs.Prelude.{slice_index}
use Rattle.cfb_medium.specs.Versions.{sector_len}
use Rattle.cfb_sectors.specs.Held.{bytes_of, count_of, version_of}
use Rattle.cfb_sectors.specs.Sectors.{fat_in}
use Rattle.cfb_fat.specs.Listed.{Lists}
use Rattle.cfb_chains.specs.Changes.{IsNotIn}
use Rattle.cfb_fat.specs.Orderly.{AreTablesConsistent}
use Rattle.cfb_fat.specs.Rising.{AreRead}
use Rattle.cfb_fat.proofs.Listing.{listed_still_read, order_after}
use Rattle.cfb_fat_runs.specs.Tables.{entries_of}
use Rattle.cfb_fat.proofs.allocator.Allocator.new.Goals as goal

pub invariant_of-result : goal.invariant_of-result
invariant_of-result g c =
    let it = c.args.sectors in
    let own = c.in-Ok.read in
    let now = c.read_parts.new.sectors in
    let did = c.in-Ok-read_parts.ensures in
    let rests = did.only_reads in
    let fat = (entries_of c.in-Ok-read_parts.fat) in
    let is = c.in-Ok-read_parts.is_orderly in
    let has_fs = c.deref-4.ensures.value in
    let has_ds = c.deref-3.ensures.value in
    let fs = c.deref-4.result.now in
    let ds = c.deref-3.result.now in
    record {
      same = λ live honest.
          let was = subst IsTrue rests.honest honest in
          did.read was ∙ ap (λ l. take (count_of it) (fat_in (version_of it) (bytes_of it) l)) has_fs ∙ ap (λ n. take n (fat_in (version_of it) (bytes_of it) c.args.fat_sectors.items)) (sym rests.count)
          ∙ ap (λ v. take (count_of now) (fat_in v (bytes_of it) c.args.fat_sectors.items)) (sym rests.version) ∙ ap (λ b. take (count_of now) (fat_in (version_of now) b c.args.fat_sectors.items)) (sym (rests.bytes was));
      there = λ live. subst (λ l. (k : ℕ) → k < length l → slice_index l k < count_of now) has_fs (λ k inside. subst (λ n. slice_index fs k < n) (sym rests.count) (did.below k inside));
      inside = λ live. subst (λ n. length fat ≤ n) (sym rests.count) did.inside;
      whole = subst (λ l. length fat ≤ length l * (sector_len (version_of now) / 4)) has_fs (subst (λ v. length fat ≤ length fs * (sector_len v / 4)) (sym rests.version) did.whole);
      packed = λ k below. absurd (omega (arith, below));
      orderly = λ holds. subst (λ l. AreTablesConsistent (version_of now) (count_of now) fat l c.args.difat_sectors.items) has_fs
          (subst (λ l. AreTablesConsistent (version_of now) (count_of now) fat fs l) has_ds (order_after it now fat fs ds rests (did.orderly holds)));
      read_difat = subst (AreRead own.ids.items own.num_difat) c.deref.ensures.value c.in-Ok.ensures.difat;
      read_fat = subst (AreRead own.ids.items own.num_fat) c.deref-2.ensures.value c.in-Ok.ensures.fat;
      read_alone = λ n no_ds no_fs. c.in-Ok.ensures.alone n (subst (λ l. IsNotIn l n) (sym c.deref.ensures.value) no_ds) (subst (λ l. IsNotIn l n) (sym c.deref-2.ensures.value) no_fs);
      listed = λ live honest.
          let was = subst IsTrue rests.honest honest in
          subst (λ l. IsTrue is ↔ (AreTablesConsistent (version_of now) (count_of now) fat l c.args.difat_sectors.items × ∥ Lists (version_of now) (bytes_of now) c.args.difat_sectors.items l ∥₁)) has_fs
          (subst (λ l. IsTrue is ↔ (AreTablesConsistent (version_of now) (count_of now) fat fs l × ∥ Lists (version_of now) (bytes_of now) l fs ∥₁)) has_ds
          (listed_still_read it now is fat fs ds rests was (did.listed (sym rests.failed ∙ live) was)));
    }
