use Rattle.std.proofs.Common.{◌≡◌, ℕ, ◌+◌, ◌-◌, ◌*◌, ◌/◌, ◌%◌, ◌<◌, ◌≤◌, [], ◌∷◌, ◌++◌, length, take, refl, ap, sym, subst, ◌∙◌, arith, length-append, IsTrue}
use Rattle.std.specs.Prelude.{slice_index}
use Rattle.std.specs.Int.{w32, to_le_bytes}
use Rattle.std.proofs.lemmas.List.{get_or_read}
use mathlib.Core.Logic.{∥∥₁_map}
use Rattle.cfb_medium.specs.Bytes.{overwritten}
use Rattle.cfb_medium.specs.Versions.{sector_len}
use Rattle.cfb_sectors.specs.Held.{bytes_of, count_of, version_of}
use Rattle.cfb_sectors.specs.Sectors.{end_of_chain, fat_in, filled_part, sector, sector_start, sectors_in}
use Rattle.cfb_fat.specs.Listed.{Lists}
use Rattle.cfb_chains.specs.Changes.{IsBeside, IsNotIn}
use Rattle.cfb_fat.specs.Orderly.{AreTablesConsistent}
use Rattle.cfb_fat.proofs.Appended.{entry_added, listed_before_end, none_behind, whole_before}
use Rattle.cfb_fat.proofs.EndsKept.{ends_in_front, entry_inside, whole_over}
use Rattle.cfb_fat.proofs.Entering.{others_stay, rest_below}
use Rattle.cfb_fat.proofs.FatEntries.{per, split}
use Rattle.cfb_fat.proofs.Lean.{lean_one}
use Rattle.cfb_fat.specs.Keeping.{lean_same}
use Rattle.cfb_fat.proofs.Growth.{below_more, stays_in_front}
use Rattle.cfb_chains.proofs.Beside.{beside_second}
use Rattle.cfb_fat.proofs.ListedStays.{behind_header, entry_aside, listed_still, longer_over, told_in, told_kept}
use Rattle.cfb_fat.proofs.Listing.{header_whole}
use Rattle.cfb_chains.proofs.Staying.{apart}
use Rattle.cfb_chains.proofs.LongerTables.{holds_then}
use Rattle.cfb_fat.proofs.Places.{passed_attempts}
use Rattle.cfb_fat.proofs.Packed.{behind_one, packed_more}
use Rattle.cfb_fat.proofs.Taken.{whole_writable}
use Rattle.cfb_fat_runs.specs.Tables.{entries_of}
use Rattle.cfb_fat.proofs.allocator.Allocator.append.Goals as goal

pub invariant_of-self-2 : goal.invariant_of-self-2
invariant_of-self-2 g c =
    let it = c.args.self.now in
    let a = it.sectors in
    let m = c.append_sector.new.sectors in
    let b = c.write_number.new.sectors in
    let v = version_of a in
    let ds = it.difat_sectors.items in
    let fs = it.fat_sectors.items in
    let did = c.in_ok-sector_id.ensures in
    let wrote = c.in_ok-write_number.ensures in
    let order = it.orderly c.requires.orderly in
    let below_fs = it.there c.requires.live in
    let more = did.appends.count did.not_failed in
    let counted : count_of b ≡ count_of a + 1 = wrote.count ∙ more in
    let version : version_of b ≡ v = wrote.changes.version ∙ did.appends.version in
    let index = c.len-index.result in
    let at : index ≡ count_of a = omega (arith, c.len-index.ensures.value, order.covered) in
    let each : c.sector_len-each.result / 4 ≡ per v = ap (λ n. n / 4) c.sector_len-each.ensures in
    let fits : index < length fs * per v = omega (arith, at, order.covered, c.requires.place.room) in
    let parts = split v (length fs) index fits in
    let below : index / (c.sector_len-each.result / 4) < length fs = subst (λ e. index / e < length fs) (sym each) parts.0 in
    let holder = get_or_read fs _ _ below c.index-holder.ensures 0 in
    let fat : (entries_of it.fat) ++ end_of_chain ∷ [] ≡ (entries_of c.push_reserved.new.self) = sym c.push_reserved.ensures.entries in
    let size : length (entries_of c.push_reserved.new.self) ≡ length (entries_of it.fat) + 1 = ap length (sym fat) ∙ length-append (entries_of it.fat) (end_of_chain ∷ []) in
    let now : AreTablesConsistent (version_of b) (count_of b) (entries_of c.push_reserved.new.self) fs ds = record {
      once = order.once;
      covered = omega (arith, size, order.covered, counted);
      some = omega (arith, counted);
      there = below_more (count_of a) (count_of b) ds (omega (arith, counted)) order.there;
      named = subst (λ u. length fs ≤ 109 + length ds * (sector_len u / 4 - 1)) (sym version) order.named;
    } in
    record {
      same = λ live honest.
          let mid = subst IsTrue wrote.changes.honest honest in
          let was = subst IsTrue did.appends.honest mid in
          let written = wrote.changes.bytes live mid ∙ ap (λ u. overwritten (bytes_of m) (sector_start u c.index-holder.result.now + 4 * (index % (c.sector_len-each.result / 4))) (to_le_bytes w32 end_of_chain)) did.appends.version in
          sym fat ∙ entry_added v (bytes_of a) (bytes_of m) (bytes_of b) fs ds (entries_of it.fat) (count_of a) index end_of_chain _ _ each holder written order.once
          (λ k inside. did.appends.before did.not_failed was (sector_start v (slice_index fs k)) (sector_len v) (whole_before v (slice_index fs k) (count_of a) (below_fs k inside)) tt)
          at fits (omega arith) (it.same c.requires.live was)
          ∙ ap (λ n. take n (fat_in v (bytes_of b) fs)) (sym counted) ∙ ap (λ u. take (count_of b) (fat_in u (bytes_of b) fs)) (sym version);
      there = λ live k inside. let less = below_fs k inside in omega (arith, less, counted);
      inside = λ live. omega (arith, now.covered);
      whole = subst (λ u. length (entries_of c.push_reserved.new.self) ≤ length fs * (sector_len u / 4)) (sym version) (omega (arith, size, c.requires.place.room));
      packed = packed_more (entries_of it.fat) (end_of_chain ∷ []) (entries_of c.push_reserved.new.self) ds fs ds fs index (sym fat) (λ k below. c.requires.crowded k (omega (arith, below, at, order.covered))) (λ n none. none) (λ n none. none)
          (λ k past is no_ds no_fs. let both = behind_one (entries_of it.fat) (entries_of c.push_reserved.new.self) end_of_chain k (sym fat) past is in omega (arith, both.1));
      orderly = λ holds. now;
      read_difat = it.read_difat;
      read_fat = it.read_fat;
      read_alone = it.read_alone;
      listed = λ live honest.
          let mid = subst IsTrue wrote.changes.honest honest in
          let was = subst IsTrue did.appends.honest mid in
          let had = (it.listed c.requires.live was).0 c.requires.orderly in
          let old_count : count_of a ≡ sectors_in v (length (bytes_of a)) = a.counted c.requires.live was in
          let mid_count : count_of m ≡ sectors_in v (length (bytes_of m)) = m.counted did.not_failed mid ∙ ap (λ u. sectors_in u (length (bytes_of m))) did.appends.version in
          let kept = listed_before_end v (bytes_of a) (bytes_of m) ds fs (count_of a) (header_whole v (bytes_of a) (count_of a) old_count order.some) (header_whole v (bytes_of m) (count_of m) mid_count (omega (arith, more)))
          (omega (arith, old_count, mid_count, more)) order.there (λ p n fits. did.appends.before did.not_failed was p n fits tt) in
          let aside = entry_aside (version_of m) ds fs (to_le_bytes w32 end_of_chain) index c.index-holder.result.now (c.sector_len-each.result / 4) refl (each ∙ ap per (sym did.appends.version)) below holder order.once in
          let both = listed_still (version_of m) (version_of b) (bytes_of m) (bytes_of b) (to_le_bytes w32 end_of_chain) ds fs _ (count_of m) (count_of b) wrote.changes.version wrote.count (wrote.changes.bytes live mid)
          (m.counted did.not_failed mid) (b.counted live honest) (omega (arith, more)) aside.0 aside.1 in
          ((λ holds. (now, ∥∥₁_map had.1 (λ listed. both.0 (subst (λ u. Lists u (bytes_of m) ds fs) (sym did.appends.version) (kept listed))))), λ has. refl);
    }

pub returns-clause-occupies : goal.returns-clause-occupies
returns-clause-occupies g c = record {
  grows =
      let it = c.args.self.now in
      let a = it.sectors in
      let m = c.append_sector.new.sectors in
      let v = version_of a in
      let ds = it.difat_sectors.items in
      let fs = it.fat_sectors.items in
      let did = c.in_ok-sector_id.ensures in
      let wrote = c.in_ok-write_number.ensures in
      let order = it.orderly c.requires.orderly in
      let more = did.appends.count did.not_failed in
      let index = c.len-index.result in
      let at : index ≡ count_of a = omega (arith, c.len-index.ensures.value, order.covered) in
      let each : c.sector_len-each.result / 4 ≡ per v = ap (λ n. n / 4) c.sector_len-each.ensures in
      let parts = split v (length fs) index (omega (arith, at, order.covered, c.requires.place.room)) in
      let below : index / (c.sector_len-each.result / 4) < length fs = subst (λ e. index / e < length fs) (sym each) parts.0 in
      let holder = get_or_read fs _ _ below c.index-holder.ensures 0 in
      record {
        honest = wrote.changes.honest ∙ did.appends.honest;
        continues = λ start from. wrote.changes.continues start (did.appends.continues start from);
        version = wrote.changes.version ∙ did.appends.version;
        live = λ live. c.requires.live;
        count = λ live. omega (arith, wrote.count, more);
        orderly = λ live. sym c.requires.orderly;
        fat = λ live. stays_in_front (c.in_ok-sector_id.sector_id ∷ []) (entries_of it.fat) (end_of_chain ∷ []) (entries_of c.push_reserved.new.self) c.push_reserved.ensures.entries;
        tables = λ live p n fits beside. beside;
        still = λ live n. ((λ none. none), (λ none. none));
        longer = λ live honest.
            let first = did.appends.longer did.not_failed honest in
            let second = longer_over (bytes_of m) (bytes_of c.write_number.new.sectors) (to_le_bytes w32 end_of_chain) _ (wrote.changes.bytes live (subst IsTrue (sym did.appends.honest) honest)) in
            omega (arith, first, second);
        lean = λ live content lean.
            let old = length (entries_of it.fat) in
            lean_same v _ (old + 1) (length fs) (length ds) (content + 1) _ _ _ _ (wrote.changes.version ∙ did.appends.version) (ap length c.push_reserved.ensures.entries ∙ length-append (entries_of it.fat) (end_of_chain ∷ [])) refl refl (omega arith)
            (lean_one v old (length fs) (length ds) content (old + 1) refl lean);
        told = λ live honest. holds_then (ds ++ fs) (ds ++ fs) refl (λ told.
            let mid = subst IsTrue (sym did.appends.honest) honest in
            let whole = header_whole v (bytes_of a) (count_of a) (a.counted c.requires.live honest) order.some in
            let first = did.appends.longer did.not_failed honest in
            let in_mid : 512 ≤ length (bytes_of m) = omega (arith, whole, first) in
            let far = behind_header v (count_of a) in
            told_in (version_of m) (bytes_of m) (bytes_of c.write_number.new.sectors) (to_le_bytes w32 end_of_chain) ds fs _ _ (wrote.changes.bytes live mid) in_mid
            (told_kept (bytes_of a) (bytes_of m) ds fs whole in_mid (did.appends.before did.not_failed honest 44 4 (omega (arith, far)) tt) (did.appends.before did.not_failed honest 72 4 (omega (arith, far)) tt) told));
        ends = λ live honest orderly ends.
            let mid = subst IsTrue (sym did.appends.honest) honest in
            let b = c.write_number.new.sectors in
            let version = did.appends.version in
            let had = ((it.listed c.requires.live honest).0 orderly).1 in
            let in_old = header_whole v (bytes_of a) (count_of a) (a.counted c.requires.live honest) order.some in
            let first = did.appends.longer did.not_failed honest in
            let mid_count : count_of m ≡ sectors_in v (length (bytes_of m)) = m.counted did.not_failed mid ∙ ap (λ u. sectors_in u (length (bytes_of m))) version in
            let written = wrote.changes.bytes live mid ∙ ap (λ u. overwritten (bytes_of m) (sector_start u c.index-holder.result.now + 4 * (index % (c.sector_len-each.result / 4))) (to_le_bytes w32 end_of_chain)) version in
            let kept : (p n : ℕ) → p + n ≤ sector_start v (count_of a) → IsBeside v fs p n → filled_part (bytes_of b) p n ≡ filled_part (bytes_of a) p n = λ p n fits apart.
            others_stay v (bytes_of m) (bytes_of b) fs index end_of_chain c.index-holder.result.now (c.sector_len-each.result / 4) each holder below written p n apart ∙ did.appends.before did.not_failed honest p n fits tt in
            ends_in_front v (version_of b) (bytes_of a) (bytes_of b) ds fs (count_of a) (wrote.changes.version ∙ version) in_old
            (let second = longer_over (bytes_of m) (bytes_of b) (to_le_bytes w32 end_of_chain) _ (wrote.changes.bytes live mid) in omega (arith, first, second)) order.once order.there kept had
            (whole_over v (bytes_of m) (bytes_of b) (to_le_bytes w32 end_of_chain) (count_of m) _ mid_count (omega (arith, more)) written
            (entry_inside v fs index _ _ (count_of m) each holder below (below_more (count_of a) (count_of m) fs (omega (arith, more)) (it.there c.requires.live))) (did.appends.whole did.not_failed honest)) ends;
        beside = λ live honest p n fits beside words taken.
            let mid = subst IsTrue (sym did.appends.honest) honest in
            others_stay (version_of m) (bytes_of m) (bytes_of c.write_number.new.sectors) fs index end_of_chain c.index-holder.result.now (c.sector_len-each.result / 4) (each ∙ ap per (sym did.appends.version)) holder below (wrote.changes.bytes live mid) p n
            (subst (λ u. IsBeside u fs p n) (sym did.appends.version) (beside_second v ds fs p n beside))
            ∙ did.appends.before did.not_failed honest p n fits tt;
      };
  fresh = record {
    filled = λ honest.
        let it = c.args.self.now in
        let a = it.sectors in
        let m = c.append_sector.new.sectors in
        let v = version_of a in
        let fs = it.fat_sectors.items in
        let did = c.in_ok-sector_id.ensures in
        let wrote = c.in_ok-write_number.ensures in
        let order = it.orderly c.requires.orderly in
        let index = c.len-index.result in
        let at : index ≡ count_of a = omega (arith, c.len-index.ensures.value, order.covered) in
        let each : c.sector_len-each.result / 4 ≡ per v = ap (λ n. n / 4) c.sector_len-each.ensures in
        let parts = split v (length fs) index (omega (arith, at, order.covered, c.requires.place.room)) in
        let below : index / (c.sector_len-each.result / 4) < length fs = subst (λ e. index / e < length fs) (sym each) parts.0 in
        let holder = get_or_read fs _ _ below c.index-holder.ensures 0 in
        let mid = subst IsTrue (sym did.appends.honest) honest in
        let aside = apart v fs (count_of a) (none_behind (count_of a) fs (it.there c.requires.live)) in
        ap (λ n. sector v (bytes_of c.write_number.new.sectors) n) did.number
        ∙ others_stay (version_of m) (bytes_of m) (bytes_of c.write_number.new.sectors) fs index end_of_chain c.index-holder.result.now (c.sector_len-each.result / 4) (each ∙ ap per (sym did.appends.version)) holder below (wrote.changes.bytes wrote.not_failed mid)
        (sector_start v (count_of a)) (sector_len v) (subst (λ u. IsBeside u fs (sector_start v (count_of a)) (sector_len v)) (sym did.appends.version) aside)
        ∙ did.content did.not_failed honest;
    writable =
        let it = c.args.self.now in
        let did = c.in_ok-sector_id.ensures in
        let wrote = c.in_ok-write_number.ensures in
        let order = it.orderly c.requires.orderly in
        let more = did.appends.count did.not_failed in
        whole_writable _ (version_of it.sectors) c.in_ok-sector_id.sector_id (wrote.changes.version ∙ did.appends.version) (omega (arith, wrote.count, more, did.number))
        (subst (IsNotIn it.difat_sectors.items) (sym did.number) (none_behind (count_of it.sectors) it.difat_sectors.items order.there))
        (subst (IsNotIn it.fat_sectors.items) (sym did.number) (none_behind (count_of it.sectors) it.fat_sectors.items (it.there c.requires.live)));
  };
  whole = λ honest.
      let it = c.args.self.now in
      let v = version_of it.sectors in
      let b = bytes_of c.write_number.new.sectors in
      let did = c.in_ok-sector_id.ensures in
      let wrote = c.in_ok-write_number.ensures in
      let first = did.whole did.not_failed honest in
      let second = longer_over (bytes_of c.append_sector.new.sectors) b (to_le_bytes w32 end_of_chain) _ (wrote.changes.bytes wrote.not_failed (subst IsTrue (sym did.appends.honest) honest)) in
      let all : sector_start v (count_of it.sectors) + sector_len v ≤ length b = omega (arith, first, second) in
      (subst (λ u. sector_start u c.in_ok-sector_id.sector_id + sector_len u ≤ length b) (sym (wrote.changes.version ∙ did.appends.version)) (subst (λ n. sector_start v n + sector_len v ≤ length b) (sym did.number) all), tt);
}

pub returns-clause-ends : goal.returns-clause-ends
returns-clause-ends g c = record {
  number = omega (arith, c.in_ok-sector_id.ensures.number, (c.args.self.now.orderly c.requires.orderly).covered);
  fat = c.push_reserved.ensures.entries;
  tables = (refl, refl);
}

pub returns-in_err-write_number-clause-error_contract : goal.returns-in_err-write_number-clause-error_contract
returns-in_err-write_number-clause-error_contract g c =
    let it = c.args.self.now in
    let did = c.in_ok-sector_id.ensures in
    let wrote = c.in_err-write_number.ensures in
    passed_attempts c.from_residual-in_err-write_number.result c.in_err-write_number.field-0.0 it.sectors c.append_sector.new.sectors c.write_number.new.sectors c.from_residual-in_err-write_number.ensures.1
    did.appends.continues (did.not_failed ∙ sym c.requires.live) wrote.after_error wrote.cause wrote.errors

pub index-holder-requires : goal.index-holder-requires
index-holder-requires g c =
    let it = c.args.self.now in
    let v = version_of it.sectors in
    let n = length it.fat_sectors.items in
    let each : c.sector_len-each.result / 4 ≡ per v = ap (λ n. n / 4) c.sector_len-each.ensures in
    let below = subst (λ e. c.len-index.result / e < n) (sym each) (split v n c.len-index.result (omega (arith, c.len-index.ensures.value, c.requires.place.room))).0 in
    omega (arith, below, it.fat_sectors.ok.0)

pub write_number-requires-clause-there : goal.write_number-requires-clause-there
write_number-requires-clause-there g c =
    let it = c.args.self.now in
    let v = version_of it.sectors in
    let n = length it.fat_sectors.items in
    let each : c.sector_len-each.result / 4 ≡ per v = ap (λ n. n / 4) c.sector_len-each.ensures in
    let below = subst (λ e. c.len-index.result / e < n) (sym each) (split v n c.len-index.result (omega (arith, c.len-index.ensures.value, c.requires.place.room))).0 in
    let holder = get_or_read it.fat_sectors.items _ _ below c.index-holder.ensures 0 in
    let did = c.in_ok-sector_id.ensures in
    omega (arith, holder, it.there c.requires.live (c.len-index.result / (c.sector_len-each.result / 4)) below, did.appends.count did.not_failed)

pub write_number-requires-clause-inside : goal.write_number-requires-clause-inside
write_number-requires-clause-inside g c =
    let it = c.args.self.now in
    let did = c.in_ok-sector_id.ensures.appends.version in
    let each : c.sector_len-each.result / 4 ≡ per (version_of it.sectors) = ap (λ n. n / 4) c.sector_len-each.ensures in
    subst (λ v. c.len-index.result % (c.sector_len-each.result / 4) < sector_len v / 4) (sym did) (subst (λ e. c.len-index.result % e < per (version_of it.sectors)) (sym each) (rest_below (version_of it.sectors) c.len-index.result))

pub returns-clause-spends : goal.returns-clause-spends
returns-clause-spends g c = λ n had.
    let it = c.args.self.now in
    let did = c.in_ok-sector_id.ensures in
    let wrote = c.in_ok-write_number.ensures in
    let fs = it.fat_sectors.items in
    let long : length (entries_of c.push_reserved.new.self) ≡ length (entries_of it.fat) + 1 = ap length c.push_reserved.ensures.entries ∙ length-append (entries_of it.fat) (end_of_chain ∷ []) in
    let places : length fs * (sector_len (version_of c.write_number.new.sectors) / 4) ≡ length fs * (sector_len (version_of it.sectors) / 4) = ap (λ v. length fs * (sector_len v / 4)) (wrote.changes.version ∙ did.appends.version) in
    record {
      fat = let p = had.fat in omega (arith, p, long, places, c.push_reserved.ensures.runs, c.push_reserved.ensures.capacity);
      fat_sectors = let p = had.fat_sectors in omega (arith, p);
      difat_sectors = let p = had.difat_sectors in omega (arith, p);
    }
