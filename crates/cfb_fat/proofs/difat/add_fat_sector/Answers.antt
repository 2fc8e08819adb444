use Rattle.std.proofs.Common.{◌≡◌, ℕ, ◌+◌, ◌-◌, ◌*◌, ◌/◌, ◌%◌, ◌<◌, ◌≤◌, inl, inr, length, get_or, refl, ap, sym, subst, ◌∙◌, arith, false, IsTrue}
use Rattle.std.specs.Int.{w32, to_le_bytes}
use Rattle.cfb_medium.specs.Bytes.{overwritten}
use Rattle.cfb_medium.specs.Versions.{sector_len}
use Rattle.cfb_sectors.specs.Held.{bytes_of, count_of, has_failed_here, is_honest, version_of}
use Rattle.cfb_sectors.specs.Sectors.{sector_start, sectors_in}
use Rattle.cfb_chains.proofs.ChainWriting.{length_within}
use Rattle.cfb_chains.proofs.Overwriting.{over_longer}
use Rattle.cfb_fat.proofs.FatEntries.{per}
use Rattle.cfb_fat.proofs.ListedMore.{count_aside, difat_counted, ends_before, entry_aside_part, entry_spot, fat_counted, fat_listed, first_written, other_parts, other_words, words_before}
use Rattle.cfb_fat.proofs.ListedStays.{behind_header}
use Rattle.cfb_fat.proofs.Listing.{header_whole}
use Rattle.cfb_fat.proofs.TableWords.{entry_before, entry_behind, header_word, StandsAt}
use Rattle.cfb_fat.proofs.difat.add_fat_sector.Given.{Over}
use Rattle.cfb_fat.proofs.difat.add_fat_sector.Goals as goal

-- where the new sector is named
spot_of : (g : Over) (c : goal.In_ok-write_counts g) → (q : ℕ) × StandsAt (version_of c.args.sectors.now) c.args.difat_sectors.now c.args.fat_count q × (c.entry_place-place.result ≡ 4 * q)
spot_of g c =
    let v = version_of c.args.sectors.now in
    let ds = c.args.difat_sectors.now in
    let k = c.args.fat_count in
    let place = c.entry_place-place.result in
    entry_spot v ds k place c.requires.room c.entry_place-place.ensures.header
    (subst (λ u. 109 ≤ k → place ≡ sector_start u (get_or ds ((k - 109) / (sector_len u / 4 - 1)) 0) + 4 * ((k - 109) % (sector_len u / 4 - 1))) c.version.ensures c.entry_place-place.ensures.sector)

-- what was written
bytes_are : (g : Over) (c : goal.In_ok-write_counts g) → (q : ℕ) → c.entry_place-place.result ≡ 4 * q → has_failed_here c.write_counts.new.sectors ≡ false → IsTrue (is_honest c.args.sectors.now)
    → bytes_of c.write_counts.new.sectors
    ≡ overwritten (overwritten (overwritten (bytes_of c.append_sector.new.sectors) (4 * q) (to_le_bytes w32 c.in_ok-sector_id.sector_id)) 44 (to_le_bytes w32 (c.args.fat_count + 1))) 72 (to_le_bytes w32 (length c.args.difat_sectors.now))
bytes_are g c q at live honest =
    let added = c.in_ok-sector_id.ensures.appends in
    let named = c.in_ok-write_word.ensures.changes in
    let counted = c.in_ok-write_counts.ensures.changes in
    let first = subst IsTrue (sym added.honest) honest in
    counted.bytes live (subst IsTrue (sym named.honest) first)
    ∙ ap (λ b. overwritten (overwritten b 44 (to_le_bytes w32 (c.args.fat_count + 1))) 72 (to_le_bytes w32 (length c.args.difat_sectors.now)))
    (named.bytes (counted.live live) first ∙ ap (λ p. overwritten (bytes_of c.append_sector.new.sectors) p (to_le_bytes w32 c.in_ok-sector_id.sector_id)) at)

pub returns-clause-appends : goal.returns-clause-appends
returns-clause-appends g c =
    let it = c.args.sectors.now in
    let added = c.in_ok-sector_id.ensures.appends in
    let named = c.in_ok-write_word.ensures in
    let counted = c.in_ok-write_counts.ensures in
    let spot = spot_of g c in
    let behind = entry_behind (version_of it) c.args.difat_sectors.now c.args.fat_count spot.0 spot.1 in
    record {
      honest = counted.changes.honest ∙ named.changes.honest ∙ added.honest;
      continues = λ start from. counted.changes.continues start (named.changes.continues start (added.continues start from));
      version = counted.changes.version ∙ named.changes.version ∙ added.version;
      live = λ live. added.live (named.changes.live (counted.changes.live live));
      count = λ live. counted.count ∙ named.count ∙ added.count (named.changes.live (counted.changes.live live));
      longer = λ live honest.
          let was = added.longer (named.changes.live (counted.changes.live live)) honest in
          let is = ap length (bytes_are g c spot.0 spot.2 live honest) in
          let one = over_longer (bytes_of c.append_sector.new.sectors) (to_le_bytes w32 c.in_ok-sector_id.sector_id) (4 * spot.0) in
          let two = over_longer (overwritten (bytes_of c.append_sector.new.sectors) (4 * spot.0) (to_le_bytes w32 c.in_ok-sector_id.sector_id)) (to_le_bytes w32 (c.args.fat_count + 1)) 44 in
          let three = over_longer (overwritten (overwritten (bytes_of c.append_sector.new.sectors) (4 * spot.0) (to_le_bytes w32 c.in_ok-sector_id.sector_id)) 44 (to_le_bytes w32 (c.args.fat_count + 1))) (to_le_bytes w32 (length c.args.difat_sectors.now)) 72 in
          omega (arith, was, is, one, two, three);
      whole = λ live honest.
          let mid = bytes_of c.append_sector.new.sectors in
          let live_mid = named.changes.live (counted.changes.live live) in
          let v = version_of it in
          let ds = c.args.difat_sectors.now in
          let one = overwritten mid (4 * spot.0) (to_le_bytes w32 c.in_ok-sector_id.sector_id) in
          let two = overwritten one 44 (to_le_bytes w32 (c.args.fat_count + 1)) in
          let far = behind_header v (count_of it) in
          let ends = c.in_ok-sector_id.ensures.whole live_mid honest in
          let fits = ends_before v (count_of it) spot.0 (entry_before v ds c.args.fat_count spot.0 (count_of it) c.requires.some c.requires.there spot.1) in
          let first : length one ≡ length mid = length_within mid (to_le_bytes w32 c.in_ok-sector_id.sector_id) (4 * spot.0) (omega (arith, fits, ends)) in
          let second : length two ≡ length one = length_within one (to_le_bytes w32 (c.args.fat_count + 1)) 44 (omega (arith, first, far, ends)) in
          let third = length_within two (to_le_bytes w32 (length ds)) 72 (omega (arith, second, first, far, ends)) in
          subst (λ n. n % sector_len v ≡ 0) (sym (ap length (bytes_are g c spot.0 spot.2 live honest) ∙ third ∙ second ∙ first)) (added.whole live_mid honest);
      before = λ live honest p n fits beside.
          other_parts (bytes_of c.append_sector.new.sectors) (bytes_of c.write_counts.new.sectors) spot.0 c.in_ok-sector_id.sector_id (c.args.fat_count + 1) (length c.args.difat_sectors.now) (bytes_are g c spot.0 spot.2 live honest) behind p n
          (entry_aside_part (version_of it) c.args.difat_sectors.now c.args.fat_count spot.0 p n spot.1 beside.0 beside.1) (count_aside 11 p n (inl refl) beside.1) (count_aside 18 p n (inr (inr refl)) beside.1)
          ∙ added.before (named.changes.live (counted.changes.live live)) honest p n fits tt;
    }

pub returns-clause-content : goal.returns-clause-content
returns-clause-content g c = λ live honest.
    let it = c.args.sectors.now in
    let named = c.in_ok-write_word.ensures in
    let counted = c.in_ok-write_counts.ensures in
    let spot = spot_of g c in
    let behind = entry_behind (version_of it) c.args.difat_sectors.now c.args.fat_count spot.0 spot.1 in
    let ends = ends_before (version_of it) (count_of it) spot.0 (entry_before (version_of it) c.args.difat_sectors.now c.args.fat_count spot.0 (count_of it) c.requires.some c.requires.there spot.1) in
    let far = behind_header (version_of it) (count_of it) in
    other_parts (bytes_of c.append_sector.new.sectors) (bytes_of c.write_counts.new.sectors) spot.0 c.in_ok-sector_id.sector_id (c.args.fat_count + 1) (length c.args.difat_sectors.now) (bytes_are g c spot.0 spot.2 live honest) behind
    (sector_start (version_of it) (count_of it)) (sector_len (version_of it)) (inr ends) (inr (omega (arith, far))) (inr (omega (arith, far)))
    ∙ c.in_ok-sector_id.ensures.content (named.changes.live (counted.changes.live live)) honest

pub returns-clause-listed : goal.returns-clause-listed
returns-clause-listed g c = λ live honest once fs size h.
    let it = c.args.sectors.now in
    let v = version_of it in
    let old = bytes_of it in
    let mid = bytes_of c.append_sector.new.sectors in
    let last = c.write_counts.new.sectors in
    let new = bytes_of last in
    let ds = c.args.difat_sectors.now in
    let added = c.in_ok-sector_id.ensures.appends in
    let named = c.in_ok-write_word.ensures in
    let counted = c.in_ok-write_counts.ensures in
    let live_mid = named.changes.live (counted.changes.live live) in
    let spot = spot_of g c in
    let q = spot.0 in
    let behind = entry_behind v ds c.args.fat_count q spot.1 in
    let written = bytes_are g c q spot.2 live honest in
    let version : version_of last ≡ v = counted.changes.version ∙ named.changes.version ∙ added.version in
    let honest_last = subst IsTrue (sym (counted.changes.honest ∙ named.changes.honest ∙ added.honest)) honest in
    let more : count_of last ≡ count_of it + 1 = counted.count ∙ named.count ∙ added.count live_mid in
    let was : count_of it ≡ sectors_in v (length old) = it.counted (added.live live_mid) honest in
    let is : count_of last ≡ sectors_in v (length new) = last.counted live honest_last ∙ ap (λ u. sectors_in u (length new)) version in
    let in_old = header_whole v old (count_of it) was c.requires.some in
    let in_new = header_whole v new (count_of last) is (omega (arith, more)) in
    fat_listed v old new ds fs (count_of it) q (count_of it) in_old in_new (omega (arith, was, is, more)) c.requires.some c.requires.there once
    (subst (λ n. n < 109 + length ds * (per v - 1)) (sym size) c.requires.room) (subst (λ n. StandsAt v ds n q) (sym size) spot.1)
    (first_written mid new q c.in_ok-sector_id.sector_id (c.args.fat_count + 1) (length ds) written behind (let n = c.in_ok-sector_id.ensures.number in omega (arith, n, c.requires.few)) ∙ c.in_ok-sector_id.ensures.number)
    (λ r below no_q no_fat no_difat. other_words mid new q c.in_ok-sector_id.sector_id (c.args.fat_count + 1) (length ds) written behind r no_q no_fat no_difat
    ∙ words_before v old mid (count_of it) r (λ p n fits. added.before live_mid honest p n fits tt) below)
    h

pub returns-clause-answer : goal.returns-clause-answer
returns-clause-answer g c = λ live honest.
    let it = c.args.sectors.now in
    let last = c.write_counts.new.sectors in
    let added = c.in_ok-sector_id.ensures.appends in
    let named = c.in_ok-write_word.ensures in
    let counted = c.in_ok-write_counts.ensures in
    let spot = spot_of g c in
    let behind = entry_behind (version_of it) c.args.difat_sectors.now c.args.fat_count spot.0 spot.1 in
    let written = bytes_are g c spot.0 spot.2 live honest in
    let honest_last = subst IsTrue (sym (counted.changes.honest ∙ named.changes.honest ∙ added.honest)) honest in
    let more : count_of last ≡ count_of it + 1 = counted.count ∙ named.count ∙ added.count (named.changes.live (counted.changes.live live)) in
    let whole = header_whole (version_of last) (bytes_of last) (count_of last) (last.counted live honest_last) (omega (arith, more)) in (
      header_word (bytes_of last) 44 11 refl (omega (arith, whole)) ∙ fat_counted (bytes_of c.append_sector.new.sectors) (bytes_of last) spot.0 c.in_ok-sector_id.sector_id (c.args.fat_count + 1) (length c.args.difat_sectors.now) written behind (omega (arith, c.requires.most, c.requires.few)),
      header_word (bytes_of last) 72 18 refl (omega (arith, whole)) ∙ difat_counted (bytes_of c.append_sector.new.sectors) (bytes_of last) spot.0 c.in_ok-sector_id.sector_id (c.args.fat_count + 1) (length c.args.difat_sectors.now) written behind (omega (arith, c.requires.fewer, c.requires.few)),
    )
