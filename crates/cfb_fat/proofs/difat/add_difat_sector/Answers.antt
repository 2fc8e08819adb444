use Rattle.std.proofs.Common.{◌≡◌, ℕ, ◌+◌, ◌-◌, ◌*◌, ◌%◌, ◌<◌, inr, length, take, get_or, ap, sym, subst, ◌∙◌, arith, false, IsTrue}
use Rattle.std.specs.Int.{w32, to_le_bytes}
use Rattle.cfb_medium.specs.Bytes.{overwritten}
use Rattle.cfb_medium.specs.Versions.{sector_len}
use Rattle.cfb_sectors.specs.Held.{bytes_of, count_of, has_failed_here, is_honest, version_of}
use Rattle.cfb_sectors.specs.Sectors.{sector, sector_start, sectors_in}
use Rattle.cfb_fat.proofs.ListedMore.{difat_listed, ends_before, link_aside_part, link_before, link_spot, one_beside, one_written, part_beside, words_before, IsLink}
use Rattle.cfb_chains.proofs.ChainWriting.{length_within}
use Rattle.cfb_chains.proofs.Overwriting.{over_longer}
use Rattle.cfb_fat.proofs.Listing.{header_whole}
use Rattle.cfb_fat.proofs.TableWords.{next_word}
use Rattle.cfb_fat.proofs.Fresh.{difat_entries, difat_next}
use Rattle.cfb_medium.specs.Numbers.{numbers, u32_at}
use Rattle.cfb_sectors.specs.Initial.{initial}
use Rattle.cfb_sectors.specs.declared.initial.SectorInit.TheVariants.{Difat}
use Rattle.cfb_fat.proofs.difat.add_difat_sector.Given.{Over}
use Rattle.cfb_fat.proofs.difat.add_difat_sector.Goals as goal

-- where the new sector is named
spot_of : (g : Over) (c : goal.In_ok-write_word g) → (q : ℕ) × IsLink (version_of c.args.sectors.now) c.args.difat_sectors.now q × (c.link_place-place.result ≡ 4 * q)
spot_of g c =
    let v = version_of c.args.sectors.now in
    let ds = c.args.difat_sectors.now in
    let place = c.link_place-place.result in
    link_spot v ds place c.link_place-place.ensures.first
    (subst (λ u. 0 < length ds → place ≡ sector_start u (get_or ds (length ds - 1) 0) + (sector_len u - 4)) c.version.ensures c.link_place-place.ensures.last)

-- what was written
bytes_are : (g : Over) (c : goal.In_ok-write_word g) → (q : ℕ) → c.link_place-place.result ≡ 4 * q → has_failed_here c.write_word.new.sectors ≡ false → IsTrue (is_honest c.args.sectors.now)
    → bytes_of c.write_word.new.sectors ≡ overwritten (bytes_of c.append_sector.new.sectors) (4 * q) (to_le_bytes w32 c.in_ok-sector_id.sector_id)
bytes_are g c q at live honest =
    c.in_ok-write_word.ensures.changes.bytes live (subst IsTrue (sym c.in_ok-sector_id.ensures.appends.honest) honest)
    ∙ ap (λ p. overwritten (bytes_of c.append_sector.new.sectors) p (to_le_bytes w32 c.in_ok-sector_id.sector_id)) at

pub returns-clause-appends : goal.returns-clause-appends
returns-clause-appends g c =
    let it = c.args.sectors.now in
    let added = c.in_ok-sector_id.ensures.appends in
    let named = c.in_ok-write_word.ensures in
    let spot = spot_of g c in
    record {
      honest = named.changes.honest ∙ added.honest;
      continues = λ start from. named.changes.continues start (added.continues start from);
      version = named.changes.version ∙ added.version;
      live = λ live. added.live (named.changes.live live);
      count = λ live. named.count ∙ added.count (named.changes.live live);
      longer = λ live honest.
          let was = added.longer (named.changes.live live) honest in
          let is = ap length (bytes_are g c spot.0 spot.2 live honest) in
          let one = over_longer (bytes_of c.append_sector.new.sectors) (to_le_bytes w32 c.in_ok-sector_id.sector_id) (4 * spot.0) in
          omega (arith, was, is, one);
      whole = λ live honest.
          let mid = bytes_of c.append_sector.new.sectors in
          let v = version_of it in
          let ends = c.in_ok-sector_id.ensures.whole (named.changes.live live) honest in
          let fits = ends_before v (count_of it) spot.0 (link_before v c.args.difat_sectors.now spot.0 (count_of it) c.requires.there spot.1) in
          let same = length_within mid (to_le_bytes w32 c.in_ok-sector_id.sector_id) (4 * spot.0) (omega (arith, fits, ends)) in
          subst (λ n. n % sector_len v ≡ 0) (sym (ap length (bytes_are g c spot.0 spot.2 live honest) ∙ same)) (added.whole (named.changes.live live) honest);
      before = λ live honest p n fits beside.
          part_beside (bytes_of c.append_sector.new.sectors) (bytes_of c.write_word.new.sectors) spot.0 c.in_ok-sector_id.sector_id (bytes_are g c spot.0 spot.2 live honest) p n
          (link_aside_part (version_of it) c.args.difat_sectors.now spot.0 p n spot.1 beside.0 beside.1)
          ∙ added.before (named.changes.live live) honest p n fits tt;
    }

pub returns-clause-listed : goal.returns-clause-listed
returns-clause-listed g c = λ live honest once fs h.
    let it = c.args.sectors.now in
    let v = version_of it in
    let old = bytes_of it in
    let mid = bytes_of c.append_sector.new.sectors in
    let last = c.write_word.new.sectors in
    let new = bytes_of last in
    let ds = c.args.difat_sectors.now in
    let added = c.in_ok-sector_id.ensures.appends in
    let named = c.in_ok-write_word.ensures in
    let live_mid = named.changes.live live in
    let spot = spot_of g c in
    let q = spot.0 in
    let written = bytes_are g c q spot.2 live honest in
    let version : version_of last ≡ v = named.changes.version ∙ added.version in
    let honest_last = subst IsTrue (sym (named.changes.honest ∙ added.honest)) honest in
    let more : count_of last ≡ count_of it + 1 = named.count ∙ added.count live_mid in
    let was : count_of it ≡ sectors_in v (length old) = it.counted (added.live live_mid) honest in
    let is : count_of last ≡ sectors_in v (length new) = last.counted live honest_last ∙ ap (λ u. sectors_in u (length new)) version in
    let in_old = header_whole v old (count_of it) was c.requires.some in
    let in_new = header_whole v new (count_of last) is (omega (arith, more)) in
    let ends = ends_before v (count_of it) q (link_before v ds q (count_of it) c.requires.there spot.1) in
    let content : sector v new (count_of it) ≡ initial Difat (sector_len v) =
    part_beside mid new q c.in_ok-sector_id.sector_id written (sector_start v (count_of it)) (sector_len v) (inr ends)
    ∙ c.in_ok-sector_id.ensures.content live_mid honest in
    difat_listed v old new ds fs (count_of it) q (count_of it) in_old in_new (omega (arith, was, is, more)) c.requires.some c.requires.there once
    spot.1.0 spot.1.1
    (one_written mid new q c.in_ok-sector_id.sector_id written (let n = c.in_ok-sector_id.ensures.number in omega (arith, n, c.requires.few)) ∙ c.in_ok-sector_id.ensures.number)
    (λ r below no_q. one_beside mid new q c.in_ok-sector_id.sector_id written r no_q
    ∙ words_before v old mid (count_of it) r (λ p n fits. added.before live_mid honest p n fits tt) below)
    (omega (arith, is, more)) (ap (λ s. numbers (take (sector_len v - 4) s)) content ∙ difat_entries v)
    (sym (next_word v new (count_of it)) ∙ ap (λ s. u32_at s (sector_len v - 4)) content ∙ difat_next v) h
