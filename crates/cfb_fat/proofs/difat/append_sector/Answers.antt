use Rattle.std.proofs.Common.{◌≡◌, ◌+◌, ◌%◌, ◌<◌, ◌≤◌, inl, length, ap, sym, subst, ◌∙◌, arith}
use Rattle.cfb_medium.specs.Bytes.{overwritten}
use Rattle.cfb_medium.specs.Versions.{sector_len}
use Rattle.cfb_sectors.specs.Held.{bytes_of, count_of, version_of}
use Rattle.cfb_sectors.specs.Initial.{first_bytes}
use Rattle.cfb_sectors.specs.Sectors.{filled_part, sector_start}
use Rattle.cfb_fat.proofs.EndsKept.{behind_all, length_past, whole_sector}
use Rattle.cfb_fat.proofs.Fresh.{length-first, some_bytes}
use Rattle.cfb_chains.proofs.Overwriting.{beside, over_longer, over_reaches, written}
use Rattle.cfb_fat.proofs.difat.append_sector.Goals as goal

pub returns-clause-appends : goal.returns-clause-appends
returns-clause-appends g c =
    let it = c.args.sectors.now in
    let now = c.append_sector.new.self in
    let did = c.append_sector.ensures in
    let first = did.changes c.requires.few in
    let v = version_of it in
    let start = sector_start v (count_of it) in
    let fresh = first_bytes c.args.init (sector_len v) in
    record {
      honest = first.honest;
      continues = first.continues;
      version = first.version;
      live = first.live;
      count = λ live. did.count live c.requires.few;
      longer = λ live honest.
          let more = over_longer (bytes_of it) fresh start in
          let at = ap length (first.bytes live honest) in
          omega (arith, more, at);
      whole = λ live honest.
          let past = behind_all v (length (bytes_of it)) (count_of it) (it.counted (first.live live) honest) c.requires.few in
          let size = length-first c.args.init v in
          let some = some_bytes v in
          let end : length (bytes_of now) ≡ start + sector_len v =
          ap length (first.bytes live honest) ∙ length_past (bytes_of it) fresh start (omega (arith, size, some)) (omega (arith, size, past)) ∙ ap (λ n. start + n) size in
          subst (λ n. n % sector_len v ≡ 0) (sym end) (whole_sector v (count_of it));
      before = λ live honest place count fits stays.
          ap (λ b. filled_part b place count) (first.bytes live honest) ∙ beside (bytes_of it) _ _ place count (inl fits);
    }

-- what the sector's bytes were written over
pub returns-clause-whole : goal.returns-clause-whole
returns-clause-whole g c = λ live honest.
    let it = c.args.sectors.now in
    let v = version_of it in
    let first = c.append_sector.ensures.changes c.requires.few in
    let fresh = first_bytes c.args.init (sector_len v) in
    let long = length-first c.args.init v in
    let reach = over_reaches (bytes_of it) fresh (sector_start v (count_of it)) (subst (λ n. 0 < n) (sym long) (some_bytes v)) in
    let at = ap length (first.bytes live honest) in
    omega (arith, reach, at, long)

pub returns-clause-content : goal.returns-clause-content
returns-clause-content g c = λ live honest.
    let it = c.args.sectors.now in
    let v = version_of it in
    let start = sector_start v (count_of it) in
    let first = c.append_sector.ensures.changes c.requires.few in
    let fresh = first_bytes c.args.init (sector_len v) in
    ap (λ b. filled_part b start (sector_len v)) (first.bytes live honest)
    ∙ ap (filled_part (overwritten (bytes_of it) start fresh) start) (sym (length-first c.args.init v))
    ∙ written (bytes_of it) fresh start
