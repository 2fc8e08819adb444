use Rattle.std.proofs.Common.{◌≡◌, ◌*◌, ◌/◌, ◌<◌, ◌≤◌, length, get_or, refl, ap, sym, subst, ◌∙◌, arith, IsTrue}
use Rattle.cfb_sectors.specs.Held.{count_of, version_of}
use Rattle.cfb_fat.specs.Changing.{fat_here}
use Rattle.cfb_fat.proofs.EntryChanges.{entries_more}
use Rattle.cfb_fat.proofs.EntryWrites.{entry_here, here_size, one_written, writes_more, writes_none}
use Rattle.cfb_fat.specs.Orderly.{AreBelow}
use Rattle.cfb_fat.proofs.FatEntries.{per}
use Rattle.cfb_fat.proofs.changes.write_entries.Goals as goal

pub loop-sector_id-init : goal.loop-sector_id-init
loop-sector_id-init g c = record {
  writes = writes_none c.args.sector_ids.now c.args.fat_sectors.now c.args.sectors.now;
  live = c.requires.live;
  entries = λ honest once k below. absurd (omega (arith, below));
}

pub loop-sector_id-preserved : goal.loop-sector_id-preserved
loop-sector_id-preserved g c =
    let inv = c.loop-sector_id.invariant in
    let did = c.in_ok-write_number.ensures in
    let old = c.args.sectors.now in
    let now = c.loop-sector_id.sectors in
    let new = c.write_number.new.sectors in
    let ids = c.args.sector_ids.now in
    let fs = c.args.fat_sectors.now in
    let i = c.loop-sector_id.sector_id-index in
    let id = get_or ids i 0 in
    let more = c.loop-sector_id-test.true in
    let each : c.sector_len-each.result / 4 ≡ per (version_of now) = ap (λ n. n / 4) c.sector_len-each.ensures ∙ ap per (sym inv.writes.version) in
    let places : count_of now ≤ length fs * per (version_of now) = subst (λ v. count_of now ≤ length fs * per v) (sym inv.writes.version) (omega (arith, inv.writes.count, c.requires.places)) in
    let there : id < count_of now = subst (λ n. id < n) (sym inv.writes.count) (c.requires.inside i more) in
    let size = here_size {g = g.F.ReadMedium} fs now places in
    let inside : id < length (fat_here {g = g.F.ReadMedium} fs now) = omega (arith, size, there) in
    record {
      writes = writes_more ids fs old now new i id more refl inv.writes (one_written fs now new id c.args.entry _ _ each refl (subst (λ n. AreBelow n fs) (sym inv.writes.count) c.requires.there) there places did.changes did.count c.ranges.entry.fits);
      live = did.not_failed;
      entries = λ honest once k less.
          let set = entry_here fs now new id c.args.entry _ _ each refl there places did.changes did.count c.ranges.entry.fits did.not_failed (subst IsTrue (sym inv.writes.honest) honest) once in
          ap (λ l. get_or l (get_or ids k 0) 0) (sym set) ∙ entries_more c.args.entry ids (fat_here {g = g.F.ReadMedium} fs now) i more inside (inv.entries honest once) k less;
    }

pub returns-clause-entries : goal.returns-clause-entries
returns-clause-entries g c = λ live honest once k less.
    c.loop-sector_id.invariant.entries honest once k (omega (arith, less, c.loop-sector_id-test.false, c.loop-sector_id.auto.sector_id-index-end))
