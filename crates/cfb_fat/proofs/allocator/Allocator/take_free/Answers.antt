use Rattle.std.proofs.Common.{inr, ◌+◌, ◌<◌, ◌≤◌, [], ◌∷◌, length, ap, sym, subst, ◌∙◌, arith, IsTrue}
use Rattle.cfb_medium.specs.Versions.{sector_len}
use Rattle.cfb_sectors.specs.Held.{bytes_of, version_of}
use Rattle.cfb_sectors.specs.Initial.{first_bytes}
use Rattle.cfb_sectors.specs.Sectors.{filled_part, sector_start}
use Rattle.cfb_fat.proofs.Places.{passed_attempts}
use Rattle.cfb_fat.proofs.Taken.{whole_writable}
use Rattle.cfb_fat.proofs.Fresh.{length-first, some_bytes}
use Rattle.cfb_fat.proofs.GrowthSteps.{change_grows, grows_failed, on_err, write_grows}
use Rattle.cfb_fat.specs.Growing.{GrowsFat}
use Rattle.cfb_fat.specs.Keeping.{grows_then}
use Rattle.cfb_chains.proofs.Overwriting.{over_reaches, written}
use Rattle.cfb_chains.proofs.Staying.{apart}
use Rattle.cfb_chains.specs.Changes.{IsBeside, IsNotIn}
use Rattle.cfb_fat.proofs.allocator.Allocator.take_free.Goals as goal

pub returns-in_err-set_entry-clause-none : goal.returns-in_err-set_entry-clause-none
returns-in_err-set_entry-clause-none g c =
    let it = c.args.self.now in
    let first = c.in_ok-init_beside.ensures.writes.sectors.0 in
    let set = c.in_err-set_entry.ensures in
    on_err c.from_residual-in_err-set_entry.result (GrowsFat [] [] it c.set_entry.new.self)
    (grows_failed [] [] it c.set_entry.new.self (set.changes.honest ∙ first.honest) (λ start from. set.changes.continues start (first.continues start from)) (set.changes.version ∙ first.version) set.after_error)

pub returns-clause-spends : goal.returns-clause-spends
returns-clause-spends g c = λ entries n memory. c.in_ok-set_entry.ensures.memory entries n (c.in_ok-init_beside.ensures.memory (entries + 1) n memory)

pub set_entry-requires-clause-room : goal.set_entry-requires-clause-room
set_entry-requires-clause-room g c = let same = c.in_ok-init_beside.ensures.runs in inr (omega (arith, c.requires.room, same.0, same.1))

pub returns-clause-occupies : goal.returns-clause-occupies
returns-clause-occupies g c = record {
  grows =
      let it = c.args.self.now in
      let n = c.args.sector_id in
      grows_then (n ∷ []) [] [] (n ∷ []) it c.init_beside.new.self c.set_entry.new.self
      (write_grows n _ it c.init_beside.new.self (it.orderly c.requires.orderly).some (omega (arith, c.requires.there, (it.orderly c.requires.orderly).covered)) c.requires.no_difat (length-first c.args.init (version_of it.sectors)) c.in_ok-init_beside.ensures.writes)
      (change_grows (n ∷ []) c.init_beside.new.self c.set_entry.new.self c.in_ok-set_entry.ensures.changes);
  fresh = record {
    filled = λ honest.
        let it = c.args.self.now in
        let v = version_of it.sectors in
        let n = c.args.sector_id in
        let first = c.in_ok-init_beside.ensures in
        let then = c.in_ok-set_entry.ensures in
        let changes = first.writes.sectors.0 in
        let fresh = first_bytes c.args.init (sector_len v) in
        then.changes.beside then.not_failed (subst IsTrue (sym changes.honest) honest) (sector_start v n) (sector_len v)
        (subst (λ u. IsBeside u c.init_beside.new.self.fat_sectors.items (sector_start v n) (sector_len v)) (sym changes.version)
        (subst (λ l. IsBeside v l (sector_start v n) (sector_len v)) (sym first.writes.fat_sectors) (apart v it.fat_sectors.items n c.requires.no_fat)))
        ∙ ap (λ l. filled_part l (sector_start v n) (sector_len v)) (changes.bytes first.not_failed honest)
        ∙ ap (filled_part _ (sector_start v n)) (sym (length-first c.args.init v)) ∙ written (bytes_of it.sectors) fresh (sector_start v n);
    writable =
        let it = c.args.self.now in
        let n = c.args.sector_id in
        let order = it.orderly c.requires.orderly in
        let first = c.in_ok-init_beside.ensures.writes in
        let then = c.in_ok-set_entry.ensures.changes in
        whole_writable c.set_entry.new.self (version_of it.sectors) n (then.version ∙ first.sectors.0.version) (omega (arith, c.requires.there, order.covered, then.count, first.sectors.1))
        (subst (λ l. IsNotIn l n) (sym (then.difat_sectors ∙ first.difat_sectors)) c.requires.no_difat) (subst (λ l. IsNotIn l n) (sym (then.fat_sectors ∙ first.fat_sectors)) c.requires.no_fat);
  };
  whole = λ honest.
      let it = c.args.self.now in
      let v = version_of it.sectors in
      let n = c.args.sector_id in
      let now = bytes_of c.set_entry.new.self.sectors in
      let first = c.in_ok-init_beside.ensures in
      let then = c.in_ok-set_entry.ensures in
      let changes = first.writes.sectors.0 in
      let fresh = first_bytes c.args.init (sector_len v) in
      let long = length-first c.args.init v in
      let reach = over_reaches (bytes_of it.sectors) fresh (sector_start v n) (subst (λ k. 0 < k) (sym long) (some_bytes v)) in
      let at = ap length (changes.bytes first.not_failed honest) in
      let more = then.changes.longer then.not_failed (subst IsTrue (sym changes.honest) honest) in
      let all : sector_start v n + sector_len v ≤ length now = omega (arith, reach, long, at, more) in
      (subst (λ u. sector_start u n + sector_len u ≤ length now) (sym (then.changes.version ∙ changes.version)) all, tt);
}

pub returns-in_err-set_entry-clause-error_contract : goal.returns-in_err-set_entry-clause-error_contract
returns-in_err-set_entry-clause-error_contract g c =
    let it = c.args.self.now in
    let first = c.in_ok-init_beside.ensures in
    let set = c.in_err-set_entry.ensures in
    passed_attempts c.from_residual-in_err-set_entry.result c.in_err-set_entry.field-0.0 it.sectors c.init_beside.new.self.sectors c.set_entry.new.self.sectors c.from_residual-in_err-set_entry.ensures.1
    first.writes.sectors.0.continues (first.not_failed ∙ sym c.requires.live) set.after_error set.cause set.errors
