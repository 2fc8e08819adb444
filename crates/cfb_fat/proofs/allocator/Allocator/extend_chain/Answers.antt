use Rattle.cfb_fat.proofs.Sparing.{exit_spends}
use Rattle.std.proofs.Common.{rules, inl, inr, ⊎_elim, [], ◌∷◌, refl, sym, subst, ◌∙◌, IsTrue}
use Rattle.cfb_medium.specs.Versions.{sector_len}
use Rattle.cfb_sectors.specs.Sectors.{sector_start}
use Rattle.cfb_sectors.specs.Held.{IsJustifiedByMedium}
use Rattle.cfb_sectors.proofs.Causes.{passed_on}
use Rattle.cfb_fat.proofs.EntryChanges.{cause_since}
use Rattle.cfb_chains.proofs.Extending.{chain_extended, last_below}
use Rattle.cfb_fat.specs.Growing.{AllocatesSectors}
use Rattle.cfb_fat.specs.Keeping.{may_still, takes_rest}
use Rattle.cfb_fat.specs.OnlyReads.{all_rest_refl}
use Rattle.cfb_fat.proofs.GrowthSteps.{on_err}
use Rattle.cfb_fat.proofs.Readied.{easy_link}
use Rattle.cfb_fat.proofs.Leaving.{takes_leave}
use Rattle.cfb_fat.proofs.Taken.{takes_extended, takes_failed}
use Rattle.cfb_fat_runs.specs.Tables.{entries_of}
use Rattle.cfb_fat.proofs.allocator.Allocator.extend_chain.Goals as goal

pub set_entry-requires-clause-room : goal.set_entry-requires-clause-room
set_entry-requires-clause-room g c =
    let it = c.args.self.now in
    let was = c.in_ok-last.ensures.chain in
    let took = c.in_ok-sector_id.ensures in
    inl (easy_link (entries_of it.fat) (entries_of c.take.new.self.fat) was.0 c.args.start c.in_ok-last.last c.in_ok-sector_id.sector_id was.1 took.takes.free (took.takes.occupies.grows.fat took.tries.live) took.takes.chain)

pub set_entry-requires-clause-there : goal.set_entry-requires-clause-there
set_entry-requires-clause-there g c =
    let it = c.args.self.now in
    let was = c.in_ok-last.ensures.chain in
    let took = c.in_ok-sector_id.ensures in
    last_below (entries_of it.fat) (entries_of c.take.new.self.fat) _ was.0 c.args.start c.in_ok-last.last c.in_ok-sector_id.sector_id was.1 took.takes.free (took.takes.occupies.grows.fat took.tries.live) took.takes.chain refl

pub returns-in_err-set_entry-clause-none : goal.returns-in_err-set_entry-clause-none
returns-in_err-set_entry-clause-none g c =
    let it = c.args.self.now in
    let took = c.in_ok-sector_id.ensures.takes.occupies.grows in
    let set = c.in_err-set_entry.ensures in
    on_err c.from_residual-in_err-set_entry.result (AllocatesSectors [] [] it c.set_entry.new.self)
    (takes_failed [] [] it c.set_entry.new.self (set.changes.honest ∙ took.honest) (λ start from. set.changes.continues start (took.continues start from)) (set.changes.version ∙ took.version) set.after_error)

pub returns-clause-extends : goal.returns-clause-extends
returns-clause-extends g c =
    let it = c.args.self.now in
    let mid = c.take.new.self in
    let now = c.set_entry.new.self in
    let front = c.in_ok-last.ensures.chain.0 in
    let last = c.in_ok-last.last in
    let n = c.in_ok-sector_id.sector_id in
    let was = c.in_ok-last.ensures.chain.1 in
    let took = c.in_ok-sector_id.ensures in
    let set = c.in_ok-set_entry.ensures in (
      front,
      last,
      was,
      chain_extended (entries_of it.fat) (entries_of mid.fat) (entries_of now.fat) front c.args.start last n was took.takes.free (took.takes.occupies.grows.fat took.tries.live) took.takes.chain (set.entry set.not_failed),
      takes_extended c.args.init front c.args.start last n it mid now was took.tries.live took.takes set.changes set.entry,
    )

pub returns-clause-fresh : goal.returns-clause-fresh
returns-clause-fresh g c =
    let it = c.args.self.now in
    let mid = c.take.new.self in
    let now = c.set_entry.new.self in
    let v = it.sectors.version in
    let n = c.in_ok-sector_id.sector_id in
    let took = c.in_ok-sector_id.ensures in
    let set = c.in_ok-set_entry.ensures in
    record {
      filled = λ honest. set.changes.beside set.not_failed (subst IsTrue (sym took.takes.occupies.grows.honest) honest) (sector_start v n) (sector_len v) took.takes.occupies.fresh.writable.fat ∙ took.takes.occupies.fresh.filled honest;
      writable = may_still mid now set.changes.version set.changes.count set.changes.fat_sectors set.changes.difat_sectors (sector_start v n) (sector_len v) took.takes.occupies.fresh.writable;
    }

pub returns-in_err-last-clause-none : goal.returns-in_err-last-clause-none
returns-in_err-last-clause-none g c = let it = c.args.self.now in on_err c.from_residual.result (AllocatesSectors [] [] it it) (takes_rest [] it it (all_rest_refl it))

pub returns-in_err-set_entry-clause-error_contract : goal.returns-in_err-set_entry-clause-error_contract
returns-in_err-set_entry-clause-error_contract g c =
    let it = c.args.self.now in
    let took = c.in_ok-sector_id.ensures in
    record {
      live = search rules;
      failed = search rules;
      cause = passed_on c.from_residual-in_err-set_entry.result c.in_err-set_entry.field-0.0 (IsJustifiedByMedium it.sectors c.set_entry.new.self.sectors) c.from_residual-in_err-set_entry.ensures.1
          (cause_since it.sectors c.take.new.self.sectors c.set_entry.new.self.sectors c.in_err-set_entry.field-0.0 took.takes.occupies.grows.continues (took.tries.live ∙ sym c.in_ok-last.ensures.not_failed) c.in_err-set_entry.ensures.cause);
      fault = search rules;
    }

pub returns-clause-leaves : goal.returns-clause-leaves
returns-clause-leaves g c =
    let did = returns-clause-extends g c in
    let n = c.in_ok-sector_id.sector_id in
    (did.0, did.1, did.2, λ honest. takes_leave (n ∷ []) (did.1 ∷ n ∷ []) c.args.self.now c.set_entry.new.self did.4 c.in_ok-set_entry.ensures.not_failed honest)

pub returns-in_err-sector_id-clause-spends : goal.returns-in_err-sector_id-clause-spends
returns-in_err-sector_id-clause-spends g c = λ ends n memory.
    exit_spends c.from_residual-in_err-sector_id.result c.in_err-sector_id.field-0.0 _ _ c.from_residual-in_err-sector_id.ensures.1 (⊎_elim (λ failed. inl failed) (λ full. inr (inr full)) (c.in_err-sector_id.ensures.spends n memory).1)

pub returns-clause-spends : goal.returns-clause-spends
returns-clause-spends g c = λ ends n memory.
    let it = c.args.self.now in
    let was = c.in_ok-last.ensures.chain in
    let took = c.in_ok-sector_id.ensures in
    let easy = easy_link (entries_of it.fat) (entries_of c.take.new.self.fat) was.0 c.args.start c.in_ok-last.last c.in_ok-sector_id.sector_id was.1 took.takes.free (took.takes.occupies.grows.fat took.tries.live) took.takes.chain in
    (c.in_ok-set_entry.ensures.keeps easy 0 n (took.spends n memory).0, tt)
