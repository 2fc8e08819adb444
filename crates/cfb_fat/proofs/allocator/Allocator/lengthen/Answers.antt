use Rattle.std.proofs.Common.{◌≡◌, ◌+◌, ◌*◌, ◌/◌, ◌<◌, [], ◌∷◌, length, get_or, inl, inr, ap, sym, subst, ◌∙◌, arith, ⊎_elim, length-append}
use Rattle.std.proofs.Math.ListN.{set}
use Rattle.cfb_medium.specs.Versions.{sector_len}
use Rattle.cfb_sectors.specs.Sectors.{difat_sector, fat_sector, free}
use Rattle.cfb_fat.proofs.Places.{few_full, passed_attempts}
use Rattle.cfb_fat.proofs.Sparing.{fewer_entries}
use Rattle.std.proofs.lemmas.Bool.Decides.{eqb_tells}
use Rattle.cfb_fat.proofs.GrowthSteps.{grows_failed, grows_marked, marked_one, marked_two, named_last, room_after}
use Rattle.cfb_fat_runs.specs.Tables.{entries_of}
use Rattle.cfb_fat.proofs.allocator.Allocator.lengthen.Goals as goal

pub returns-then-can_name-clause-grows : goal.returns-then-can_name-clause-grows
returns-then-can_name-clause-grows g c =
    let it = c.args.self.now in
    let order = it.orderly c.requires.orderly in
    grows_marked it c.grow_fat.new.self c.set_entry.new.self c.num_sectors-count.result (omega (arith, order.covered, c.num_sectors-count.ensures)) c.in_ok-grow_fat.ensures.grows c.in_ok-set_entry.ensures.changes

pub returns-then-can_name-clause-added : goal.returns-then-can_name-clause-added
returns-then-can_name-clause-added g c =
    let it = c.args.self.now in
    let order = it.orderly c.requires.orderly in
    let did = c.in_ok-set_entry.ensures in
    let grown = c.in_ok-grow_fat.ensures in
    let size = (did.changes.fat did.not_failed).size ∙ ap length grown.tables.0 ∙ length-append (entries_of it.fat) (free ∷ []) in
    let new = (entries_of c.set_entry.new.self.fat) in
    λ n past below none unset.
    let here : n ≡ length (entries_of it.fat) = omega (arith, size, past, below) in inr (
      (λ beside. named_last it.fat_sectors.items _ n (length (entries_of it.fat)) (did.changes.fat_sectors ∙ grown.tables.2) here beside),
      ap (λ k. get_or new k 0) here ∙ marked_one (entries_of it.fat) new c.num_sectors-count.result fat_sector (c.num_sectors-count.ensures ∙ sym order.covered) (did.entry did.not_failed ∙ ap (λ l. set l c.num_sectors-count.result fat_sector) grown.tables.0),
    )

pub returns-then-can_name-clause-place : goal.returns-then-can_name-clause-place
returns-then-can_name-clause-place g c =
    let it = c.args.self.now in
    let did = c.in_ok-set_entry.ensures in
    let grown = c.in_ok-grow_fat.ensures in
    let version = did.changes.version ∙ grown.grows.version in
    let size : length (entries_of c.set_entry.new.self.fat) ≡ length (entries_of it.fat) + 1 = (did.changes.fat did.not_failed).size ∙ ap length grown.tables.0 ∙ length-append (entries_of it.fat) (free ∷ []) in
    let sectors : length c.set_entry.new.self.fat_sectors.items ≡ length it.fat_sectors.items + 1 = ap length (did.changes.fat_sectors ∙ grown.tables.2) ∙ length-append it.fat_sectors.items (length (entries_of it.fat) ∷ []) in
    let memory = (grown.spends 0 c.requires.memory).fat in let runs = did.runs in
    let less = few_full it.sectors.version (length (entries_of it.fat)) (length it.fat_sectors.items) c.requires.full (omega (arith, c.requires.few, (it.orderly c.requires.orderly).covered)) in
    record {
      room = subst (λ v. length (entries_of c.set_entry.new.self.fat) < length c.set_entry.new.self.fat_sectors.items * (sector_len v / 4)) (sym version)
          (room_after it.sectors.version (length (entries_of it.fat)) (length it.fat_sectors.items) 1 _ _ c.requires.full (omega arith) size sectors);
      memory = omega (arith, memory, runs.0, runs.1);
      few = omega (arith, less, size);
    }

pub returns-clause-grows : goal.returns-clause-grows
returns-clause-grows g c =
    let it = c.args.self.now in
    let order = it.orderly c.requires.orderly in
    grows_marked it c.set_entry-2.new.self c.set_entry-3.new.self (c.num_sectors-count.result + 1) (omega (arith, order.covered, c.num_sectors-count.ensures))
    (grows_marked it c.grow_both.new.self c.set_entry-2.new.self c.num_sectors-count.result (omega (arith, order.covered, c.num_sectors-count.ensures)) c.in_ok-grow_both.ensures.grows c.in_ok-set_entry-2.ensures.changes)
    c.in_ok-set_entry-3.ensures.changes

pub returns-clause-added : goal.returns-clause-added
returns-clause-added g c =
    let it = c.args.self.now in
    let order = it.orderly c.requires.orderly in
    let first = c.in_ok-set_entry-2.ensures in
    let second = c.in_ok-set_entry-3.ensures in
    let k = c.num_sectors-count.result in
    let grown = c.in_ok-grow_both.ensures in
    let size = (second.changes.fat second.not_failed).size ∙ (first.changes.fat first.not_failed).size ∙ ap length grown.tables.0 ∙ length-append (entries_of it.fat) (free ∷ free ∷ []) in
    let new = (entries_of c.set_entry-3.new.self.fat) in
    let marks = marked_two (entries_of it.fat) new k difat_sector fat_sector (c.num_sectors-count.ensures ∙ sym order.covered)
    (second.entry second.not_failed ∙ ap (λ l. set l (k + 1) fat_sector) (first.entry first.not_failed ∙ ap (λ l. set l k difat_sector) grown.tables.0)) in
    λ n past below none unset. ⊎_elim
    (λ here. inl (
      (λ beside. named_last it.difat_sectors.items _ n (length (entries_of it.fat)) (second.changes.difat_sectors ∙ first.changes.difat_sectors ∙ grown.tables.1) here.1 beside),
      ap (λ m. get_or new m 0) here.1 ∙ marks.0,
    ))
    (λ off. let differ = off.1 in let there : n ≡ length (entries_of it.fat) + 1 = omega (arith, size, past, below, differ) in inr (
      (λ beside. named_last it.fat_sectors.items _ n (length (entries_of it.fat) + 1) (second.changes.fat_sectors ∙ first.changes.fat_sectors ∙ grown.tables.2) there beside),
      ap (λ m. get_or new m 0) there ∙ marks.1,
    ))
    (eqb_tells n (length (entries_of it.fat)))

pub returns-clause-place : goal.returns-clause-place
returns-clause-place g c =
    let it = c.args.self.now in
    let first = c.in_ok-set_entry-2.ensures in
    let second = c.in_ok-set_entry-3.ensures in
    let grown = c.in_ok-grow_both.ensures in
    let version = second.changes.version ∙ first.changes.version ∙ grown.grows.version in
    let size : length (entries_of c.set_entry-3.new.self.fat) ≡ length (entries_of it.fat) + 2 = (second.changes.fat second.not_failed).size ∙ (first.changes.fat first.not_failed).size ∙ ap length grown.tables.0 ∙ length-append (entries_of it.fat) (free ∷ free ∷ []) in
    let sectors : length c.set_entry-3.new.self.fat_sectors.items ≡ length it.fat_sectors.items + 1 =
    ap length (second.changes.fat_sectors ∙ first.changes.fat_sectors ∙ grown.tables.2) ∙ length-append it.fat_sectors.items ((length (entries_of it.fat) + 1) ∷ []) in
    let memory = (grown.spends 0 c.requires.memory).fat in
    let less = few_full it.sectors.version (length (entries_of it.fat)) (length it.fat_sectors.items) c.requires.full (omega (arith, c.requires.few, (it.orderly c.requires.orderly).covered)) in
    record {
      room = subst (λ v. length (entries_of c.set_entry-3.new.self.fat) < length c.set_entry-3.new.self.fat_sectors.items * (sector_len v / 4)) (sym version)
          (room_after it.sectors.version (length (entries_of it.fat)) (length it.fat_sectors.items) 2 _ _ c.requires.full (omega arith) size sectors);
      memory = omega (arith, memory, first.runs.0, first.runs.1, second.runs.0, second.runs.1);
      few = omega (arith, less, size);
    }

pub returns-in_err-set_entry-clause-grows : goal.returns-in_err-set_entry-clause-grows
returns-in_err-set_entry-clause-grows g c =
    let grown = c.in_ok-grow_fat.ensures.grows in
    let set = c.in_err-set_entry.ensures in
    grows_failed [] [] c.args.self.now c.set_entry.new.self (set.changes.honest ∙ grown.honest) (λ start from. set.changes.continues start (grown.continues start from)) (set.changes.version ∙ grown.version) set.after_error

pub returns-in_err-set_entry-2-clause-grows : goal.returns-in_err-set_entry-2-clause-grows
returns-in_err-set_entry-2-clause-grows g c =
    let grown = c.in_ok-grow_both.ensures.grows in
    let set = c.in_err-set_entry-2.ensures in
    grows_failed [] [] c.args.self.now c.set_entry-2.new.self (set.changes.honest ∙ grown.honest) (λ start from. set.changes.continues start (grown.continues start from)) (set.changes.version ∙ grown.version) set.after_error

pub set_entry-requires-3-clause-there : goal.set_entry-requires-3-clause-there
set_entry-requires-3-clause-there g c =
    let it = c.args.self.now in
    let first = c.in_ok-set_entry-2.ensures in
    let order = it.orderly c.requires.orderly in
    let size = (first.changes.fat first.not_failed).size ∙ ap length c.in_ok-grow_both.ensures.tables.0 ∙ length-append (entries_of it.fat) (free ∷ free ∷ []) in
    omega (arith, size, order.covered, c.num_sectors-count.ensures)

pub returns-in_err-set_entry-3-clause-grows : goal.returns-in_err-set_entry-3-clause-grows
returns-in_err-set_entry-3-clause-grows g c =
    let grown = c.in_ok-grow_both.ensures.grows in
    let first = c.in_ok-set_entry-2.ensures.changes in
    let set = c.in_err-set_entry-3.ensures in
    grows_failed [] [] c.args.self.now c.set_entry-3.new.self (set.changes.honest ∙ first.honest ∙ grown.honest) (λ start from. set.changes.continues start (first.continues start (grown.continues start from))) (set.changes.version ∙ first.version ∙ grown.version) set.after_error

pub returns-then-can_name-clause-spends : goal.returns-then-can_name-clause-spends
returns-then-can_name-clause-spends g c = λ n memory. fewer_entries c.set_entry.new.self 2 1 n (omega arith) (c.in_ok-set_entry.ensures.memory 2 n (c.in_ok-grow_fat.ensures.spends n memory))

pub returns-clause-spends : goal.returns-clause-spends
returns-clause-spends g c = λ n memory. c.in_ok-set_entry-3.ensures.memory 1 n (c.in_ok-set_entry-2.ensures.memory 2 n (c.in_ok-grow_both.ensures.spends n memory))

pub returns-in_err-set_entry-clause-error_contract : goal.returns-in_err-set_entry-clause-error_contract
returns-in_err-set_entry-clause-error_contract g c =
    let it = c.args.self.now in
    let grown = c.in_ok-grow_fat.ensures in
    let set = c.in_err-set_entry.ensures in
    passed_attempts c.from_residual-in_err-set_entry.result c.in_err-set_entry.field-0.0 it.sectors c.grow_fat.new.self.sectors c.set_entry.new.self.sectors c.from_residual-in_err-set_entry.ensures.1
    grown.grows.continues (grown.error_contract.live ∙ sym c.requires.live) set.after_error set.cause set.errors

pub returns-in_err-set_entry-2-clause-error_contract : goal.returns-in_err-set_entry-2-clause-error_contract
returns-in_err-set_entry-2-clause-error_contract g c =
    let it = c.args.self.now in
    let grown = c.in_ok-grow_both.ensures in
    let set = c.in_err-set_entry-2.ensures in
    passed_attempts c.from_residual-in_err-set_entry-2.result c.in_err-set_entry-2.field-0.0 it.sectors c.grow_both.new.self.sectors c.set_entry-2.new.self.sectors c.from_residual-in_err-set_entry-2.ensures.1
    grown.grows.continues (grown.error_contract.live ∙ sym c.requires.live) set.after_error set.cause set.errors

pub returns-in_err-set_entry-3-clause-error_contract : goal.returns-in_err-set_entry-3-clause-error_contract
returns-in_err-set_entry-3-clause-error_contract g c =
    let it = c.args.self.now in
    let grown = c.in_ok-grow_both.ensures in
    let first = c.in_ok-set_entry-2.ensures in
    let set = c.in_err-set_entry-3.ensures in
    passed_attempts c.from_residual-in_err-set_entry-3.result c.in_err-set_entry-3.field-0.0 it.sectors c.set_entry-2.new.self.sectors c.set_entry-3.new.self.sectors c.from_residual-in_err-set_entry-3.ensures.1
    (λ start from. first.changes.continues start (grown.grows.continues start from)) (first.not_failed ∙ sym c.requires.live) set.after_error set.cause set.errors

pub set_entry-requires-clause-room : goal.set_entry-requires-clause-room
set_entry-requires-clause-room g c = inr (let memory = (c.in_ok-grow_fat.ensures.spends 0 c.requires.memory).fat in omega (arith, memory))

pub set_entry-requires-2-clause-room : goal.set_entry-requires-2-clause-room
set_entry-requires-2-clause-room g c = inr (let memory = (c.in_ok-grow_both.ensures.spends 0 c.requires.memory).fat in omega (arith, memory))

pub set_entry-requires-3-clause-room : goal.set_entry-requires-3-clause-room
set_entry-requires-3-clause-room g c =
    let first = c.in_ok-set_entry-2.ensures in
    inr (let memory = (c.in_ok-grow_both.ensures.spends 0 c.requires.memory).fat in omega (arith, memory, first.runs.0, first.runs.1))
