use Rattle.std.proofs.Common.{◌≡◌, ◌<◌, ◌≤◌, inl, inr, rules, length, refl, ap, sym, subst, ◌∙◌, arith, ⊎_elim, [], ◌∷◌}
use Rattle.std.specs.Prelude.{slice_index}
use Rattle.std.proofs.lemmas.List.{get_or-set_same}
use Rattle.std.proofs.lemmas.Option.{slice_get_within}
use Rattle.cfb_medium.specs.declared.error.Error.TheVariants.{Failed, InvalidData}
use Rattle.cfb_sectors.specs.Held.{IsJustifiedByMedium}
use Rattle.cfb_sectors.proofs.Appending.{on_ok}
use Rattle.cfb_sectors.proofs.Causes.{err_same}
use Rattle.cfb_sectors.specs.Sectors.{end_of_chain, greatest_regular, Chain as IsChain}
use Rattle.cfb_chains.proofs.Beside.{none_first}
use Rattle.cfb_chains.specs.LinkViews.{ids_of}
use Rattle.cfb_fat.specs.Orderly.{AreBelow}
use Rattle.cfb_fat.specs.OnlyReads.{all_rest_refl}
use Rattle.cfb_fat.proofs.GrowthSteps.{err_both, err_map, on_ok_map}
use Rattle.cfb_fat.proofs.Leaving.{changes_leave}
use Rattle.cfb_fat.proofs.EntryChanges.{cause_since, chain_inside, changes_rest, changes_then, none_later, not_again}
use Rattle.cfb_fat_runs.specs.Tables.{entries_of}
use Rattle.cfb_fat.proofs.allocator.Allocator.free_chain_after.Goals as goal

pub returns-in_err-next-clause-refused_only_if : goal.returns-in_err-next-clause-refused_only_if
returns-in_err-next-clause-refused_only_if g c = λ wrong. (
  λ orderly ids chain. ⊎_elim
      (λ failed. absurd (let same = err_same c.from_residual.result c.in_err-next.field-0.0 InvalidData c.from_residual.ensures.1 wrong in let both : Failed ≡ InvalidData = sym failed.0 ∙ same in cc))
      (λ missing. missing.2 (slice_get_within (entries_of c.args.self.now.fat) c.args.sector_id chain.2 chain.3))
      c.in_err-next.ensures.errors,
  all_rest_refl c.args.self.now,
)

pub set_entry-requires-clause-there : goal.set_entry-requires-clause-there
set_entry-requires-clause-there g c = subst (λ l. c.args.sector_id < length l) (sym c.in_ok-reserve_runs.ensures.only_reads.fat) (slice_get_within (entries_of c.args.self.now.fat) c.args.sector_id c.in_ok-next.next c.in_ok-next.ensures.entry.1)

pub set_entry-requires-clause-room : goal.set_entry-requires-clause-room
set_entry-requires-clause-room g c = let room = c.in_ok-reserve_runs.ensures.room in inr (omega (arith, room))

pub free_entries-requires-clause-room : goal.free_entries-requires-clause-room
free_entries-requires-clause-room g c = let room = c.in_ok-reserve_runs.ensures.room in let runs = c.in_ok-set_entry.ensures.runs in omega (arith, room, runs.0, runs.1)

pub free_entries-requires-clause-there : goal.free_entries-requires-clause-there
free_entries-requires-clause-there g c =
    let fat = (entries_of c.args.self.now.fat) in
    let did = c.in_ok-set_entry.ensures in
    subst (AreBelow (length (entries_of c.set_entry.new.self.fat))) (sym c.sector_ids-behind.ensures)
    (subst (λ n. AreBelow n (ids_of c.in_ok-rest.rest)) (sym ((did.changes.fat did.not_failed).size ∙ ap length c.in_ok-reserve_runs.ensures.only_reads.fat)) (chain_inside fat c.in_ok-next.next (ids_of c.in_ok-rest.rest) c.in_ok-rest.ensures.chain))

pub returns-clause-frees : goal.returns-clause-frees
returns-clause-frees g c =
    let it = c.args.self.now in
    let mid = c.reserve_runs.new.self in
    let rests = c.in_ok-reserve_runs.ensures.only_reads in
    let id = c.args.sector_id in
    let ids = c.sector_ids-behind.result.now in
    let next = c.in_ok-next.next in
    let found = c.in_ok-next.ensures.entry.1 in
    let below = slice_get_within (entries_of it.fat) id next found in
    let regular : id ≤ greatest_regular = let most = it.inside c.in_ok-next.ensures.entry.0 in omega (arith, below, most, it.sectors.few) in
    let rest : IsChain (entries_of it.fat) next ids = subst (IsChain (entries_of it.fat) next) (sym c.sector_ids-behind.ensures) c.in_ok-rest.ensures.chain in
    let chain : IsChain (entries_of it.fat) id (id ∷ ids) = (refl, regular, next, found, rest) in
    let did = c.in_ok-set_entry.ensures in
    let then = c.free_entries.ensures in
    let ended : slice_index (entries_of c.set_entry.new.self.fat) id ≡ end_of_chain = ap (λ l. slice_index l id) (did.entry did.not_failed) ∙ get_or-set_same (entries_of mid.fat) id end_of_chain 0 (subst (λ l. id < length l) (sym rests.fat) below) in (
      ids,
      on_ok c.free_entries.result _ _ (λ live. (chain, (then.changes.fat live).others id (not_again (entries_of it.fat) id ids chain) ∙ ended, then.entries live)) then.not_failed,
      changes_then (id ∷ ids) (id ∷ ids) (id ∷ ids) it mid c.free_entries.new.self (λ n none. none) (λ n none. none) (changes_rest (id ∷ ids) it mid rests)
          (changes_then (id ∷ []) ids (id ∷ ids) mid c.set_entry.new.self c.free_entries.new.self (none_first (id ∷ []) ids) (none_later id ids) did.changes then.changes),
    )

pub returns-clause-leaves : goal.returns-clause-leaves
returns-clause-leaves g c =
    let it = c.args.self.now in
    let mid = c.reserve_runs.new.self in
    let rests = c.in_ok-reserve_runs.ensures.only_reads in
    let id = c.args.sector_id in
    let ids = c.sector_ids-behind.result.now in
    let next = c.in_ok-next.next in
    let found = c.in_ok-next.ensures.entry.1 in
    let below = slice_get_within (entries_of it.fat) id next found in
    let regular : id ≤ greatest_regular = let most = it.inside c.in_ok-next.ensures.entry.0 in omega (arith, below, most, it.sectors.few) in
    let rest : IsChain (entries_of it.fat) next ids = subst (IsChain (entries_of it.fat) next) (sym c.sector_ids-behind.ensures) c.in_ok-rest.ensures.chain in
    let chain : IsChain (entries_of it.fat) id (id ∷ ids) = (refl, regular, next, found, rest) in
    let changes = changes_then (id ∷ ids) (id ∷ ids) (id ∷ ids) it mid c.free_entries.new.self (λ n none. none) (λ n none. none) (changes_rest (id ∷ ids) it mid rests)
    (changes_then (id ∷ []) ids (id ∷ ids) mid c.set_entry.new.self c.free_entries.new.self (none_first (id ∷ []) ids) (none_later id ids) c.in_ok-set_entry.ensures.changes c.free_entries.ensures.changes) in
    on_ok_map c.free_entries.result _ _ c.free_entries.ensures.not_failed (λ live. (ids, chain, λ honest. changes_leave (id ∷ ids) it c.free_entries.new.self changes live honest))

pub returns-clause-error_contract : goal.returns-clause-error_contract
returns-clause-error_contract g c =
    let it = c.args.self.now in
    let mid = c.set_entry.new.self in
    let now = c.free_entries.new.self in
    let first = c.in_ok-set_entry.ensures in
    let did = c.free_entries.ensures in
    record {
      live = search rules;
      failed = search rules;
      cause = err_map c.free_entries.result (IsJustifiedByMedium mid.sectors now.sectors) (IsJustifiedByMedium it.sectors now.sectors) did.cause
          (λ e cause. cause_since it.sectors mid.sectors now.sectors e (λ start from. first.changes.continues start (c.in_ok-reserve_runs.ensures.only_reads.sectors.continues start from)) (first.not_failed ∙ sym c.in_ok-next.ensures.entry.0) cause);
      fault = err_both c.free_entries.result _ _ _ did.errors did.after_error (λ e is failed. inl (is, inl failed));
    }
