use Rattle.std.proofs.Common.{inl, length, sym, subst, rules}
use Rattle.cfb_fat_runs.specs.Tables.{entries_of}
use Rattle.cfb_chains.specs.LinkViews.{ids_of}
use Rattle.cfb_fat.specs.Keeping.{rests_cause}
use Rattle.cfb_fat.specs.Orderly.{AreBelow}
use Rattle.cfb_sectors.specs.Held.{IsJustifiedByMedium}
use Rattle.cfb_sectors.specs.Sectors.{Chain as IsChain}
use Rattle.cfb_fat.proofs.GrowthSteps.{err_both, err_map, on_ok_map}
use Rattle.cfb_fat.proofs.Leaving.{changes_leave}
use Rattle.cfb_fat.proofs.EntryChanges.{chain_inside, changes_rest, changes_then}
use Rattle.cfb_fat.proofs.allocator.Allocator.free_chain.Goals as goal

pub free_entries-requires-clause-there : goal.free_entries-requires-clause-there
free_entries-requires-clause-there g c =
    let fat = entries_of c.args.self.now.fat in
    subst (λ l. AreBelow (length l) c.sector_ids-ids.result.now) (sym c.in_ok-reserve_runs.ensures.only_reads.fat)
    (subst (AreBelow (length fat)) (sym c.sector_ids-ids.ensures) (chain_inside fat c.args.start (ids_of c.in_ok-links.links) c.in_ok-links.ensures.chain))

pub returns-clause-frees : goal.returns-clause-frees
returns-clause-frees g c =
    let it = c.args.self.now in
    let mid = c.reserve_runs.new.self in
    let now = c.free_entries.new.self in
    let ids = c.sector_ids-ids.result.now in
    let did = c.free_entries.ensures in
    let chain : IsChain (entries_of it.fat) c.args.start ids = subst (IsChain (entries_of it.fat) c.args.start) (sym c.sector_ids-ids.ensures) c.in_ok-links.ensures.chain in
    (ids, on_ok_map c.free_entries.result _ _ did.not_failed (λ live. (chain, did.entries live)), changes_then ids ids ids it mid now (λ n none. none) (λ n none. none) (changes_rest ids it mid c.in_ok-reserve_runs.ensures.only_reads) did.changes)

pub returns-clause-leaves : goal.returns-clause-leaves
returns-clause-leaves g c =
    let it = c.args.self.now in
    let mid = c.reserve_runs.new.self in
    let now = c.free_entries.new.self in
    let ids = c.sector_ids-ids.result.now in
    let changes = changes_then ids ids ids it mid now (λ n none. none) (λ n none. none) (changes_rest ids it mid c.in_ok-reserve_runs.ensures.only_reads) c.free_entries.ensures.changes in
    on_ok_map c.free_entries.result _ _ c.free_entries.ensures.not_failed
    (λ live. (ids, subst (IsChain (entries_of it.fat) c.args.start) (sym c.sector_ids-ids.ensures) c.in_ok-links.ensures.chain, λ honest. changes_leave ids it now changes live honest))

pub returns-clause-error_contract : goal.returns-clause-error_contract
returns-clause-error_contract g c =
    let it = c.args.self.now in
    let mid = c.reserve_runs.new.self in
    let now = c.free_entries.new.self in
    let did = c.free_entries.ensures in
    record {
      live = search rules;
      failed = search rules;
      cause = err_map c.free_entries.result (IsJustifiedByMedium mid.sectors now.sectors) (IsJustifiedByMedium it.sectors now.sectors) did.cause (λ e cause. rests_cause it mid now e c.in_ok-reserve_runs.ensures.only_reads cause);
      fault = err_both c.free_entries.result _ _ _ did.errors did.after_error (λ e is failed. inl (is, inl failed));
    }
