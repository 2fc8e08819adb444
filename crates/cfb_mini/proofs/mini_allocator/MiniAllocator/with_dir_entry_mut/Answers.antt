use Rattle.std.proofs.Common.{inl, inr, [], append-nil, ap, sym, subst, ◌∙◌, ⊎_elim, refl}
use Rattle.std.specs.Prelude.{slice_get}
use Rattle.cfb_chains.specs.Owned.{ReplacesChain}
use Rattle.cfb_fat.specs.Seeing.{seen_of}
use Rattle.cfb_fat.specs.Tables.{version_of}
use Rattle.cfb_sectors.specs.Sectors.{sector}
use Rattle.cfb_directory.specs.Views as directory
use Rattle.cfb_directory.proofs.Setting.{has_directory}
use Rattle.cfb_mini.specs.Views.{allocator_of, directory_of}
use Rattle.cfb_mini.proofs.Counts.{counts_beside}
use Rattle.cfb_mini.proofs.DirectoryChanges.{directory_beside, directory_changes, first_start, keeps_owners, not_failed}
use Rattle.cfb_mini.proofs.mini_allocator.MiniAllocator.with_dir_entry_mut.Goals as goal

pub returns-in-Err-clause-refused_only_if : goal.returns-in-Err-clause-refused_only_if
returns-in-Err-clause-refused_only_if g c = λ wrong own h.
    let it = c.args.self.now in
    let live = not_failed _ (λ failed. let other = (c.in-Err.ensures.error_contract.failed failed).0 in absurd (cc)) in
    c.in-Err.ensures.refused_only_if wrong (has_directory (directory_of it) live h.honest h.memory.directory (directory_beside it own h))

pub returns-in-Err-clause-after_error : goal.returns-in-Err-clause-after_error
returns-in-Err-clause-after_error g c =
    let it = c.args.self.now in
    let kept = c.in-Err.ensures.kept in
    ⊎_elim (λ failed. inl failed) (λ rests. inr (keeps_owners it c.with_dir_entry_mut.new.self rests kept.ids kept.entries c.with_dir_entry_mut.ensures.memory)) c.in-Err.ensures.error_contract.after

pub returns-clause-changes : goal.returns-clause-changes
returns-clause-changes g c = λ own e h found keeps.
    let it = c.args.self.now in
    let d = c.with_dir_entry_mut.new.self in
    let sets = c.in_default.ensures.set e found in
    let has = has_directory (directory_of it) c.in_default.ensures.error_contract.live.0 h.honest h.memory.directory (directory_beside it own h) in
    directory_changes [] [] it d own h c.with_dir_entry_mut.ensures.invariants (sets.ids ∙ sym (append-nil (directory.directory_ids (directory_of it)))) (subst (λ l. ReplacesChain (sector (version_of (allocator_of it))) [] (directory.directory_ids (directory_of it)) [] l (seen_of (allocator_of it)) (seen_of (directory.allocator_of d))) (sym sets.ids) (sets.becomes has)) c.with_dir_entry_mut.ensures.memory
    (λ root at. first_start (directory.entries_held (directory_of it)) c.args.id e _ root _ found keeps h.memory.stream_at (ap (λ l. slice_get l 0) (sym sets.entries) ∙ at))
    (counts_beside it (record it { directory = d }) _ c.with_dir_entry_mut.ensures.invariants (sets.becomes has).leaves sets.ids refl)

pub returns-in-Err-clause-unchanged : goal.returns-in-Err-clause-unchanged
returns-in-Err-clause-unchanged g c = λ ruled.
    let rests = c.in-Err.ensures.only_reads ruled in
    keeps_owners c.args.self.now c.with_dir_entry_mut.new.self rests.allocator rests.ids rests.entries c.with_dir_entry_mut.ensures.memory
