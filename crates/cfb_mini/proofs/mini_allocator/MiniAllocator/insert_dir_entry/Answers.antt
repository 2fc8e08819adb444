use Rattle.std.proofs.Common.{inl, inr, ap, ⊎_elim, Err}
use Rattle.cfb_fat.specs.Tables.{has_failed_here, version_of}
use Rattle.cfb_directory.specs.Growth.{count_words}
use Rattle.cfb_directory.specs.Views as directory
use Rattle.cfb_directory.proofs.Setting.{has_directory}
use Rattle.cfb_mini.specs.Views.{allocator_of, directory_of}
use Rattle.cfb_mini.proofs.Counts.{counts_grown}
use Rattle.cfb_mini.proofs.DirectoryChanges.{added_start, directory_beside, directory_changes, either, keeps_owners, not_failed}
use Rattle.cfb_mini.proofs.mini_allocator.MiniAllocator.insert_dir_entry.Goals as goal

pub returns-in-Err-clause-refused_only_if : goal.returns-in-Err-clause-refused_only_if
returns-in-Err-clause-refused_only_if g c = λ reads tree path own has h usable.
    let it = c.args.self.now in
    let did = c.in-Err.ensures in
    ⊎_elim
    (λ fault. inl fault)
    (λ rule. inr (⊎_elim
    (λ taken. inr (inl (taken, λ none. did.taken (ap Err taken) reads tree path has none)))
    (⊎_elim
    (λ invalid. inr (inr (invalid, λ valid. (did.named (ap Err invalid)).0 valid)))
    (⊎_elim
    (λ full. inl full)
    (λ missing.
    let live = not_failed _ (λ failed. let other = (did.error_contract.failed failed).0 in absurd (cc)) in
    absurd (did.refused_only_if (ap Err missing) reads tree path has
    (record { has = has_directory (directory_of it) live h.honest h.memory.directory (directory_beside it own h); orderly = usable.orderly; sizes = usable.sizes })))))
    rule))
    did.error_contract.fault

pub returns-in-Err-clause-after_error : goal.returns-in-Err-clause-after_error
returns-in-Err-clause-after_error g c =
    let it = c.args.self.now in
    let d = c.insert_dir_entry.new.self in
    ⊎_elim
    (λ failed. inl failed)
    (λ rests. ⊎_elim
    (λ failed. inl failed)
    (λ live. let kept = c.in-Err.ensures.kept live in inr (keeps_owners it d rests kept.ids kept.entries c.insert_dir_entry.ensures.memory))
    (either (has_failed_here (directory.allocator_of d))))
    c.in-Err.ensures.error_contract.after

pub returns-clause-changes : goal.returns-clause-changes
returns-clause-changes g c = λ own h root.
    let it = c.args.self.now in
    let d = c.insert_dir_entry.new.self in
    let did = c.in-Ok.ensures in
    let grown = did.grown (has_directory (directory_of it) did.error_contract.live.0 h.honest h.memory.directory (directory_beside it own h)) in
    directory_changes (count_words (version_of (allocator_of it))) grown.more it d own h c.insert_dir_entry.ensures.invariants grown.ids grown.becomes c.insert_dir_entry.ensures.memory
    (λ e at. added_start (directory.entries_held (directory_of it)) (directory.entries_held d) _ e c.in-Ok.id _ did.entry root h.memory.stream_at at)
    (counts_grown it d c.insert_dir_entry.ensures.invariants grown)

pub returns-in-Err-clause-unchanged : goal.returns-in-Err-clause-unchanged
returns-in-Err-clause-unchanged g c = λ ruled.
    let rests = c.in-Err.ensures.only_reads ruled in
    keeps_owners c.args.self.now c.insert_dir_entry.new.self rests.allocator rests.ids rests.entries c.insert_dir_entry.ensures.memory
