use Rattle.std.proofs.Common.{inl, inr, ⊎_elim}
use Rattle.cfb_fat.specs.Tables.{has_failed_here, version_of}
use Rattle.cfb_directory.specs.Growth.{count_words}
use Rattle.cfb_directory.specs.Views as directory
use Rattle.cfb_directory.proofs.Setting.{has_directory}
use Rattle.cfb_mini.specs.Views.{allocator_of, directory_of}
use Rattle.cfb_mini.proofs.Counts.{counts_grown}
use Rattle.cfb_mini.proofs.DirectoryChanges.{directory_beside, directory_changes, either, keeps_owners, not_failed, removed_start}
use Rattle.cfb_mini.proofs.mini_allocator.MiniAllocator.unlink_dir_entry.Goals as goal

pub returns-in-Err-clause-refused_only_if : goal.returns-in-Err-clause-refused_only_if
returns-in-Err-clause-refused_only_if g c = λ wrong letters reads tree path parent name own child h usable.
    let it = c.args.self.now in
    let live = not_failed _ (λ failed. let other = (c.in-Err.ensures.error_contract.failed failed).0 in absurd (cc)) in
    c.in-Err.ensures.refused_only_if wrong letters reads tree path parent name child
    (record { has = has_directory (directory_of it) live h.honest h.memory.directory (directory_beside it own h); orderly = usable.orderly; sizes = usable.sizes })

pub returns-in-Err-clause-after_error : goal.returns-in-Err-clause-after_error
returns-in-Err-clause-after_error g c =
    let it = c.args.self.now in
    let d = c.unlink_dir_entry.new.self in
    ⊎_elim
    (λ failed. inl failed)
    (λ rests. ⊎_elim
    (λ failed. inl failed)
    (λ live. let kept = c.in-Err.ensures.kept live in inr (keeps_owners it d rests kept.ids kept.entries c.unlink_dir_entry.ensures.memory))
    (either (has_failed_here (directory.allocator_of d))))
    c.in-Err.ensures.error_contract.after

pub returns-clause-changes : goal.returns-clause-changes
returns-clause-changes g c = λ own h root other.
    let it = c.args.self.now in
    let d = c.unlink_dir_entry.new.self in
    let did = c.in_default.ensures in
    let grown = did.grown (has_directory (directory_of it) did.error_contract.live.0 h.honest h.memory.directory (directory_beside it own h)) in
    directory_changes (count_words (version_of (allocator_of it))) grown.more it d own h c.unlink_dir_entry.ensures.invariants grown.ids grown.becomes c.unlink_dir_entry.ensures.memory
    (λ e at. removed_start (directory.entries_held (directory_of it)) (directory.entries_held d) e c.args.id _ did.entry root other h.memory.stream_at at)
    (counts_grown it d c.unlink_dir_entry.ensures.invariants grown)
