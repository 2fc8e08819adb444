use Rattle.std.proofs.Common.{inr, ◌≤◌, ap, ◌∙◌, arith}
use Rattle.cfb_medium.specs.Versions.{stream_len_mask}
use Rattle.cfb_fat.specs.Tables.{version_of}
use Rattle.cfb_directory.proofs.Setting.{has_directory}
use Rattle.cfb_mini.specs.Views.{allocator_of, directory_of}
use Rattle.cfb_mini.proofs.CoveredStream.{covered_set, covers_is}
use Rattle.cfb_mini.proofs.DirectoryChanges.{directory_beside, not_failed}
use Rattle.cfb_mini.proofs.StreamGrowth.{first_there}
use Rattle.cfb_mini.proofs.mini_allocator.MiniAllocator.cover_mini_stream.Goals as goal

pub returns-clause-covers : goal.returns-clause-covers
returns-clause-covers g c = λ own h.
    let it = c.args.self.now in
    let root = first_there it.directory.entries.items.items it.directory.entries.some in
    let did = c.in_default.ensures in
    let mask = c.stream_len_mask.ensures ∙ ap stream_len_mask c.version.ensures in
    let room = c.if-len-stream_len_mask.false in
    let fits : c.stream_len-len.result ≤ stream_len_mask (version_of (allocator_of it)) = omega (arith, mask, room) in
    inr (covers_is it c.with_root_dir_entry_mut.new.self own c.start_of.result c.stream_len-len.result root.0 h did.error_contract.live.0 c.with_root_dir_entry_mut.ensures.invariants c.start_of.ensures c.stream_len-len.ensures fits root.1 (did.set root.0 root.1) c.with_root_dir_entry_mut.ensures.memory)

pub returns-clause-covered : goal.returns-clause-covered
returns-clause-covered g c =
    let it = c.args.self.now in
    let root = first_there it.directory.entries.items.items it.directory.entries.some in
    covered_set it c.with_root_dir_entry_mut.new.self c.start_of.result c.stream_len-len.result root.0 c.stream_len-len.ensures root.1 (c.in_default.ensures.set root.0 root.1)

pub returns-in-Err-clause-refused_only_if : goal.returns-in-Err-clause-refused_only_if
returns-in-Err-clause-refused_only_if g c = λ wrong own h.
    let it = c.args.self.now in
    let live = not_failed _ (λ failed. let other = (c.in-Err.ensures.error_contract.failed failed).0 in absurd (cc)) in
    c.in-Err.ensures.refused_only_if wrong (has_directory (directory_of it) live h.honest h.memory.directory (directory_beside it own h))
