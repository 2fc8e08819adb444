use Rattle.std.proofs.Common.{◌+◌, ◌++◌, ◌∷◌, [], ap, arith, sym, ◌∙◌, take}
use Rattle.std.proofs.lemmas.List.{take_all, take_more}
use Rattle.cfb_directory.specs.Entries.{entries_in}
use Rattle.cfb_tree.specs.EntryViews.{entry_in}
use Rattle.cfb_copying.proofs.DirectoryBytes.{entry_more, none_yet}
use Rattle.cfb_copying.proofs.NextStreams.{entry_found}
use Rattle.cfb_copying.proofs.entries.directory_bytes.Goals as goal

pub write-init : goal.write-init
write-init c = none_yet c.args.version c.new-bytes.result.items c.new-bytes.ensures.items

pub write-preserved : goal.write-preserved
write-preserved c =
    let i = c.write.entry-index in
    let es = c.args.entries.now in
    let e = c.entry-item.result in
    let more = entry_more c.args.version i (take i es) (take (i + 1) es) e c.write.bytes.items c.write_to.new.writer.items c.fits.ensures
    (take_more es i e c.write-test.true ∙ ap (λ x. take i es ++ x ∷ []) (sym c.entry-item.is)) c.in_ok-write_to.ensures.ok c.write.invariant.size c.write.invariant.held in
    record { size = more.0; held = more.1 }

pub returns-then-entry-stream_len_mask-clause-refused_only_if : goal.returns-then-entry-stream_len_mask-clause-refused_only_if
returns-then-entry-stream_len_mask-clause-refused_only_if c = λ fits.
    let e = c.entry-item.result in
    let small = fits c.write.entry-index (entry_in e) (entry_found c.args.entries.now c.write.entry-index e c.write-test.true c.entry-item.is) in
    let mask = c.stream_len_mask.ensures in
    let large = c.if-entry-stream_len_mask.true in
    absurd (omega (arith, small, mask, large))

pub returns-clause-held : goal.returns-clause-held
returns-clause-held c = c.write.invariant.held ∙ ap entries_in (take_all c.write.entry-index c.args.entries.now c.write-test.false)

pub returns-clause-size : goal.returns-clause-size
returns-clause-size c =
    let all = c.write-test.false in
    let few = c.write.auto.entry-index-end in
    let size = c.write.invariant.size in
    omega (arith, all, few, size)
