use Rattle.std.proofs.Common.{inl, inr}
use Rattle.std.specs.Prelude.{Err, Ok}
use Rattle.cfb.proofs.LiveMeaning.{holds_meant}
use Rattle.cfb.specs.Views.{file_case_table, mini_of}
use Rattle.cfb_chain_io.proofs.GoingOn.{goes_then, rests_go_on}
use Rattle.cfb_mini.specs.Views.{allocator_of}
use Rattle.msi_soundness.proofs.Steps.{cause_then}
use Rattle.msi_reread.proofs.TreesReread.{keeps_read, rests_later, texts_reread, texts_refused_so, unread}
use Rattle.msi_reread.proofs.rereading.reread_texts.Goals as goal

pub returns-in-Ok-clause-reread : goal.returns-in-Ok-clause-reread
returns-in-Ok-clause-reread g c tree m =
    let a = c.args.file.now in
    let s = c.in-Ok.streams in
    texts_reread a c.texts_in.new.file c.in-Ok.ensures.only_reads tree m c.args.page (λ lacking. lacking.items) c.put_texts.new.file (s.pool.items, s.data.items, s.lacking.items)
    (c.in-Ok.ensures.answer tree (holds_meant a tree m)) c.put_texts.result c.put_texts.ensures.done

pub returns-in-Ok-clause-refused_only_if : goal.returns-in-Ok-clause-refused_only_if
returns-in-Ok-clause-refused_only_if g c =
    let a = c.args.file.now in
    let s = c.in-Ok.streams in
    texts_refused_so a c.texts_in.new.file c.in-Ok.ensures.only_reads c.args.page (s.pool.items, s.data.items, s.lacking.items) (λ tree m. c.in-Ok.ensures.answer tree (holds_meant a tree m)) c.put_texts.result
    c.put_texts.ensures.refused_only_if

pub returns-in-Ok-clause-rests : goal.returns-in-Ok-clause-rests
returns-in-Ok-clause-rests g c = rests_later c.args.file.now c.texts_in.new.file c.in-Ok.ensures.only_reads c.put_texts.new.file c.put_texts.result c.put_texts.ensures.rests

pub returns-in-Ok-clause-invariants : goal.returns-in-Ok-clause-invariants
returns-in-Ok-clause-invariants g c =
    let a = allocator_of (mini_of c.args.file.now) in
    let m = allocator_of (mini_of c.texts_in.new.file) in
    goes_then a m (allocator_of (mini_of c.put_texts.new.file)) (rests_go_on a m c.in-Ok.ensures.only_reads.mini.directory.allocator) c.put_texts.ensures.invariants

pub returns-in-Ok-clause-cause : goal.returns-in-Ok-clause-cause
returns-in-Ok-clause-cause g c = cause_then c.args.file.now c.texts_in.new.file c.put_texts.new.file c.put_texts.result c.in-Ok.ensures.only_reads c.put_texts.ensures.cause

pub returns-in-Err-clause-refused_only_if : goal.returns-in-Err-clause-refused_only_if
returns-in-Err-clause-refused_only_if g c tree m may = unread c.in-Err.error _ (c.in-Err.ensures.answer tree (holds_meant c.args.file.now tree m))

pub returns-in-Err-clause-rests : goal.returns-in-Err-clause-rests
returns-in-Err-clause-rests g c = inr (keeps_read c.args.file.now c.texts_in.new.file c.in-Err.ensures.only_reads)
