use Rattle.cfb.specs.Views.{file_case_table, mini_of}
use Rattle.cfb_chain_io.proofs.GoingOn.{goes_cause, goes_then}
use Rattle.cfb_mini.specs.Views.{allocator_of}
use Rattle.msi_reread.proofs.TreesReread.{both_reread}
use Rattle.msi_reread.proofs.rereading.reread.Goals as goal

pub returns-in-Ok-summary_step-clause-reread : goal.returns-in-Ok-summary_step-clause-reread
returns-in-Ok-summary_step-clause-reread g c tree m =
    both_reread c.args.file.now c.texts_step.new.file c.summary_step.new.file c.texts_step.ensures.letters c.args.pages.texts c.args.pages.summary tree c.in-Ok.texts.items c.in-Ok-summary_step.summary.items (c.in-Ok.ensures.reread tree m)
    c.in-Ok-summary_step.ensures.reread

pub returns-in-Ok-summary_step-clause-invariants : goal.returns-in-Ok-summary_step-clause-invariants
returns-in-Ok-summary_step-clause-invariants g c = goes_then _ _ _ c.texts_step.ensures.invariants c.summary_step.ensures.invariants

pub returns-in-Err-summary_step-clause-invariants : goal.returns-in-Err-summary_step-clause-invariants
returns-in-Err-summary_step-clause-invariants g c = goes_then _ _ _ c.texts_step.ensures.invariants c.summary_step.ensures.invariants

pub returns-in-Err-summary_step-clause-cause : goal.returns-in-Err-summary_step-clause-cause
returns-in-Err-summary_step-clause-cause g c live =
    let a = allocator_of (mini_of c.args.file.now) in
    let m = allocator_of (mini_of c.texts_step.new.file) in
    goes_cause a m (allocator_of (mini_of c.summary_step.new.file)) c.in-Err-summary_step.error c.texts_step.ensures.invariants (c.in-Ok.ensures.live live) c.in-Err-summary_step.ensures.cause
