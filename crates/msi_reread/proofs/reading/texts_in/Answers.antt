use Rattle.std.proofs.Common.{◌∙◌, ap, inl, inr, option_map, subst}
use Rattle.cfb.specs.Views.{file_case_table}
use Rattle.msi_soundness.proofs.Steps.{cause_then}
use Rattle.msi_stored.proofs.Later.{later}
use Rattle.msi_stored.proofs.StoredLaws.{file_then}
use Rattle.msi_reread.proofs.PartsReread.{read_as_same, texts_found, texts_missing}
use Rattle.msi_reread.specs.Reread.{texts_after, IsReadAs}
use Rattle.msi_reread.proofs.reading.texts_in.Goals as goal

pub returns-in-Ok-Some-clause-answer : goal.returns-in-Ok-Some-clause-answer
returns-in-Ok-Some-clause-answer g c tree held =
    let letters = file_case_table c.args.file.now in
    let page = c.args.page in
    let pool = c.in-Ok-Some.pool.items in
    read_as_same (λ it. (it.pool.items, it.data.items, it.lacking.items)) c.texts_of_pool.result (texts_after letters page tree pool) _
    (texts_found letters page tree pool (c.in-Ok-Some.ensures.answer tree held ∙ ap (option_map (λ bytes. bytes.items)) c.in-Ok-Some.field-0-is))
    (subst (λ b. IsReadAs (λ it. (it.pool.items, it.data.items, it.lacking.items)) c.texts_of_pool.result (texts_after letters page tree b)) c.deref.ensures.value
    (later c.args.file.now c.table_bytes.new.file (λ l t. IsReadAs (λ it. (it.pool.items, it.data.items, it.lacking.items)) c.texts_of_pool.result (texts_after l page t c.deref.result.now)) c.table_bytes.ensures.only_reads
    c.texts_of_pool.ensures.answer tree held))

pub returns-in-Ok-Some-clause-only_reads : goal.returns-in-Ok-Some-clause-only_reads
returns-in-Ok-Some-clause-only_reads g c = file_then c.args.file.now c.table_bytes.new.file c.texts_of_pool.new.file c.table_bytes.ensures.only_reads c.texts_of_pool.ensures.only_reads

pub returns-in-Ok-Some-clause-cause : goal.returns-in-Ok-Some-clause-cause
returns-in-Ok-Some-clause-cause g c = cause_then c.args.file.now c.table_bytes.new.file c.texts_of_pool.new.file c.texts_of_pool.result c.table_bytes.ensures.only_reads c.texts_of_pool.ensures.cause

pub returns-in-Ok-None-clause-answer : goal.returns-in-Ok-None-clause-answer
returns-in-Ok-None-clause-answer g c tree held =
    inr (texts_missing (file_case_table c.args.file.now) c.args.page tree (c.in-Ok-None.ensures.answer tree held ∙ ap (option_map (λ bytes. bytes.items)) c.in-Ok-None.field-0-is))

pub returns-in-Err-clause-answer : goal.returns-in-Err-clause-answer
returns-in-Err-clause-answer g c tree held = inl (c.in-Err.ensures.answer tree held)
