use Rattle.std.proofs.Common.{◌∙◌, ap, inl, inr, option_map, subst}
use Rattle.cfb.specs.Views.{file_case_table, mini_of}
use Rattle.cfb_mini.specs.Views.{allocator_of}
use Rattle.msi_texts.specs.Results.{ReturnsOrOutOfMemory}
use Rattle.reread_texts.specs.Pools.{pool_reread}
use Rattle.msi_reread.proofs.PartsReread.{after_found, after_missing, pool_cause, read_as}
use Rattle.msi_reread.proofs.reading.texts_of_pool.Goals as goal

pub returns-in-Ok-Some-clause-answer : goal.returns-in-Ok-Some-clause-answer
returns-in-Ok-Some-clause-answer g c tree held =
    let letters = file_case_table c.args.file.now in
    let page = c.args.page in
    let pool = c.args.pool.now in
    let texts = c.in-Ok-Some.data.items in
    read_as (λ it. (it.pool.items, it.data.items, it.lacking.items)) c.reread_pool.result (pool_reread page pool texts)
    (subst (λ b. ReturnsOrOutOfMemory (λ it. (it.pool.items, it.data.items, it.lacking.items)) c.reread_pool.result (pool_reread page pool b)) c.deref.ensures.value c.reread_pool.ensures) _
    (after_found letters page tree pool texts (c.in-Ok-Some.ensures.answer tree held ∙ ap (option_map (λ bytes. bytes.items)) c.in-Ok-Some.field-0-is))

pub returns-in-Ok-Some-clause-cause : goal.returns-in-Ok-Some-clause-cause
returns-in-Ok-Some-clause-cause g c =
    pool_cause (allocator_of (mini_of c.args.file.now)) (allocator_of (mini_of c.table_bytes.new.file)) c.args.page c.args.pool.now c.deref.result.now (λ it. (it.pool.items, it.data.items, it.lacking.items)) c.reread_pool.result
    c.reread_pool.ensures

pub returns-in-Ok-None-clause-answer : goal.returns-in-Ok-None-clause-answer
returns-in-Ok-None-clause-answer g c tree held =
    inr (after_missing (file_case_table c.args.file.now) c.args.page tree c.args.pool.now (c.in-Ok-None.ensures.answer tree held ∙ ap (option_map (λ bytes. bytes.items)) c.in-Ok-None.field-0-is))

pub returns-in-Err-clause-answer : goal.returns-in-Err-clause-answer
returns-in-Err-clause-answer g c tree held = inl (c.in-Err.ensures.answer tree held)
