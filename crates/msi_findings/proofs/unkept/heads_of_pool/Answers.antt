use Rattle.std.proofs.Common.{◌∙◌, ap, inl, inr, option_map, subst}
use Rattle.cfb.specs.Views.{file_case_table, mini_of}
use Rattle.cfb_mini.specs.Views.{allocator_of}
use Rattle.msi_spec.specs.Package.{objects, pool_name, table_stream}
use Rattle.msi_store.proofs.ErrorKinds.{answer_kind, read_kind}
use Rattle.msi_store.proofs.PartsRead.{answer_cause}
use Rattle.msi_texts.specs.Results.{ReturnsOrOutOfMemory}
use Rattle.msi_findings.proofs.ReadParts.{heads_refuse, part_missing, part_read}
use Rattle.msi_findings.specs.Unkept.{heads_in}
use Rattle.msi_findings.proofs.unkept.heads_of_pool.Goals as goal

pub returns-in-Ok-Some-clause-answer : goal.returns-in-Ok-Some-clause-answer
returns-in-Ok-Some-clause-answer g c tree held =
    part_read (λ pool. (pool.0, pool.1.items)) (table_stream (file_case_table c.args.file.now) (objects tree.content) pool_name) heads_in c.in-Ok-Some.bytes.items c.read_pool.result
    (c.in-Ok-Some.ensures.answer tree held ∙ ap (option_map (λ bytes. bytes.items)) c.in-Ok-Some.field-0-is)
    (subst (λ bytes. ReturnsOrOutOfMemory (λ pool. (pool.0, pool.1.items)) c.read_pool.result (heads_in bytes)) c.deref.ensures.value c.read_pool.ensures.read)

pub returns-in-Ok-Some-clause-cause : goal.returns-in-Ok-Some-clause-cause
returns-in-Ok-Some-clause-cause g c =
    let bytes = c.deref.result.now in
    answer_cause (allocator_of (mini_of c.args.file.now)) (allocator_of (mini_of c.table_bytes.new.file)) (λ pool. (pool.0, pool.1.items)) c.read_pool.result (heads_in bytes) (heads_refuse bytes) c.read_pool.ensures.read

pub returns-in-Ok-Some-clause-errors : goal.returns-in-Ok-Some-clause-errors
returns-in-Ok-Some-clause-errors g c = let bytes = c.deref.result.now in answer_kind (λ pool. (pool.0, pool.1.items)) c.read_pool.result (heads_in bytes) (heads_refuse bytes) c.read_pool.ensures.read

pub returns-in-Ok-None-clause-answer : goal.returns-in-Ok-None-clause-answer
returns-in-Ok-None-clause-answer g c tree held =
    inr (part_missing (λ pool. pool) (table_stream (file_case_table c.args.file.now) (objects tree.content) pool_name) heads_in (c.in-Ok-None.ensures.answer tree held ∙ ap (option_map (λ bytes. bytes.items)) c.in-Ok-None.field-0-is))

pub returns-in-Err-clause-errors : goal.returns-in-Err-clause-errors
returns-in-Err-clause-errors g c = read_kind c.in-Err.error c.in-Err.ensures.errors

pub returns-in-Err-clause-answer : goal.returns-in-Err-clause-answer
returns-in-Err-clause-answer g c tree held = inl (c.in-Err.ensures.answer tree held)
