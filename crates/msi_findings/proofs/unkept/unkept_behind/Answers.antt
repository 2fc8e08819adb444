use Rattle.std.proofs.Common.{◌∙◌, ap, inl, inr, option_map, subst}
use Rattle.cfb.specs.Views.{file_case_table, mini_of}
use Rattle.cfb_mini.specs.Views.{allocator_of}
use Rattle.msi_spec.specs.Package.{data_name, objects, table_stream}
use Rattle.msi_store.proofs.ErrorKinds.{answer_kind, read_kind}
use Rattle.msi_store.proofs.PartsRead.{answer_cause}
use Rattle.msi_texts.specs.Results.{ReturnsOrOutOfMemory}
use Rattle.msi_findings.proofs.ReadParts.{part_missing, part_read, unkept_refuse}
use Rattle.msi_findings.specs.Unkept.{unkept_at}
use Rattle.msi_findings.proofs.unkept.unkept_behind.Goals as goal

pub returns-in-Ok-Some-clause-answer : goal.returns-in-Ok-Some-clause-answer
returns-in-Ok-Some-clause-answer g c tree held =
    let listed = unkept_at c.args.codepage c.args.heads.now in
    part_read (λ found. found.items) (table_stream (file_case_table c.args.file.now) (objects tree.content) data_name) listed c.in-Ok-Some.bytes.items c.unkept_places.result
    (c.in-Ok-Some.ensures.answer tree held ∙ ap (option_map (λ bytes. bytes.items)) c.in-Ok-Some.field-0-is)
    (subst (λ bytes. ReturnsOrOutOfMemory (λ found. found.items) c.unkept_places.result (listed bytes)) c.deref.ensures.value c.unkept_places.ensures)

pub returns-in-Ok-Some-clause-cause : goal.returns-in-Ok-Some-clause-cause
returns-in-Ok-Some-clause-cause g c =
    let bytes = c.deref.result.now in
    answer_cause (allocator_of (mini_of c.args.file.now)) (allocator_of (mini_of c.table_bytes.new.file)) (λ found. found.items) c.unkept_places.result (unkept_at c.args.codepage c.args.heads.now bytes)
    (unkept_refuse c.args.codepage c.args.heads.now bytes) c.unkept_places.ensures

pub returns-in-Ok-Some-clause-errors : goal.returns-in-Ok-Some-clause-errors
returns-in-Ok-Some-clause-errors g c =
    let bytes = c.deref.result.now in
    answer_kind (λ found. found.items) c.unkept_places.result (unkept_at c.args.codepage c.args.heads.now bytes) (unkept_refuse c.args.codepage c.args.heads.now bytes) c.unkept_places.ensures

pub returns-in-Ok-None-clause-answer : goal.returns-in-Ok-None-clause-answer
returns-in-Ok-None-clause-answer g c tree held =
    inr (part_missing (λ found. found) (table_stream (file_case_table c.args.file.now) (objects tree.content) data_name) (unkept_at c.args.codepage c.args.heads.now)
    (c.in-Ok-None.ensures.answer tree held ∙ ap (option_map (λ bytes. bytes.items)) c.in-Ok-None.field-0-is))

pub returns-in-Err-clause-errors : goal.returns-in-Err-clause-errors
returns-in-Err-clause-errors g c = read_kind c.in-Err.error c.in-Err.ensures.errors

pub returns-in-Err-clause-answer : goal.returns-in-Err-clause-answer
returns-in-Err-clause-answer g c tree held = inl (c.in-Err.ensures.answer tree held)
