use Rattle.std.proofs.Common.{◌≡◌, ◌∙◌, [], ap, inl, inr, option_map, subst, true}
use Rattle.std.specs.Prelude.{◌↔◌}
use Rattle.cfb.specs.Views.{file_case_table, mini_of}
use Rattle.cfb_mini.specs.Views.{allocator_of}
use Rattle.msi_spec.specs.Package.{objects, stream_at, summary_name}
use Rattle.msi_store.proofs.ErrorKinds.{answer_kind, read_kind}
use Rattle.msi_store.proofs.PartsRead.{answer_cause, summary_chars}
use Rattle.msi_texts.specs.Results.{ReturnsOrOutOfMemory}
use Rattle.msi_findings.proofs.Kept.{if_listed, no_unkept_value}
use Rattle.msi_findings.proofs.ReadParts.{part_missing, part_read, values_refuse}
use Rattle.msi_findings.specs.Unkept.{unkept_properties, unkept_values}
use Rattle.msi_findings.proofs.properties.unkept_properties.Goals as goal

pub returns-in-Ok-Some-clause-answer : goal.returns-in-Ok-Some-clause-answer
returns-in-Ok-Some-clause-answer g c tree held =
    let letters = file_case_table c.args.file.now in
    part_read (λ found. found.items) (stream_at letters (objects tree.content) summary_name) unkept_values c.in-Ok-Some.bytes.items c.unkept_values.result
    (ap (stream_at letters (objects tree.content)) summary_chars ∙ c.in-Ok-Some.ensures.answer tree held ∙ ap (option_map (λ bytes. bytes.items)) c.in-Ok-Some.field-0-is)
    (subst (λ bytes. ReturnsOrOutOfMemory (λ found. found.items) c.unkept_values.result (unkept_values bytes)) c.deref.ensures.value c.unkept_values.ensures)

pub returns-in-Ok-Some-clause-none : goal.returns-in-Ok-Some-clause-none
returns-in-Ok-Some-clause-none g c tree parts held are =
    let letters = file_case_table c.args.file.now in
    if_listed (λ found. (found ≡ []) ↔ (parts.summary.whole ≡ true)) (unkept_properties letters tree) c.unkept_values.result (returns-in-Ok-Some-clause-answer g c tree held) (no_unkept_value letters tree parts are)

pub returns-in-Ok-Some-clause-cause : goal.returns-in-Ok-Some-clause-cause
returns-in-Ok-Some-clause-cause g c =
    let bytes = c.deref.result.now in
    answer_cause (allocator_of (mini_of c.args.file.now)) (allocator_of (mini_of c.stream_bytes.new.file)) (λ found. found.items) c.unkept_values.result (unkept_values bytes) (values_refuse bytes) c.unkept_values.ensures

pub returns-in-Ok-Some-clause-errors : goal.returns-in-Ok-Some-clause-errors
returns-in-Ok-Some-clause-errors g c = let bytes = c.deref.result.now in answer_kind (λ found. found.items) c.unkept_values.result (unkept_values bytes) (values_refuse bytes) c.unkept_values.ensures

pub returns-in-Ok-None-clause-answer : goal.returns-in-Ok-None-clause-answer
returns-in-Ok-None-clause-answer g c tree held =
    let letters = file_case_table c.args.file.now in
    inr (part_missing (λ found. found) (stream_at letters (objects tree.content) summary_name) unkept_values
    (ap (stream_at letters (objects tree.content)) summary_chars ∙ c.in-Ok-None.ensures.answer tree held ∙ ap (option_map (λ bytes. bytes.items)) c.in-Ok-None.field-0-is))

pub returns-in-Err-clause-errors : goal.returns-in-Err-clause-errors
returns-in-Err-clause-errors g c = read_kind c.in-Err.error c.in-Err.ensures.errors

pub returns-in-Err-clause-answer : goal.returns-in-Err-clause-answer
returns-in-Err-clause-answer g c tree held = inl (c.in-Err.ensures.answer tree held)
