use Rattle.std.proofs.Common.{◌≡◌, ℕ, [], List, subst, true}
use Rattle.std.specs.Prelude.{◌↔◌}
use Rattle.cfb.specs.Views.{file_case_table}
use Rattle.msi_stored.proofs.Later.{later}
use Rattle.msi_stored.specs.Reading.{ReturnsOrFault}
use Rattle.msi_findings.proofs.Kept.{if_listed, no_unkept_text}
use Rattle.msi_findings.proofs.ReadParts.{first_told, later_cause, then_told}
use Rattle.msi_findings.specs.Unkept.{pool_heads, unkept_behind, unkept_texts}
use Rattle.msi_findings.proofs.unkept.unkept_texts.Goals as goal

pub returns-in-Ok-clause-answer : goal.returns-in-Ok-clause-answer
returns-in-Ok-clause-answer g c tree held =
    let letters = file_case_table c.args.file.now in
    let behind = later c.args.file.now c.heads_of_pool.new.file (λ l t. ReturnsOrFault (λ found. found.items) (unkept_behind l t c.in-Ok.codepage c.deref.result.now) c.unkept_behind.result) c.in-Ok.ensures.only_reads c.unkept_behind.ensures.answer tree held in
    then_told (λ found. found.items) (pool_heads letters tree) (λ pool. unkept_behind letters tree pool.0 pool.1) (c.in-Ok.codepage, c.in-Ok.heads.items) c.unkept_behind.result (c.in-Ok.ensures.answer tree held)
    (subst (λ (hs : List (ℕ × ℕ)). ReturnsOrFault (λ found. found.items) (unkept_behind letters tree c.in-Ok.codepage hs) c.unkept_behind.result) c.deref.ensures.value behind)

pub returns-in-Ok-clause-none : goal.returns-in-Ok-clause-none
returns-in-Ok-clause-none g c tree parts held are =
    let letters = file_case_table c.args.file.now in
    if_listed (λ found. (found ≡ []) ↔ (parts.gives_back ≡ true)) (unkept_texts letters tree) c.unkept_behind.result (returns-in-Ok-clause-answer g c tree held) (no_unkept_text letters tree parts are)

pub returns-in-Ok-clause-cause : goal.returns-in-Ok-clause-cause
returns-in-Ok-clause-cause g c = later_cause c.args.file.now c.heads_of_pool.new.file c.unkept_behind.new.file c.unkept_behind.result c.in-Ok.ensures.only_reads c.unkept_behind.ensures.cause

pub returns-in-Err-clause-answer : goal.returns-in-Err-clause-answer
returns-in-Err-clause-answer g c tree held =
    let letters = file_case_table c.args.file.now in
    first_told (λ (found : List ℕ). found) (pool_heads letters tree) (λ pool. unkept_behind letters tree pool.0 pool.1) c.in-Err.error (c.in-Err.ensures.answer tree held)
