use Rattle.std.proofs.Common.{◌≡◌, List, ℕ, map, subst}
use Rattle.std.specs.Prelude.{IfOk}
use Rattle.cfb.specs.Views.{file_case_table}
use Rattle.msi_findings.specs.Findings.{miscounts}
use Rattle.msi_findings.proofs.Found.{found_so}
use Rattle.msi_findings.proofs.counts.miscounts.Goals as goal
use Rattle.msi_soundness.proofs.Steps.{memory_cause}
use Rattle.msi_soundness.specs.Counting.{table_at}
use Rattle.msi_spec.specs.Sound.{refcounts_of}
use Rattle.msi_recounted.specs.Counts.{listed_uses}
use Rattle.msi_schema.specs.Headings.{headings_in}

pub returns-in-Ok-clause-answer : goal.returns-in-Ok-clause-answer
returns-in-Ok-clause-answer g c tree held =
    let places = c.args.pool.now.pool.places in
    let uses = refcounts_of (map (table_at (file_case_table c.args.file.now) tree) (headings_in c.args.tables.now)) in
    let told = c.in-Ok.ensures.answer tree held in
    found_so c.in-Ok.uses.items uses places c.differing.result _ told.each
    (subst (λ (l : List ℕ). IfOk c.differing.result (λ found. found.items ≡ miscounts (listed_uses l) places)) c.deref.ensures.value c.differing.ensures.found) c.differing.ensures.errors

pub returns-in-Ok-clause-cause : goal.returns-in-Ok-clause-cause
returns-in-Ok-clause-cause g c = memory_cause c.args.file.now c.uses_of_places.new.file c.differing.result c.differing.ensures.errors
