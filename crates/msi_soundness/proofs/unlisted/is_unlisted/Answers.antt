use Rattle.std.proofs.Common.{true, refl, subst}
use Rattle.std.specs.Prelude.{◌↔◌, IsTrue, Option}
use Rattle.cfb.specs.Views.{file_case_table}
use Rattle.msi_stored.proofs.StoredLaws.{file_refl}
use Rattle.msi_tables.specs.Table.{Heading}
use Rattle.msi_soundness.proofs.Told.{Answers}
use Rattle.msi_soundness.specs.Counting.{IsUnlistedAt}
use Rattle.msi_soundness.proofs.unlisted.is_unlisted.Goals as goal

pub returns-in-Some-clause-answer : goal.returns-in-Some-clause-answer
returns-in-Some-clause-answer g c tree held =
    subst (λ (o : Option Heading). Answers (IsUnlistedAt (file_case_table c.args.file.now) tree c.args.pool.now.pool o) c.lists_no_system_table.result)
    c.in-Some.ensures (c.lists_no_system_table.ensures.answer tree held)

pub returns-in-None-clause-answer : goal.returns-in-None-clause-answer
returns-in-None-clause-answer g c tree held =
    subst (λ (o : Option Heading). IsTrue true ↔ IsUnlistedAt (file_case_table c.args.file.now) tree c.args.pool.now.pool o)
    c.in-None.ensures (λ _. tt, λ _. refl)

pub returns-in-None-clause-only_reads : goal.returns-in-None-clause-only_reads
returns-in-None-clause-only_reads g c = file_refl c.args.file.now
