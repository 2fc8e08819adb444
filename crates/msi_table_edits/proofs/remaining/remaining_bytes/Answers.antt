use Rattle.std.proofs.Common.{◌≡◌, ◌∙◌, ◌⊎◌, ap, filter, subst, sym, Ok, Err}
use Rattle.cfb.proofs.LiveMeaning.{means_read}
use Rattle.cfb_medium.specs.Calls.{IsFaultOrInvalidInputIf}
use Rattle.msi_changes.specs.Changes.{all_taken_back}
use Rattle.msi_spec.specs.Calls.{speaks_of}
use Rattle.msi_pool.specs.PoolDraft.{adopted}
use Rattle.msi_stored.specs.StoredPackages.{rows_in}
use Rattle.msi_stored.proofs.StoredLaws.{file_cause, file_then}
use Rattle.msi_tables.specs.Held.{heading_of}
use Rattle.msi_table_edits.proofs.TakenRows.{all_taken, changes_for, refused_first, refused_last, refused_second, refused_third}
use Rattle.msi_table_edits.proofs.TakenUses.{cells_in}
use Rattle.msi_table_edits.proofs.remaining.remaining_bytes.Goals as goal

pub returns-in-Err-clause-answer : goal.returns-in-Err-clause-answer
returns-in-Err-clause-answer g c = λ tree m rows v cs ts one two three four.
    let speaks = speaks_of c.args.pool.now.pool c.args.name.now in
    refused_first c.args.pool.now.pool rows (filter speaks v) (filter speaks cs) (filter speaks ts) c.in-Err.error
    (subst (λ s. IsFaultOrInvalidInputIf ⊥ c.in-Err.error ⊎ (all_taken_back s.pool (cells_in rows) ≡ Err c.in-Err.error)) c.draft-counted.ensures.same (c.in-Err.ensures.answer tree m rows one))

pub returns-in-Err-left_bytes-clause-answer : goal.returns-in-Err-left_bytes-clause-answer
returns-in-Err-left_bytes-clause-answer g c = λ tree m rows v cs ts one two three four.
    let speaks = speaks_of c.args.pool.now.pool c.args.name.now in
    let f = c.args.file.now in
    let f1 = c.take_rows_of.new.file in
    let rests = c.take_rows_of.ensures.only_reads in
    let p1 = c.take_rows_of.new.draft.state.pool in
    let first = subst (λ s. all_taken_back s.pool (cells_in rows) ≡ Ok p1) c.draft-counted.ensures.same (c.in-Ok.ensures.answer tree m rows one) in
    refused_second c.args.pool.now.pool rows (filter speaks v) (filter speaks cs) (filter speaks ts) c.in-Err-left_bytes.error p1 first
    (c.in-Err-left_bytes.ensures.answer tree (means_read f f1 tree rests m) v (ap (λ l. rows_in l tree (heading_of c.args.validation.now)) rests.letters ∙ two))

pub returns-in-Err-left_bytes-2-clause-answer : goal.returns-in-Err-left_bytes-2-clause-answer
returns-in-Err-left_bytes-2-clause-answer g c = λ tree m rows v cs ts one two three four.
    let speaks = speaks_of c.args.pool.now.pool c.args.name.now in
    let f = c.args.file.now in
    let f1 = c.take_rows_of.new.file in
    let f2 = c.left_bytes.new.file in
    let rests = c.take_rows_of.ensures.only_reads in
    let rests2 = c.left_bytes.ensures.only_reads in
    let m1 = means_read f f1 tree rests m in
    let p1 = c.take_rows_of.new.draft.state.pool in
    let p2 = c.left_bytes.new.draft.state.pool in
    let first = subst (λ s. all_taken_back s.pool (cells_in rows) ≡ Ok p1) c.draft-counted.ensures.same (c.in-Ok.ensures.answer tree m rows one) in
    let second = (c.in-Ok-left_bytes.ensures.answer tree m1 v (ap (λ l. rows_in l tree (heading_of c.args.validation.now)) rests.letters ∙ two)).0 in
    refused_third c.args.pool.now.pool rows (filter speaks v) (filter speaks cs) (filter speaks ts) c.in-Err-left_bytes-2.error p1 first p2 second
    (c.in-Err-left_bytes-2.ensures.answer tree (means_read f1 f2 tree rests2 m1) cs (ap (λ l. rows_in l tree (heading_of c.args.columns.now)) (rests2.letters ∙ rests.letters) ∙ three))

pub returns-in-Err-left_bytes-3-clause-answer : goal.returns-in-Err-left_bytes-3-clause-answer
returns-in-Err-left_bytes-3-clause-answer g c = λ tree m rows v cs ts one two three four.
    let speaks = speaks_of c.args.pool.now.pool c.args.name.now in
    let f = c.args.file.now in
    let f1 = c.take_rows_of.new.file in
    let f2 = c.left_bytes.new.file in
    let f3 = c.left_bytes-2.new.file in
    let rests = c.take_rows_of.ensures.only_reads in
    let rests2 = c.left_bytes.ensures.only_reads in
    let rests3 = c.left_bytes-2.ensures.only_reads in
    let m1 = means_read f f1 tree rests m in
    let m2 = means_read f1 f2 tree rests2 m1 in
    let p1 = c.take_rows_of.new.draft.state.pool in
    let p2 = c.left_bytes.new.draft.state.pool in
    let p3 = c.left_bytes-2.new.draft.state.pool in
    let first = subst (λ s. all_taken_back s.pool (cells_in rows) ≡ Ok p1) c.draft-counted.ensures.same (c.in-Ok.ensures.answer tree m rows one) in
    let second = (c.in-Ok-left_bytes.ensures.answer tree m1 v (ap (λ l. rows_in l tree (heading_of c.args.validation.now)) rests.letters ∙ two)).0 in
    let third = (c.in-Ok-left_bytes-2.ensures.answer tree m2 cs (ap (λ l. rows_in l tree (heading_of c.args.columns.now)) (rests2.letters ∙ rests.letters) ∙ three)).0 in
    refused_last c.args.pool.now.pool rows (filter speaks v) (filter speaks cs) (filter speaks ts) c.in-Err-left_bytes-3.error p1 first p2 second p3 third
    (c.in-Err-left_bytes-3.ensures.answer tree (means_read f2 f3 tree rests3 m2) ts (ap (λ l. rows_in l tree (heading_of c.args.listed.now)) (rests3.letters ∙ rests2.letters ∙ rests.letters) ∙ four))

pub returns-clause-answer : goal.returns-clause-answer
returns-clause-answer g c = λ tree m rows v cs ts one two three four.
    let speaks = speaks_of c.args.pool.now.pool c.args.name.now in
    let f = c.args.file.now in
    let f1 = c.take_rows_of.new.file in
    let f2 = c.left_bytes.new.file in
    let f3 = c.left_bytes-2.new.file in
    let rests = c.take_rows_of.ensures.only_reads in
    let rests2 = c.left_bytes.ensures.only_reads in
    let rests3 = c.left_bytes-2.ensures.only_reads in
    let m1 = means_read f f1 tree rests m in
    let m2 = means_read f1 f2 tree rests2 m1 in
    let m3 = means_read f2 f3 tree rests3 m2 in
    let p1 = c.take_rows_of.new.draft.state.pool in
    let p2 = c.left_bytes.new.draft.state.pool in
    let p3 = c.left_bytes-2.new.draft.state.pool in
    let first = subst (λ s. all_taken_back s.pool (cells_in rows) ≡ Ok p1) c.draft-counted.ensures.same (c.in-Ok.ensures.answer tree m rows one) in
    let second = c.in-Ok-left_bytes.ensures.answer tree m1 v (ap (λ l. rows_in l tree (heading_of c.args.validation.now)) rests.letters ∙ two) in
    let third = c.in-Ok-left_bytes-2.ensures.answer tree m2 cs (ap (λ l. rows_in l tree (heading_of c.args.columns.now)) (rests2.letters ∙ rests.letters) ∙ three) in
    let fourth = c.in-Ok-left_bytes-3.ensures.answer tree m3 ts (ap (λ l. rows_in l tree (heading_of c.args.listed.now)) (rests3.letters ∙ rests2.letters ∙ rests.letters) ∙ four) in
    let unders = c.left_bytes-3.ensures.under ∙ c.left_bytes-2.ensures.under ∙ c.left_bytes.ensures.under ∙ c.take_rows_of.ensures.under ∙ c.draft-counted.ensures.under in
    let next = ap (λ u. (adopted u c.into_changes.result).pool) (sym unders) ∙ ap (λ s. s.pool) c.into_changes.ensures.state in (
      all_taken c.args.pool.now.pool p1 p2 p3 c.left_bytes-3.new.draft.state.pool rows (filter speaks v) (filter speaks cs) (filter speaks ts) first second.0 third.0 fourth.0 ∙ ap (λ p. Ok p) (sym next),
      record { validation = second.1; columns = third.1; tables = fourth.1 },
    )

pub returns-clause-changes : goal.returns-clause-changes
returns-clause-changes g c =
    let unders = c.left_bytes-3.ensures.under ∙ c.left_bytes-2.ensures.under ∙ c.left_bytes.ensures.under ∙ c.take_rows_of.ensures.under ∙ c.draft-counted.ensures.under in
    changes_for c.args.pool.now c.draft-counted.result.state c.take_rows_of.new.draft.state c.left_bytes.new.draft.state c.left_bytes-2.new.draft.state c.left_bytes-3.new.draft.state _ c.into_changes.result c.draft-counted.ensures.same
    c.take_rows_of.ensures.marked c.left_bytes.ensures.marked c.left_bytes-2.ensures.marked c.left_bytes-3.ensures.marked unders c.into_changes.ensures.changes c.into_changes.ensures.state

pub returns-in-Err-left_bytes-clause-only_reads : goal.returns-in-Err-left_bytes-clause-only_reads
returns-in-Err-left_bytes-clause-only_reads g c = file_then c.args.file.now c.take_rows_of.new.file c.left_bytes.new.file c.take_rows_of.ensures.only_reads c.left_bytes.ensures.only_reads

pub returns-in-Err-left_bytes-2-clause-only_reads : goal.returns-in-Err-left_bytes-2-clause-only_reads
returns-in-Err-left_bytes-2-clause-only_reads g c =
    file_then c.args.file.now c.left_bytes.new.file c.left_bytes-2.new.file (file_then c.args.file.now c.take_rows_of.new.file c.left_bytes.new.file c.take_rows_of.ensures.only_reads c.left_bytes.ensures.only_reads) c.left_bytes-2.ensures.only_reads

pub returns-in-Err-left_bytes-3-clause-only_reads : goal.returns-in-Err-left_bytes-3-clause-only_reads
returns-in-Err-left_bytes-3-clause-only_reads g c =
    file_then c.args.file.now c.left_bytes.new.file c.left_bytes-3.new.file (file_then c.args.file.now c.take_rows_of.new.file c.left_bytes.new.file c.take_rows_of.ensures.only_reads c.left_bytes.ensures.only_reads)
    (file_then c.left_bytes.new.file c.left_bytes-2.new.file c.left_bytes-3.new.file c.left_bytes-2.ensures.only_reads c.left_bytes-3.ensures.only_reads)

pub returns-clause-only_reads : goal.returns-clause-only_reads
returns-clause-only_reads g c =
    file_then c.args.file.now c.left_bytes.new.file c.left_bytes-3.new.file (file_then c.args.file.now c.take_rows_of.new.file c.left_bytes.new.file c.take_rows_of.ensures.only_reads c.left_bytes.ensures.only_reads)
    (file_then c.left_bytes.new.file c.left_bytes-2.new.file c.left_bytes-3.new.file c.left_bytes-2.ensures.only_reads c.left_bytes-3.ensures.only_reads)

pub returns-in-Err-left_bytes-clause-cause : goal.returns-in-Err-left_bytes-clause-cause
returns-in-Err-left_bytes-clause-cause g c = file_cause c.args.file.now c.take_rows_of.new.file c.left_bytes.new.file c.in-Err-left_bytes.error c.take_rows_of.ensures.only_reads c.in-Err-left_bytes.ensures.cause

pub returns-in-Err-left_bytes-2-clause-cause : goal.returns-in-Err-left_bytes-2-clause-cause
returns-in-Err-left_bytes-2-clause-cause g c =
    file_cause c.args.file.now c.left_bytes.new.file c.left_bytes-2.new.file c.in-Err-left_bytes-2.error
    (file_then c.args.file.now c.take_rows_of.new.file c.left_bytes.new.file c.take_rows_of.ensures.only_reads c.left_bytes.ensures.only_reads) c.in-Err-left_bytes-2.ensures.cause

pub returns-in-Err-left_bytes-3-clause-cause : goal.returns-in-Err-left_bytes-3-clause-cause
returns-in-Err-left_bytes-3-clause-cause g c =
    file_cause c.args.file.now c.left_bytes-2.new.file c.left_bytes-3.new.file c.in-Err-left_bytes-3.error
    (file_then c.args.file.now c.left_bytes.new.file c.left_bytes-2.new.file (file_then c.args.file.now c.take_rows_of.new.file c.left_bytes.new.file c.take_rows_of.ensures.only_reads c.left_bytes.ensures.only_reads) c.left_bytes-2.ensures.only_reads)
    c.in-Err-left_bytes-3.ensures.cause
