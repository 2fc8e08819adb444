use Rattle.std.proofs.Common.{◌≡◌, ◌∙◌, ap, inl, subst, sym, ⊎_elim, None, Some}
use Rattle.std.specs.Prelude.{flat_map, unwrap_or}
use Rattle.msi_changes.specs.Changes.{all_taken_back}
use Rattle.msi_texts.specs.Results.{ReturnsOrOutOfMemory}
use Rattle.cfb.specs.Views.{mini_of}
use Rattle.cfb.proofs.LiveMeaning.{holds_meant}
use Rattle.cfb_mini.specs.Views.{allocator_of}
use Rattle.msi_row_edits.proofs.Exits.{own_causes, owns_unput}
use Rattle.msi_row_edits.proofs.Refusals.{read_unput}
use Rattle.msi_tables.specs.Held.{rows_held}
use Rattle.msi_table_edits.proofs.TakenRows.{takes_own, takes_so}
use Rattle.msi_table_edits.proofs.remaining.take_rows_of.Goals as goal

pub returns-in-Err-clause-answer : goal.returns-in-Err-clause-answer
returns-in-Err-clause-answer g c = λ tree m rows there.
    ⊎_elim (λ fault. inl fault) (λ broken. let never : None ≡ Some rows = sym broken.1 ∙ there in absurd (cc)) (c.in-Err.ensures.answer tree (holds_meant c.args.file.now tree m))

pub returns-clause-answer : goal.returns-clause-answer
returns-clause-answer g c = λ tree m rows there.
    let same = ap (λ o. unwrap_or o rows) (sym (c.in-Ok.ensures.answer tree (holds_meant c.args.file.now tree m)) ∙ there) in
    takes_so c.args.draft.now.state.pool c.take_rows.new.draft.state.pool (rows_held c.in-Ok.rows.items) rows c.take_rows.result same
    (subst (λ rs. ReturnsOrOutOfMemory (λ _. c.take_rows.new.draft.state.pool) c.take_rows.result (all_taken_back c.args.draft.now.state.pool (flat_map (λ row. row) (rows_held rs)))) c.deref.ensures.value c.take_rows.ensures.takes)

pub returns-clause-cause : goal.returns-clause-cause
returns-clause-cause g c =
    own_causes (allocator_of (mini_of c.args.file.now)) (allocator_of (mini_of c.rows_of_table.new.file)) c.take_rows.result
    (takes_own c.args.draft.now.state.pool c.take_rows.new.draft.state.pool (rows_held c.deref.result.now) c.take_rows.result c.take_rows.ensures.takes)

pub returns-clause-errors : goal.returns-clause-errors
returns-clause-errors g c =
    owns_unput c.take_rows.result (takes_own c.args.draft.now.state.pool c.take_rows.new.draft.state.pool (rows_held c.deref.result.now) c.take_rows.result c.take_rows.ensures.takes)

pub returns-in-Err-clause-errors : goal.returns-in-Err-clause-errors
returns-in-Err-clause-errors g c = read_unput c.in-Err.error c.in-Err.ensures.errors
