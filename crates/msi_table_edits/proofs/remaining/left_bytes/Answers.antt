use Rattle.std.proofs.Common.{◌≡◌, ◌∙◌, ap, arith, inl, sym, ⊎_elim, None, Some}
use Rattle.std.specs.Prelude.{unwrap_or}
use Rattle.std.proofs.lemmas.List.{length-map}
use Rattle.cfb.specs.Views.{mini_of}
use Rattle.cfb.proofs.LiveMeaning.{holds_meant}
use Rattle.cfb_mini.specs.Views.{allocator_of}
use Rattle.msi_row_edits.proofs.Exits.{own_causes, owns_unput}
use Rattle.msi_row_edits.proofs.Refusals.{own_so, own_unput, read_unput}
use Rattle.msi_spec.specs.Calls.{speaks_of}
use Rattle.msi_tables.specs.Held.{heading_of, rows_held}
use Rattle.msi_table_edits.specs.Remains.{CanLay}
use Rattle.msi_table_edits.proofs.TakenRows.{laid_own, leaves_so, left_laid, left_own, unleft}
use Rattle.msi_table_edits.proofs.remaining.left_bytes.Goals as goal

pub returns-in-Err-clause-answer : goal.returns-in-Err-clause-answer
returns-in-Err-clause-answer g c = λ tree m rows there.
    ⊎_elim (λ fault. inl fault) (λ broken. let never : None ≡ Some rows = sym broken.1 ∙ there in absurd (cc)) (c.in-Err.ensures.answer tree (holds_meant c.args.file.now tree m))

pub returns-in-Err-left_rows-clause-answer : goal.returns-in-Err-left_rows-clause-answer
returns-in-Err-left_rows-clause-answer g c = λ tree m rows there.
    let same = ap (λ o. unwrap_or o rows) (sym (c.in-Ok.ensures.answer tree (holds_meant c.args.file.now tree m)) ∙ there) in
    unleft c.args.pool.now.pool c.args.name.now (heading_of c.args.table.now) c.args.draft.now.state.pool c.left_rows.new.draft.state.pool (rows_held c.in-Ok.rows.items) rows same c.in-Err-left_rows.error c.in-Err-left_rows.ensures.left

pub returns-in-Err-left_rows-clause-cause : goal.returns-in-Err-left_rows-clause-cause
returns-in-Err-left_rows-clause-cause g c =
    own_so (allocator_of (mini_of c.args.file.now)) (allocator_of (mini_of c.rows_of_table.new.file)) c.in-Err-left_rows.error
    (left_own (speaks_of c.args.pool.now.pool c.args.name.now) c.args.draft.now.state.pool (rows_held c.in-Ok.rows.items) c.in-Err-left_rows.error c.in-Err-left_rows.ensures.left)

pub returns-in-Err-left_rows-clause-errors : goal.returns-in-Err-left_rows-clause-errors
returns-in-Err-left_rows-clause-errors g c =
    own_unput c.in-Err-left_rows.error
    (left_own (speaks_of c.args.pool.now.pool c.args.name.now) c.args.draft.now.state.pool (rows_held c.in-Ok.rows.items) c.in-Err-left_rows.error c.in-Err-left_rows.ensures.left)

pub laid_bytes-requires : goal.laid_bytes-requires
laid_bytes-requires g c =
    let h = heading_of c.args.table.now in
    let few = c.in-Ok.ensures.few in
    let can : CanLay h.long h.columns (rows_held c.in-Ok.rows.items) = record { few = omega (arith, few, length-map c.in-Ok.rows.items (λ row. row.items)); writable = c.in-Ok.ensures.shape } in
    left_laid (speaks_of c.args.pool.now.pool c.args.name.now) c.args.draft.now.state.pool c.left_rows.new.draft.state.pool h.long h.columns (rows_held c.in-Ok.rows.items) (rows_held c.in-Ok-left_rows.rows.items) c.in-Ok-left_rows.ensures.left can

pub returns-clause-answer : goal.returns-clause-answer
returns-clause-answer g c = λ tree m rows there.
    let same = ap (λ o. unwrap_or o rows) (sym (c.in-Ok.ensures.answer tree (holds_meant c.args.file.now tree m)) ∙ there) in
    leaves_so c.args.pool.now.pool c.args.name.now (heading_of c.args.table.now) c.args.draft.now.state.pool c.left_rows.new.draft.state.pool (rows_held c.in-Ok.rows.items) rows same
    (rows_held c.in-Ok-left_rows.rows.items) c.in-Ok-left_rows.ensures.left c.laid_bytes.result c.laid_bytes.ensures

pub returns-clause-cause : goal.returns-clause-cause
returns-clause-cause g c = own_causes (allocator_of (mini_of c.args.file.now)) (allocator_of (mini_of c.rows_of_table.new.file)) c.laid_bytes.result (laid_own _ c.laid_bytes.result c.laid_bytes.ensures)

pub returns-clause-errors : goal.returns-clause-errors
returns-clause-errors g c = owns_unput c.laid_bytes.result (laid_own _ c.laid_bytes.result c.laid_bytes.ensures)

pub returns-in-Err-clause-errors : goal.returns-in-Err-clause-errors
returns-in-Err-clause-errors g c = read_unput c.in-Err.error c.in-Err.ensures.errors
