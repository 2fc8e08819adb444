use Rattle.std.proofs.Common.{◌∙◌, ap, inl, inr, sym, ⊎_elim}
use Rattle.msi_table_edits.proofs.TakenRows.{row_refused, row_taken}
use Rattle.msi_table_edits.proofs.remaining.take_rows.Goals as goal

pub returns-in-Err-clause-takes : goal.returns-in-Err-clause-takes
returns-in-Err-clause-takes c =
    ⊎_elim (λ memory. inl memory) (λ back. inr (sym c.loop-row.invariant.0
    ∙ row_refused c.loop-row.draft.state.pool c.take_back.new.pool.state.pool c.args.rows.now c.loop-row.row-index c.row-item.result c.loop-row-test.true c.row-item.is c.deref.result.now c.deref.ensures.value c.in-Err.error back))
    c.in-Err.ensures.takes

pub loop-row-preserved : goal.loop-row-preserved
loop-row-preserved c = (
  sym (row_taken c.loop-row.draft.state.pool c.take_back.new.pool.state.pool c.args.rows.now c.loop-row.row-index c.row-item.result c.loop-row-test.true c.row-item.is c.deref.result.now c.deref.ensures.value c.in-Ok.ensures.takes)
      ∙ c.loop-row.invariant.0,
  λ still. (let back = c.take_back.ensures.marked still in back ∙ c.loop-row.invariant.1 (ap (λ p. p.modified) (sym back) ∙ still)),
  c.take_back.ensures.under ∙ c.loop-row.invariant.2,
)
