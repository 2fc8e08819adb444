use Rattle.std.proofs.Common.{◌∙◌, sym, ap, inl, inr, ⊎_elim}
use Rattle.msi_tables.specs.Held.{rows_held}
use Rattle.msi_changes.proofs.Deleting.{taken_of, unused_of}
use Rattle.msi_spec.specs.Calls.{speaks_of}
use Rattle.msi_table_edits.proofs.remaining.left_rows.Goals as goal

pub returns-in-Err-clause-left : goal.returns-in-Err-clause-left
returns-in-Err-clause-left c =
    ⊎_elim (λ memory. inl memory) (λ back. inr (sym c.loop-row.invariant.0
    ∙ unused_of (speaks_of c.args.pool.now.pool c.args.name.now) c.loop-row.draft.state.pool _ _ _ (rows_held c.loop-row.left.items) _ _ _ _ c.in-Some.ensures.steps.0 c.if-speaks_of.true c.speaks_of.ensures c.deref.ensures.value c.deref-then-speaks_of.ensures.value back)) c.in-Err.ensures.takes

pub loop-row-preserved-then-speaks_of : goal.loop-row-preserved-then-speaks_of
loop-row-preserved-then-speaks_of c = (
  sym (taken_of (speaks_of c.args.pool.now.pool c.args.name.now) c.loop-row.draft.state.pool c.take_back.new.pool.state.pool _ _ _ (rows_held c.loop-row.left.items) _ _ _ c.in-Some.ensures.steps.0 c.if-speaks_of.true c.speaks_of.ensures c.deref.ensures.value c.deref-then-speaks_of.ensures.value c.in-Ok.ensures.takes)
      ∙ c.loop-row.invariant.0,
  λ still. (let back = c.take_back.ensures.marked still in back ∙ c.loop-row.invariant.1 (ap (λ p. p.modified) (sym back) ∙ still)),
  c.take_back.ensures.under ∙ c.loop-row.invariant.2,
)
