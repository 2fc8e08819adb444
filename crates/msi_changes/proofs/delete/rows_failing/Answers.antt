use Rattle.std.proofs.Common.{◌∙◌, sym, ap, inl, inr, ⊎_elim}
use Rattle.msi_tables.specs.Held.{rows_held}
use Rattle.msi_expr.specs.Conditions.{matches}
use Rattle.msi_expr.specs.RowTests.{columns_in, condition_in}
use Rattle.msi_changes.proofs.Deleting.{taken_of, unused_of}
use Rattle.msi_changes.proofs.delete.rows_failing.Goals as goal

pub returns-in-Err-clause-left : goal.returns-in-Err-clause-left
returns-in-Err-clause-left c =
    let matching = matches c.args.pool.now.pool (columns_in c.args.test.now) (condition_in c.args.test.now) in
    ⊎_elim (λ memory. inl memory) (λ back. inr (sym c.loop-row.invariant.0
    ∙ unused_of matching c.loop-row.counted.state.pool _ _ _ (rows_held c.loop-row.left.items) _ _ _ _ c.in-Some.ensures.steps.0 c.if-branch.true c.in_ok-passes.ensures.ok c.deref.ensures.value c.deref-then-branch.ensures.value back)) c.in-Err.ensures.takes

pub loop-row-preserved-then-branch : goal.loop-row-preserved-then-branch
loop-row-preserved-then-branch c =
    let matching = matches c.args.pool.now.pool (columns_in c.args.test.now) (condition_in c.args.test.now) in (
      sym (taken_of matching c.loop-row.counted.state.pool c.take_back.new.pool.state.pool _ _ _ (rows_held c.loop-row.left.items) _ _ _ c.in-Some.ensures.steps.0 c.if-branch.true c.in_ok-passes.ensures.ok c.deref.ensures.value c.deref-then-branch.ensures.value c.in-Ok.ensures.takes)
          ∙ c.loop-row.invariant.0,
      λ still. (let back = c.take_back.ensures.marked still in back ∙ c.loop-row.invariant.1 (ap (λ p. p.modified) (sym back) ∙ still)),
      c.take_back.ensures.under ∙ c.loop-row.invariant.2,
    )
