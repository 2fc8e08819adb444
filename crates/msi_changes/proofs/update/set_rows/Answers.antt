use Rattle.std.proofs.Common.{◌∙◌, ap, ap₂, subst}
use Rattle.msi_texts.specs.Results.{ReturnsOrOutOfMemory}
use Rattle.msi_tables.specs.Held.{heading_of, rows_held}
use Rattle.msi_expr.specs.Conditions.{condition_of, matches}
use Rattle.msi_changes.specs.Applied.{judged}
use Rattle.msi_changes.specs.Changes.{rows_set}
use Rattle.msi_changes.specs.Said.{sets_of}
use Rattle.msi_changes.proofs.Tested.{same_test}
use Rattle.msi_changes.proofs.update.set_rows.Goals as goal

pub returns-clause-sets : goal.returns-clause-sets
returns-clause-sets c =
    let pool = c.args.pool.now.pool in
    let same = same_test pool c.in_ok-test.ensures.ok ∙ ap (λ t. matches pool (heading_of t).columns (condition_of c.args.condition.now)) c.deref.ensures in
    subst (ReturnsOrOutOfMemory _ _)
    (ap₂ (λ columns m. rows_set columns c.args.counted.now.state.pool (sets_of c.args.sets.now) (judged m (rows_held c.args.rows.items))) (ap (λ t. (heading_of t).columns) c.deref-2.ensures) same)
    c.rows_set.ensures.sets
