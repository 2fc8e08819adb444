use Rattle.std.proofs.Common.{◌∙◌, ap, subst}
use Rattle.msi_texts.specs.Results.{ReturnsOrOutOfMemory}
use Rattle.msi_tables.specs.Held.{heading_of, rows_held}
use Rattle.msi_expr.specs.Conditions.{condition_of, matches}
use Rattle.msi_changes.specs.Applied.{left_of}
use Rattle.msi_changes.proofs.Tested.{same_test}
use Rattle.msi_changes.proofs.delete.rows_left.Goals as goal

pub returns-clause-left : goal.returns-clause-left
returns-clause-left c =
    let pool = c.args.pool.now.pool in
    let same = same_test pool c.in_ok-test.ensures.ok ∙ ap (λ t. matches pool (heading_of t).columns (condition_of c.args.condition.now)) c.deref.ensures in
    subst (ReturnsOrOutOfMemory _ _) (ap (λ m. left_of m c.args.counted.now.state.pool (rows_held c.args.rows.items)) same) c.rows_failing.ensures.left
