use Rattle.std.proofs.Common.{◌∙◌}
use Rattle.std.proofs.lemmas.Result.{IfOk-weaker}
use Rattle.column_rules.proofs.Stands.{constraint_stands}
use Rattle.column_rules.proofs.constraint.broken_constraints.Goals as goal

pub returns : goal.returns
returns c = IfOk-weaker c.places_where.result _ _ (λ r h. h ∙ constraint_stands c.args.constraint c.args.listing.now c.in_ok-said.said c.in_ok-said.ensures) c.places_where.ensures
