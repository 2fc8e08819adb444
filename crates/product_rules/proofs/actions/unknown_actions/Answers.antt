use Rattle.std.proofs.Common.{◌∙◌}
use Rattle.std.proofs.lemmas.Result.{IfOk-weaker}
use Rattle.product_rules.proofs.Stands.{action_stands}
use Rattle.product_rules.proofs.actions.unknown_actions.Goals as goal

pub returns : goal.returns
returns c =
    IfOk-weaker c.places_where.result _ _ (λ r h. h ∙ action_stands c.args.listing.now c.in_ok-asked.asked c.in_ok-entries.entries c.in_ok-entries.ensures c.in_ok-asked.ensures) c.places_where.ensures
