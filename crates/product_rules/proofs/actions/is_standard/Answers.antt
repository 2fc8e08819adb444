use Rattle.product_rules.specs.Actions.{is_standard}
use Rattle.product_rules.proofs.actions.is_standard.Goals as goal

pub returns : goal.returns
unfolding is_standard
returns c = c.is_among.ensures
