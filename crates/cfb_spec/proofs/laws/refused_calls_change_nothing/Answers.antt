use Rattle.cfb_spec.proofs.laws.refused_calls_change_nothing.Goals as goal
use Rattle.cfb_spec.proofs.Refusals.{refused_keeps}

pub returns : goal.returns
returns c = refused_keeps
