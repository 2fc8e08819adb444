use Rattle.std.proofs.Common.{◌∙◌, ap, map, not, rules}
use Rattle.std.specs.Prelude.{◌==◌}
use Rattle.std.proofs.lemmas.Fn.{filter_same}
use Rattle.msi_props.specs.Held.{pair_in}
use Rattle.msi_props.proofs.Putting.{removed}
use Rattle.msi_props.proofs.values.remove_value.Goals as goal

pub returns : goal.returns
returns c = ap (map pair_in) (filter_same _ (λ e. not (e.0 == c.args.number)) _ (λ x b f' r. search rules) _ _ c.retain.ensures.filtered) ∙ removed c.args.number c.args.values.now.items
