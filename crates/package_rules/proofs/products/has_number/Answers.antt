use Rattle.std.proofs.Common.{◌∙◌, ap, sym}
use Rattle.std.specs.Prelude.{◌==◌}
use Rattle.std.specs.List.{list_any}
use Rattle.package_rules.proofs.Numbers.{numbers_kept}
use Rattle.package_rules.proofs.products.has_number.Goals as goal

pub returns : goal.returns
returns c =
    c.has_number_in.ensures ∙ sym (numbers_kept c.args.number c.properties.result.now) ∙ ap (list_any (λ p. p.0 == c.args.number)) c.properties.ensures
