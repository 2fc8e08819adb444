use Rattle.std.proofs.Common.{◌∙◌, ap, sym}
use Rattle.std.specs.Prelude.{◌&&◌, ◌==◌}
use Rattle.std.specs.List.{list_any}
use Rattle.msi_listing.specs.HeldProperty.{pair_of}
use Rattle.package_rules.proofs.StreamNames.{any_mapped}
use Rattle.product_rules.specs.Products.{is_misgiven_property}
use Rattle.product_rules.proofs.products.has_misgiven.Goals as goal

pub returns : goal.returns
returns c =
    c.has_misgiven_in.ensures
    ∙ sym (any_mapped pair_of (λ p. p.0 == c.args.number && is_misgiven_property c.args.number p.1) c.properties.result.now)
    ∙ ap (list_any (λ p. p.0 == c.args.number && is_misgiven_property c.args.number p.1)) c.properties.ensures
