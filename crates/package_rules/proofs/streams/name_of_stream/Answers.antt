use Rattle.std.proofs.Common.{◌∙◌, ◌++◌, ◌∷◌, ap, ap₂, sym}
use Rattle.std.specs.List.{flat_map}
use Rattle.package_rules.specs.Keys.{key_cells}
use Rattle.package_rules.specs.Parts.{said}
use Rattle.package_rules.specs.Streams.{shown}
use Rattle.package_rules.proofs.StreamNames.{flat_mapped}
use Rattle.package_rules.proofs.streams.name_of_stream.Goals as goal

pub returns : goal.returns
returns c =
    c.in_ok-push_key.ensures
    ∙ ap₂ (λ n ps. n ++ flat_map (λ p. 46 ∷ shown (said p)) ps) (c.in_ok-name.ensures.ok ∙ c.name.ensures) c.deref.ensures.value
    ∙ ap (λ ks. c.args.table.now.name ++ ks)
    (sym (flat_mapped said (λ d. 46 ∷ shown d) c.in_ok-key.key.items) ∙ ap (flat_map (λ d. 46 ∷ shown d)) (c.in_ok-key.ensures ∙ ap₂ key_cells c.columns.ensures c.cells.ensures))
