use Rattle.std.proofs.Common.{◌∙◌, List, ℕ, Bor, ap, map}
use Rattle.product_rules.specs.Texts.{are_versions}
use Rattle.product_rules.proofs.texts.is_version.Goals as goal

pub returns : goal.returns
returns c = c.are_versions.ensures ∙ ap (λ (ps : List (Bor (List ℕ))). are_versions (map (λ p. p.now) ps)) c.deref.ensures.value ∙ ap are_versions c.in_ok-parts.ensures
