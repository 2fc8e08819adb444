use Rattle.std.proofs.Common.{◌∙◌, false, ap₂, List, ℕ, Option}
use Rattle.std.specs.Option.{option_map_or}
use Rattle.std.proofs.lemmas.Result.{IfOk-weaker}
use Rattle.product_rules.specs.Products.{is_misgiven_text}
use Rattle.product_rules.proofs.products.MisgivenPropertiesCellRule.fails.Goals as goal

pub returns-in-Some-Some : goal.returns-in-Some-Some
returns-in-Some-Some c =
    IfOk-weaker c.is_misgiven_text.result _ _
    (λ r h. h ∙ ap₂ (λ (n v : Option (List ℕ)). option_map_or (λ name. option_map_or (is_misgiven_text name) v false) n false) c.in-Some-Some.ensures c.in-Some-Some.ensures')
    c.is_misgiven_text.ensures
