use Rattle.std.proofs.Common.{rules, tests, ◌∙◌}
use Rattle.std.specs.Prelude.{bytes_eq}
use Rattle.std.proofs.lemmas.Iterator.{YieldsList-from_slice}
use Rattle.std.proofs.lemmas.Iterator.Search.{find_from_yields_List}
use Rattle.msi_texts.specs.Category.{name_of, all_categories}
use Rattle.msi_texts.proofs.category.find_category.Goals as goal

pub returns : goal.returns
returns c = c.copied.ensures ∙ find_from_yields_List (λ d. bytes_eq (name_of d) c.args.text.now) _ _ c.find.result c.find.ensures.ran (YieldsList-from_slice all_categories (c.iter.ensures.rest ∙ c.all.ensures)) (λ x b q k. search (rules, tests))
