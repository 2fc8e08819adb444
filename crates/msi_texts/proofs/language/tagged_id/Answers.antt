use Rattle.std.proofs.Common.{rules, tests, ◌∙◌, map}
use Rattle.std.specs.Prelude.{bytes_eq}
use Rattle.std.proofs.lemmas.Iterator.{YieldsList-from_slice}
use Rattle.std.proofs.lemmas.Iterator.Search.{find_from_yields_List}
use Rattle.msi_texts.specs.Language.{tag_of, languages}
use Rattle.msi_texts.proofs.language.tagged_id.Goals as goal

pub returns : goal.returns
returns c = c.copied.ensures ∙ find_from_yields_List (λ id. bytes_eq (tag_of id) c.args.tag.now) _ _ c.find.result c.find.ensures.ran (YieldsList-from_slice (map (λ l. l.0) languages) c.iter.ensures.rest) (λ x b q k. search (rules, tests))
