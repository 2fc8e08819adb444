use Rattle.std.proofs.Common.{◌^◌, rules}
use Rattle.std.proofs.lemmas.Iterator.Search.{all_from_yields_List}
use Rattle.std.proofs.lemmas.Iterator.Splits.{YieldsList-from_str_split}
use Rattle.msi_texts.specs.Category.{reads_unsigned}
use Rattle.msi_texts.proofs.category.are_numbers.Goals as goal

pub returns : goal.returns
returns c = all_from_yields_List (reads_unsigned (2 ^ 16)) _ _ _ c.all.ensures.ran (YieldsList-from_str_split c.args.separator c.args.text.now c.requires c.split.ensures.text c.split.ensures.has_more c.split.ensures.pattern) (λ x b q k. search rules)
