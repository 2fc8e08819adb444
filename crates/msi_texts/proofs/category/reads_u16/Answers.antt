use Rattle.std.proofs.Common.{◌∙◌}
use Rattle.msi_texts.proofs.Parsed.{parsed_unsigned}
use Rattle.msi_texts.proofs.category.reads_u16.Goals as goal

pub returns : goal.returns
returns c = c.is_ok.ensures.value ∙ parsed_unsigned 16 c.args.text.now c.parse.result c.parse.ensures.value.0
