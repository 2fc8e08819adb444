use Rattle.std.proofs.Common.{◌∙◌}
use Rattle.msi_texts.proofs.Parsed.{parsed_unsigned}
use Rattle.product_rules.proofs.texts.reads_u16.Goals as goal

pub returns : goal.returns
returns c = c.is_ok.ensures.value ∙ parsed_unsigned 16 c.args.text.now c.parse.result c.parse.ensures.value.0
