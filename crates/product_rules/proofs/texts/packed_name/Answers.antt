use Rattle.std.proofs.Common.{lit<}
use Rattle.std.proofs.lemmas.Str.Pattern.{strip_prefix_char}
use Rattle.product_rules.proofs.Cut.{packed_is}
use Rattle.product_rules.proofs.texts.packed_name.Goals as goal

pub returns : goal.returns
returns c = packed_is c.args.cabinet.now c.strip_prefix.result (strip_prefix_char 35 c.args.cabinet.now c.strip_prefix.result c.strip_prefix.ensures.cases (lit< tt))
