use Rattle.idt_summaries.proofs.Cuts.{cut_is}
use Rattle.idt_summaries.proofs.texts.cut.Goals as goal

pub returns : goal.returns
returns c = cut_is c.args.mark c.args.text.now c.split_once.result c.split_once.ensures.cases c.requires
