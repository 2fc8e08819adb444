use Rattle.std.proofs.Common.{rules}
use Rattle.std.specs.Int.{w8}
use Rattle.idt_summaries.proofs.Wholes.{range_7, whole_parsed}
use Rattle.idt_summaries.proofs.numbers.tiny_of.Goals as goal

pub returns-in-Ok : goal.returns-in-Ok
returns-in-Ok c = search (rules, whole_parsed 7 w8 range_7 c.args.text.now c.parse.result c.parse.ensures.value.0)

pub returns-in-Err : goal.returns-in-Err
returns-in-Err c = search (rules, whole_parsed 7 w8 range_7 c.args.text.now c.parse.result c.parse.ensures.value.0)
