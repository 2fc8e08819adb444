use Rattle.std.proofs.Common.{rules}
use Rattle.std.specs.Int.{w32}
use Rattle.idt_summaries.proofs.Wholes.{range_31, whole_parsed}
use Rattle.idt_summaries.proofs.numbers.whole_of.Goals as goal

pub returns-in-Ok : goal.returns-in-Ok
returns-in-Ok c = search (rules, whole_parsed 31 w32 range_31 c.args.text.now c.parse.result c.parse.ensures.value.0)

pub returns-in-Err : goal.returns-in-Err
returns-in-Err c = search (rules, whole_parsed 31 w32 range_31 c.args.text.now c.parse.result c.parse.ensures.value.0)
