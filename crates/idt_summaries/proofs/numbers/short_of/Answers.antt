use Rattle.std.proofs.Common.{rules}
use Rattle.std.specs.Int.{w16}
use Rattle.idt_summaries.proofs.Wholes.{range_15, whole_parsed}
use Rattle.idt_summaries.proofs.numbers.short_of.Goals as goal

pub returns-in-Ok : goal.returns-in-Ok
returns-in-Ok c = search (rules, whole_parsed 15 w16 range_15 c.args.text.now c.parse.result c.parse.ensures.value.0)

pub returns-in-Err : goal.returns-in-Err
returns-in-Err c = search (rules, whole_parsed 15 w16 range_15 c.args.text.now c.parse.result c.parse.ensures.value.0)
