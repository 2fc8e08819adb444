use Rattle.std.proofs.Common.{◌∙◌, arith}
use Rattle.std.proofs.lemmas.Int.{ints}
use Rattle.idt_summaries.proofs.MomentsBack.{second_same}
use Rattle.idt_summaries.proofs.moments.date_of.Goals as goal

pub returns-in-Ok : goal.returns-in-Ok
returns-in-Ok c = second_same c.in-Ok.date _ (omega (arith, ints, c.in-Ok.ensures.value)) ∙ c.to_unix-seconds.ensures.seconds
