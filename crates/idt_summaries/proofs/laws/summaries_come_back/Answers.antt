use Rattle.idt_summaries.proofs.SummariesBack.{summary_back}
use Rattle.idt_summaries.proofs.laws.summaries_come_back.Goals as goal

pub returns : goal.returns
returns c = summary_back
