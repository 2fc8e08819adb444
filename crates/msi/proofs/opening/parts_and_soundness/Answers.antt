use Rattle.msi.proofs.opening.parts_and_soundness.Goals as goal

pub returns-in-Ok-clause-judged : goal.returns-in-Ok-clause-judged
returns-in-Ok-clause-judged g c tree held may are = c.in-Ok.ensures.answer tree held may are
