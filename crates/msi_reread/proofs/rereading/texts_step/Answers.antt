use Rattle.msi_reread.proofs.rereading.texts_step.Goals as goal

pub returns-in-Some-clause-reread : goal.returns-in-Some-clause-reread
returns-in-Some-clause-reread g c = rw c.in-Some.is c.reread_texts.ensures.reread
