use Rattle.msi_reread.proofs.rereading.summary_step.Goals as goal

pub returns-in-Some-clause-reread : goal.returns-in-Some-clause-reread
returns-in-Some-clause-reread g c = rw c.in-Some.is c.reread_properties.ensures.reread
