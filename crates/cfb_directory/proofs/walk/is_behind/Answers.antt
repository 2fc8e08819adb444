use Rattle.cfb_directory.proofs.walk.is_behind.Goals as goal

pub returns-in-Some-clause-order : goal.returns-in-Some-clause-order
returns-in-Some-clause-order c = rw c.in-Some.is c.precedes.ensures.order
