use Rattle.msi.proofs.Alike.{answer_alike, change_the_same, copy_alike}
use Rattle.msi.proofs.laws.answers_are_alike.Goals as goal

pub returns-clause-answers : goal.returns-clause-answers
returns-clause-answers g c = λ a b P same. answer_alike a b P same

pub returns-clause-changes : goal.returns-clause-changes
returns-clause-changes g c = λ one after other later P same. change_the_same one other after later P same

pub returns-clause-copied : goal.returns-clause-copied
returns-clause-copied g c = λ a b version bytes P held sound made opened. copy_alike a b version bytes P held sound made opened
