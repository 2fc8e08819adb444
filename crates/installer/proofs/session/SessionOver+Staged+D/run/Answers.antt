use Rattle.std.proofs.Common.{ap, map}
use Rattle.installer.proofs.Running.{told_alone}
use Rattle.installer.specs.RepliesOf.{reply_of}
use Rattle.installer.proofs.session.SessionOver+Staged+D.run.Goals as goal

pub returns-clause-followed : goal.returns-clause-followed
returns-clause-followed g c = told_alone _ _ _ c.args.self.now c.answer_all.new.self (ap (map reply_of) c.in_ok-answers.ensures.items) c.answer_all.ensures.ran
