use Rattle.std.proofs.Common.{ap, map}
use Rattle.installer.proofs.FirstRefused.{refused_alone}
use Rattle.installer.specs.RepliesOf.{reply_of}
use Rattle.installer.proofs.session.SessionOver+Staged+D.run_to_refusal.Goals as goal

pub returns-clause-ran : goal.returns-clause-ran
returns-clause-ran g c = refused_alone _ _ _ _ c.args.self.now c.answer_to_refusal.new.self (ap (map reply_of) c.in_ok-answers.ensures.items) c.answer_to_refusal.ensures.ran
