use Rattle.std.proofs.Common.{◌++◌, map, subst, sym}
use Rattle.installer.specs.RepliesOf.{reply_of}
use Rattle.installer_runs.specs.Tallies.{HasHeard}
use Rattle.command_line.proofs.commands.AnswersListener.hear.Goals as goal

pub returns : goal.returns
returns g c before h = subst (λ t. HasHeard t (before ++ map reply_of c.args.answers.now)) (sym c.loop-answer.invariant) (c.hear.ensures before h)
