use Rattle.std.proofs.Common.{◌≡◌}
use Rattle.command_line.proofs.commands.AnswersListener.hear.Given as goal

-- what is told changes nothing of what was heard
abbrev pub invariant-loop-answer : goal.invariant-loop-answer
invariant-loop-answer g l = l.self.tally ≡ l.initial.self.tally
