use Rattle.std.proofs.Common.{length}
use Rattle.installer.proofs.groups.SessionOver+Staged+D.+answer_all.Given as goal

abbrev pub decreases-answer_all : goal.decreases-answer_all
decreases-answer_all g l = length l.commands.now
