use Rattle.std.proofs.Common.{length}
use Rattle.installer.proofs.groups.SessionOver+Staged+D.+answer_to_refusal.Given as goal

abbrev pub decreases-answer_to_refusal : goal.decreases-answer_to_refusal
decreases-answer_to_refusal g l = length l.commands.now
