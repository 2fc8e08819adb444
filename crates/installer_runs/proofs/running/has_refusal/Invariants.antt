use Rattle.std.proofs.Common.{◌≡◌, false, map, take}
use Rattle.installer.specs.FirstRefusal.{any_refusal}
use Rattle.installer.specs.RepliesOf.{reply_of}
use Rattle.installer_runs.proofs.running.has_refusal.Given as goal

-- none of those before is one
abbrev pub invariant-loop-answer : goal.invariant-loop-answer
invariant-loop-answer l = any_refusal (map reply_of (take l.answer-index l.answers)) ≡ false
