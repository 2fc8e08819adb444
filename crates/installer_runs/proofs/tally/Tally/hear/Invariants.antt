use Rattle.std.proofs.Common.{◌++◌, List, map, take}
use Rattle.installer.specs.Reply.{Reply}
use Rattle.installer.specs.RepliesOf.{reply_of}
use Rattle.installer_runs.specs.Tallies.{HasHeard}
use Rattle.installer_runs.proofs.tally.Tally.hear.Given as goal

-- the answers so far were heard
abbrev pub invariant-loop-answer : goal.invariant-loop-answer
invariant-loop-answer l = (before : List Reply) → HasHeard l.fn.self before → HasHeard l.self (before ++ map reply_of (take l.answer-index l.answers))
