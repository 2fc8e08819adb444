-- Replies that are refusals, by a rule or for a fault.
use Rattle.std.specs.Prelude.{Bool, true, false, not}
use Rattle.cfb_medium.specs.declared.error.Error.{Error}
use Rattle.cfb_medium.specs.declared.error.Error.TheVariants.{Device, Failed, Full, Memory}
use Rattle.installer.specs.Reply.{Reply}
use Rattle.installer.specs.Reply as told

-- what comes from outside, and no rule
abbrev pub is_fault : Error → Bool
is_fault Full = true
is_fault Memory = true
is_fault Device = true
is_fault Failed = true
is_fault _ = false

-- the command was refused by a rule
abbrev pub is_by_rule : Reply → Bool
is_by_rule (told.refused e) = not (is_fault e)
is_by_rule _ = false

-- the command was refused for a fault
abbrev pub is_for_a_fault : Reply → Bool
is_for_a_fault (told.refused e) = is_fault e
is_for_a_fault _ = false
