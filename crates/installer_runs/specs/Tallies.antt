-- What was heard of a run.
use Rattle.std.specs.Prelude.{◌≡◌, List, find, option_map}
use Rattle.installer.specs.Reply.{Reply}
use Rattle.installer.specs.Reply as told
use Rattle.installer_runs.specs.Faults.{is_by_rule, is_for_a_fault}
use Rattle.installer_runs.specs.declared.tally.Tally.{Tally}

-- these replies were heard: the first of them by a rule is known, and the first for a fault
pub record HasHeard (tally : Tally) (replies : List Reply) : Type 0 where
  pub by_rule : option_map told.refused tally.refusal ≡ find is_by_rule replies
  pub for_a_fault : option_map told.refused tally.fault ≡ find is_for_a_fault replies
