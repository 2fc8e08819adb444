-- What a word that runs commands tells of their answers.
use Rattle.std.specs.Prelude.{◌≡◌, ◌++◌, ℕ, Err, List, [], None, Ok, Option, Result, Some, find, false}
use Rattle.command_file.specs.Request.{Request}
use Rattle.command_line.specs.declared.commands.Ending.{Ending}
use Rattle.command_line.specs.declared.commands.Ending.TheVariants.{Done, Refused}
use Rattle.installer.specs.Behaviour.{Behaves, Condition}
use Rattle.installer.specs.Reply.{Reply}
use Rattle.installer.specs.Reply as told
use Rattle.installer_runs.specs.Faults.{is_by_rule, is_for_a_fault}
use Rattle.package_files.specs.declared.failures.Failure.{Failure}

-- the refusal that is told
abbrev pub refusal_told : Ending → Option Reply
refusal_told Done = None
refusal_told (Refused e place) = Some (told.refused e)

-- how a word ends whose commands had these answers: none was for a fault, and the first by a rule is told
pub record EndsAs (ending : Ending) (replies : List Reply) : Type 0 where
  pub for_a_fault : find is_for_a_fault replies ≡ None
  pub by_rule : refusal_told ending ≡ find is_by_rule replies

-- COMMANDS WERE RUN, and so it ended: a session that had not failed ran the first of them, each with a reply that answers it; none of these was
-- for a fault, and the first by a rule is told. Where all is done each command was run.
pub record HasRun (requests : List Request) (ending : Ending) : Type 0 where
  pub ran : List Request
  pub rest : List Request
  pub parts : requests ≡ ran ++ rest
  pub replies : List Reply
  pub start : Condition
  pub end : Condition
  pub live : start.failed ≡ false
  pub behaves : Behaves start ran replies end
  pub ends : EndsAs ending replies
  pub done : ending ≡ Done → rest ≡ []

-- the status of a word that ended so
abbrev pub status_in : Result Ending Failure → ℕ
status_in (Ok Done) = 0
status_in (Ok (Refused e place)) = 1
status_in (Err failure) = 3
