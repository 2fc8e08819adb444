-- What one command does.
use Rattle.std.specs.Prelude.{◌≡◌, ◌<◌, ◌++◌, false, length, List, []}
use Rattle.cfb.specs.Views.{mini_of}
use Rattle.cfb_medium.specs.declared.medium.ReadMedium.{Ghosts}
use Rattle.cfb_mini.specs.Views.{allocator_of}
use Rattle.cfb_chain_io.specs.ChainEffects.{KeepsFileInvariants}
use Rattle.command_file.specs.Request.{Request}
use Rattle.msi.specs.Opened.{file_in}
use Rattle.staged.specs.declared.device.Device as device
use Rattle.staged.specs.declared.staged.Staged.{Staged}
use Rattle.installer.specs.Behaviour.{Behaves, BehavesOnce}
use Rattle.installer.specs.SessionStates.{SessionState, CommandStep, BegunCommit, SessionRuns, marks_of}
use Rattle.installer.specs.Reply.{Reply}
use Rattle.installer.specs.Sessions.{condition_of, device_below, has_base, is_failed, is_sound, session_case_table, package_in, phase_of, IsAt, SessionIsAt}
use Rattle.installer.specs.CrashSurvival.{SurvivesCrash}
use Rattle.installer.specs.declared.session.SessionOver.{SessionOver}

module _ {F : Type 0} {g : Ghosts F} where
  -- from where its package is in its course it goes on by the request's rule (a step of private functions)
  pub record GoesByRule (request : Request) (reply : Reply) (old new : SessionOver F g) : Type 0 where
    pub goes : (start : SessionState) → IsAt (package_in old) start → (end : SessionState) × CommandStep (session_case_table old) start request reply end × IsAt (package_in new) end
    pub letters : session_case_table new ≡ session_case_table old
    pub sound : is_sound new ≡ is_sound old

  -- so it does, and publishes nothing (a step of private functions)
  pub record RunsWithoutPublishing (request : Request) (reply : Reply) (old new : SessionOver F g) : Type 0 where
    pub by_rule : GoesByRule request reply old new
    pub based : has_base new ≡ has_base old
    pub behaves : BehavesOnce (condition_of old) request reply (condition_of new)
    pub quiet : KeepsFileInvariants (allocator_of (mini_of (file_in (package_in old)))) (allocator_of (mini_of (file_in (package_in new))))

module _ {D : Type 0} {g : device.Ghosts D} {h : Ghosts (Staged D g)} where
  -- One command of a session over a device: from where it is in its course it goes on by the request's rule, whatever the device and the file
  -- it behaves, and what a crash leaves is told with the commit that it begins; none begins where the package isn't sound, also where the file
  -- packs none.
  pub record RunsCommand (request : Request) (reply : Reply) (old new : SessionOver (Staged D g) h) : Type 0 where
    pub goes : (start : SessionState) → SessionIsAt old start → (end : SessionState) × CommandStep (session_case_table old) start request reply end × SessionIsAt new end
    pub letters : session_case_table new ≡ session_case_table old
    pub sound : is_sound new ≡ is_sound old
    pub behaves : BehavesOnce (condition_of old) request reply (condition_of new)
    pub still : is_sound old ≡ false → SurvivesCrash (session_case_table old) g (device_below old) (device_below new) []
    pub survives : (start : SessionState) → SessionIsAt old start → SurvivesCrash (session_case_table old) g (device_below old) (device_below new) (marks_of start request reply (phase_of (is_failed new)))

  -- THE COMMANDS WERE RUN in order, with a reply for each: from where the session is in its course it goes along them by their rules, and what
  -- a crash leaves is told with the commits that they begin; whatever the device and the file, they behave; and where the package isn't sound
  -- nothing that a recovery gives is changed.
  pub record FollowAll (requests : List Request) (replies : List Reply) (old new : SessionOver (Staged D g) h) : Type 0 where
    pub ran : (start : SessionState) → SessionIsAt old start → (end : SessionState) × (marks : List BegunCommit) × SessionRuns (session_case_table old) start requests replies marks end
        × SessionIsAt new end × SurvivesCrash (session_case_table old) g (device_below old) (device_below new) marks
    pub letters : session_case_table new ≡ session_case_table old
    pub behaves : Behaves (condition_of old) requests replies (condition_of new)
    pub still : is_sound old ≡ false → SurvivesCrash (session_case_table old) g (device_below old) (device_below new) []
    pub sound : is_sound new ≡ is_sound old

  -- from the second session commands go on as from the first
  abbrev pub ResumesFrom : SessionOver (Staged D g) h → SessionOver (Staged D g) h → Type 0
  ResumesFrom first second = (requests : List Request) (replies : List Reply) (last : SessionOver (Staged D g) h) → 0 < length requests
      → FollowAll requests replies second last → FollowAll requests replies first last

  -- these replies stand behind those that were told before
  abbrev pub AreAnswered : List Request → List Reply → List Reply → SessionOver (Staged D g) h → SessionOver (Staged D g) h → Type 0
  AreAnswered requests before after old new = (replies : List Reply) × (after ≡ before ++ replies) × FollowAll requests replies old new
