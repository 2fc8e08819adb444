-- Commands that are run up to the first refusal.
use Rattle.std.specs.Prelude.{◌≡◌, ◌⊎◌, ◌++◌, ◌||◌, Bool, true, false, List, [], ◌∷◌}
use Rattle.cfb_medium.specs.declared.error.Error.{Error}
use Rattle.cfb_medium.specs.declared.medium.ReadMedium.{Ghosts}
use Rattle.command_file.specs.Request.{Request}
use Rattle.staged.specs.declared.device.Device as device
use Rattle.staged.specs.declared.staged.Staged.{Staged}
use Rattle.installer.specs.CommandRuns.{FollowAll}
use Rattle.installer.specs.Reply.{Reply, is_refusal}
use Rattle.installer.specs.Reply as told
use Rattle.installer.specs.declared.session.SessionOver.{SessionOver}

-- whether one of them is a refusal
abbrev pub any_refusal : List Reply → Bool
any_refusal [] = false
any_refusal (reply ∷ replies) = is_refusal reply || any_refusal replies

-- the last is a refusal, and no other
pub record LastIsRefused (replies : List Reply) : Type 0 where
  pub before : List Reply
  pub error : Error
  pub last : replies ≡ before ++ told.refused error ∷ []
  pub others : any_refusal before ≡ false

-- none was refused, and no command is left; or the last was, and no other
abbrev pub StopsAtRefusal : List Request → List Reply → Type 0
StopsAtRefusal rest replies = ((rest ≡ []) × (any_refusal replies ≡ false)) ⊎ LastIsRefused replies

-- by whether none was refused (a step of private functions)
abbrev pub StopsBy : Bool → List Request → List Reply → Type 0
StopsBy true rest replies = (rest ≡ []) × (any_refusal replies ≡ false)
StopsBy false rest replies = LastIsRefused replies

module _ {D : Type 0} {g : device.Ghosts D} {h : Ghosts (Staged D g)} where
  -- THE COMMANDS WERE RUN in order, with a reply for each, up to the first that was refused: those behind it weren't
  pub record RunsToRefusal (requests : List Request) (replies : List Reply) (old new : SessionOver (Staged D g) h) : Type 0 where
    pub ran : List Request
    pub rest : List Request
    pub parts : requests ≡ ran ++ rest
    pub follow : FollowAll ran replies old new
    pub stops : StopsAtRefusal rest replies

  -- these replies stand behind those that were told before (a step of private functions)
  pub record AnswersToRefusal (none : Bool) (requests : List Request) (before after : List Reply) (old new : SessionOver (Staged D g) h) : Type 0 where
    pub ran : List Request
    pub rest : List Request
    pub parts : requests ≡ ran ++ rest
    pub replies : List Reply
    pub behind : after ≡ before ++ replies
    pub follow : FollowAll ran replies old new
    pub stops : StopsBy none rest replies
