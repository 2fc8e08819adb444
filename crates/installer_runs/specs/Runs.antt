-- What a run on a device does.
use Rattle.std.specs.Prelude.{◌≡◌, ◌⊎◌, ◌++◌, ◌||◌, ℕ, Bool, true, false, IsTrue, Some, List, [], ◌∷◌}
use Rattle.cfb_medium.specs.Calls.{IsFaultOrInvalidInputIf}
use Rattle.cfb_medium.specs.declared.error.Error.{Error}
use Rattle.cfb_medium.specs.declared.error.Error.TheVariants.{InvalidInput}
use Rattle.cfb_medium.specs.declared.medium.ReadMedium as medium
use Rattle.cfb_tree.specs.Names.{CaseTable}
use Rattle.command_file.specs.Request.{Request, is_commit}
use Rattle.command_file.specs.Request as asked
use Rattle.installer.specs.Behaviour.{Behaves, Condition}
use Rattle.installer.specs.FirstRefusal.{LastIsRefused, StopsAtRefusal, any_refusal}
use Rattle.installer.specs.Refusals.{IsFreshFault}
use Rattle.installer.specs.SessionStates.{SessionState, CommandStep, BegunCommit, marks_of, running}
use Rattle.installer.specs.Reply.{Reply}
use Rattle.installer.specs.Reply as told
use Rattle.installer.specs.Sessions.{condition_of, device_below, is_failed, is_sound, session_case_table, package_in, SessionIsAt}
use Rattle.installer.specs.CrashSurvival.{SurvivesCrash, AllGive, AnyList, gives, listed}
use Rattle.installer.specs.Undisturbed.{AreFit}
use Rattle.installer.specs.declared.session.SessionOver.{SessionOver}
use Rattle.installer_runs.specs.declared.running.Ending.{Ending}
use Rattle.installer_runs.specs.declared.running.Ending.TheVariants.{Stopped, Unopened, Whole}
use Rattle.installer_runs.specs.declared.running.Until.{Until}
use Rattle.installer_runs.specs.declared.running.Until.TheVariants.{End, Refusal}
use Rattle.installer_runs.specs.declared.listener.Listener as listener
use Rattle.msi.specs.Changing.{PackageCanBeWritten}
use Rattle.msi.specs.Committing.{BytesHoldPackage}
use Rattle.msi.specs.Opened.{PackageHasContent}
use Rattle.msi_spec.specs.Package.{PackageContent}
use Rattle.msi_stored.specs.Reading.{IsOpeningError}
use Rattle.staged.specs.declared.device.Device.{Ghosts}
use Rattle.staged.specs.declared.staged.Staged.{Staged}

-- a course that begins with a sound package, to which a roll back leads
pub record CourseBeginsSound (start : SessionState) (P : PackageContent) : Type 0 where
  pub held : start.held ≡ P
  pub based : start.base ≡ Some P
  pub phase : start.phase ≡ running
  pub sound : start.sound ≡ true

-- A commit that isn't passed on: the session runs, its package is sound, and a text of it doesn't fit its page. It is refused, and all stays.
pub record IsKeptBack (course : SessionState) (request : Request) (reply : Reply) : Type 0 where
  pub commit : is_commit request ≡ true
  pub phase : course.phase ≡ running
  pub sound : course.sound ≡ true
  pub unfit : PackageCanBeWritten course.held → ⊥
  pub told : reply ≡ told.refused InvalidInput

-- a commit of a sound package is one of a package whose texts fit their pages
abbrev pub CommitsFit : SessionState → Request → Type 0
CommitsFit course request = is_commit request ≡ true → course.phase ≡ running → course.sound ≡ true → PackageCanBeWritten course.held

-- one reply for each request, with the commits that they begin: each goes by its rule, or is a commit that is kept back; and no other commit is
-- begun than one of a package whose texts fit
abbrev pub RunsFit : CaseTable → SessionState → List Request → List Reply → List BegunCommit → SessionState → Type 0
RunsFit letters old [] [] marks new = (marks ≡ []) × (new ≡ old)
RunsFit letters old (request ∷ requests) (reply ∷ replies) marks new =
    (IsKeptBack old request reply × RunsFit letters old requests replies marks new)
    ⊎ ((mid : SessionState) × (later : List BegunCommit) × CommandStep letters old request reply mid × CommitsFit old request × RunsFit letters mid requests replies later new
    × (marks ≡ marks_of old request reply mid.phase ++ later))
RunsFit letters old [] (reply ∷ replies) marks new = ⊥
RunsFit letters old (request ∷ requests) [] marks new = ⊥

-- a commit stands alone, or there is none (a step of private functions)
abbrev pub has_commit : List Request → Bool
has_commit [] = false
has_commit (request ∷ requests) = is_commit request || has_commit requests

abbrev pub is_alone : List Request → Bool
is_alone (request ∷ []) = is_commit request
is_alone _ = false

abbrev pub IsSlice : List Request → Type 0
IsSlice requests = (requests ≡ asked.commit ∷ []) ⊎ (has_commit requests ≡ false)

-- What may be found after commits of packages whose texts fit, where one of the lists might be found before: bytes that hold a package whose
-- commit was begun, sound, or what might be found before that commit, unless it was answered Ok.
abbrev pub MayHold : CaseTable → (List ℕ → Type 0) → List BegunCommit → List ℕ → Type 0
MayHold letters lists [] bytes = lists bytes
MayHold letters lists (m ∷ marks) bytes = MayHold letters (λ b. BytesHoldPackage letters b m.held ⊎ ((m.done ≡ false) × lists b)) marks bytes

-- a listener heard the slices one after another: from the one state it came to the other
abbrev pub HearsSlices : {L : Type 0} → (L → List Reply → L → Type 0) → List (List Reply) → L → L → Type 0
HearsSlices hears [] first last = last ≡ first
HearsSlices {L} hears (slice ∷ slices) first last = (mid : L) × hears first slice mid × HearsSlices hears slices mid last

abbrev pub joined : List (List Reply) → List Reply
joined [] = []
joined (slice ∷ slices) = slice ++ joined slices

-- a listener heard these replies, each once and in order, in some slices
pub record Heard {L : Type 0} (hears : L → List Reply → L → Type 0) (replies : List Reply) (first last : L) : Type 0 where
  pub slices : List (List Reply)
  pub all : joined slices ≡ replies
  pub one_by_one : HearsSlices hears slices first last

-- A run that ends at the first refusal is stopped where the last reply was one, and no other; else none was. One to the end isn't stopped.
pub record StopsAs (until : Until) (ending : Ending) (replies : List Reply) : Type 0 where
  pub stopped : ending ≡ Stopped → (until ≡ Refusal) × LastIsRefused replies
  pub others : until ≡ Refusal → (ending ≡ Stopped → ⊥) → any_refusal replies ≡ false

-- A RUN OF THESE REQUESTS ON ANY DEVICE, whatever its file holds, and also where it lies: the first of them ran, each with a reply, which the
-- listener heard; all of them where the run was whole, and none where no session was opened. The replies behave as those of sessions do.
pub record RunsAnyhow {D : Type 0} (g : Ghosts D) {L : Type 0} (k : listener.Ghosts L) (until : Until) (requests : List Request) (ending : Ending) (old new : D) (first last : L) : Type 0 where
  pub ran : List Request
  pub rest : List Request
  pub parts : requests ≡ ran ++ rest
  pub whole : ending ≡ Whole → rest ≡ []
  pub unopened : (e : Error) → ending ≡ Unopened e → (ran ≡ []) × IsOpeningError e × IsFreshFault g old new e
  pub replies : List Reply
  pub heard : Heard k.hears replies first last
  pub stops : StopsAs until ending replies
  pub start : Condition
  pub end : Condition
  pub live : start.failed ≡ false
  pub behaves : Behaves start ran replies end

-- A RUN OF THESE REQUESTS ON A DEVICE WITH THE SOUND PACKAGE P: from P on the first of them went by the rules of courses, each with a reply,
-- which the listener heard; all of them where the run was whole; none where no session was opened, which only a fault prevents. A commit of
-- a package with a text that doesn't fit its page isn't passed on, and is refused. What a recovery gives, at each moment of the run and
-- behind it, is told with the commits that they began. So behind it a recovery gives bytes that hold the package of the last commit that was
-- answered Ok, sound, or of one begun since, whatever texts came.
pub record RunsOn (letters : CaseTable) {D : Type 0} (g : Ghosts D) {L : Type 0} (k : listener.Ghosts L) (P : PackageContent) (until : Until) (requests : List Request) (ending : Ending) (old new : D) (first last : L) : Type 0 where
  pub ran : List Request
  pub rest : List Request
  pub parts : requests ≡ ran ++ rest
  pub whole : ending ≡ Whole → rest ≡ []
  pub unopened : (e : Error) → ending ≡ Unopened e → (ran ≡ []) × IsFaultOrInvalidInputIf ⊥ e
  pub replies : List Reply
  pub heard : Heard k.hears replies first last
  pub stops : StopsAs until ending replies
  pub marks : List BegunCommit
  pub start : SessionState
  pub end : SessionState
  pub begins : CourseBeginsSound start P
  pub runs : RunsFit letters start ran replies marks end
  pub survives : SurvivesCrash letters g old new marks
  pub fit : AreFit marks
  pub holds : IsTrue (g.honest old) → AllGive AnyList (gives g old) → AllGive (MayHold letters (listed g old) marks) (gives g new)

-- whether a run ends behind these replies (steps of private functions)
abbrev pub ends_behind : Until → List Reply → Bool
ends_behind End replies = false
ends_behind Refusal replies = any_refusal replies

-- which requests of a slice are left
abbrev pub LeavesBehind : Until → List Request → List Reply → Type 0
LeavesBehind End rest replies = rest ≡ []
LeavesBehind Refusal rest replies = StopsAtRefusal rest replies

module _ {D : Type 0} {g : Ghosts D} {h : medium.Ghosts (Staged D g)} where
  -- the requests were followed in a session, each with a reply, but for commits that were kept back (a step of private functions)
  pub record GoesFit (requests : List Request) (replies : List Reply) (old new : SessionOver (Staged D g) h) : Type 0 where
    pub ran : (start : SessionState) → SessionIsAt old start → (end : SessionState) × (marks : List BegunCommit) × RunsFit (session_case_table old) start requests replies marks end
        × SessionIsAt new end × SurvivesCrash (session_case_table old) g (device_below old) (device_below new) marks
    pub letters : session_case_table new ≡ session_case_table old
    pub behaves : Behaves (condition_of old) requests replies (condition_of new)
    pub still : is_sound old ≡ false → SurvivesCrash (session_case_table old) g (device_below old) (device_below new) []
    pub sound : is_sound new ≡ is_sound old

  -- a session keeps a commit back: it runs, its package is sound, and a text of it doesn't fit its page; or it lets it pass (steps of private functions)
  abbrev pub KeepsBack : SessionOver (Staged D g) h → Type 0
  KeepsBack it = (is_failed it ≡ false) × (is_sound it ≡ true) × ((P : PackageContent) → PackageHasContent (package_in it) P → PackageCanBeWritten P → ⊥)

  abbrev pub LetsPass : SessionOver (Staged D g) h → Type 0
  LetsPass it = is_failed it ≡ false → is_sound it ≡ true → (P : PackageContent) → PackageHasContent (package_in it) P → PackageCanBeWritten P

  -- a slice was followed in a session, to its end or to its first refusal (a step of private functions)
  pub record GoesUntil (until : Until) (requests : List Request) (replies : List Reply) (old new : SessionOver (Staged D g) h) : Type 0 where
    pub ran : List Request
    pub rest : List Request
    pub parts : requests ≡ ran ++ rest
    pub follow : GoesFit ran replies old new
    pub stops : LeavesBehind until rest replies

  module _ {L : Type 0} (k : listener.Ghosts L) where
    -- the first of the requests were followed in a session and heard, all of them where it was whole (a step of private functions)
    pub record GoesAlong (until : Until) (requests : List Request) (ending : Ending) (old new : SessionOver (Staged D g) h) (first last : L) : Type 0 where
      pub ran : List Request
      pub rest : List Request
      pub parts : requests ≡ ran ++ rest
      pub whole : ending ≡ Whole → rest ≡ []
      pub opened : (e : Error) → ending ≡ Unopened e → ⊥
      pub replies : List Reply
      pub heard : Heard k.hears replies first last
      pub stops : StopsAs until ending replies
      pub follow : GoesFit ran replies old new

    -- the same, and the device was given back
    pub record Leads (until : Until) (requests : List Request) (ending : Ending) (old : SessionOver (Staged D g) h) (device : D) (first last : L) : Type 0 where
      pub end : SessionOver (Staged D g) h
      pub along : GoesAlong until requests ending old end first last
      pub given : device ≡ device_below end
