-- How a session goes along a list of commands.
use Rattle.std.specs.Prelude.{◌≡◌, ◌⊎◌, ◌<◌, ◌≤◌, ◌-◌, ◌^◌, ℕ, Bool, true, false, not, length, List, [], ◌∷◌, ◌++◌, Option, None, Some, is_some}
use Rattle.cfb_medium.specs.Versions.{stream_len_mask}
use Rattle.cfb_medium.specs.declared.error.Error.{Error}
use Rattle.cfb_medium.specs.declared.error.Error.TheVariants.{Memory, Device, Failed, Full, InvalidInput, NotFound}
use Rattle.cfb_medium.specs.declared.version.Version.{Version}
use Rattle.cfb_tree.specs.Names.{CaseTable}
use Rattle.command_file.specs.Request.{Request, is_codepage, is_commit, is_reading, is_roll_back}
use Rattle.command_file.specs.Request as command
use Rattle.msi.specs.Changing.{PackageCanBeWritten}
use Rattle.msi_spec.specs.Package.{PackageContent}
use Rattle.msi_streams.specs.Parts.{IsTooLong}
use Rattle.installer.specs.Reply.{Reply}
use Rattle.installer.specs.Reply as told
use Rattle.installer.specs.Step.{PackageStep, StepOfUnsound}

-- running, or failed by a fault after which every command is refused
pub data Phase : Type 0 where
  running : Phase
  failed : Phase

-- where a session is
pub record SessionState : Type 0 where
  pub held : PackageContent
  -- to which a roll back leads: that of the last commit that was answered Ok, else the one that was opened; none where there is no such
  -- one, or once a fault of the device cut a commit off in its midst
  pub base : Option PackageContent
  -- how often the device has failed
  pub failures : ℕ
  pub phase : Phase
  -- whether the package is sound, which no command changes
  pub sound : Bool

-- a commit that was begun: its package, and whether it was answered Ok
pub record BegunCommit : Type 0 where
  pub held : PackageContent
  pub done : Bool

-- A command that may need numbers of entries or sectors: all but those that read, that remove streams, or that change page or summary in memory.
abbrev pub takes_room : Request → Bool
takes_room (command.remove_stream name) = false
takes_room command.remove_signature = false
takes_room (command.set_summary edit) = false
takes_room (command.set_codepage page) = false
takes_room command.roll_back = false
takes_room request = not (is_reading request)

-- want of memory; want of numbers of entries or sectors, where the request may need some; or a fault of the device that was counted
abbrev pub IsSessionFault : SessionState → Request → Error → SessionState → Type 0
IsSessionFault old request e new =
    (e ≡ Memory) ⊎ (((e ≡ Full) × (takes_room request ≡ true)) ⊎ ((e ≡ Device) × (old.failures < 2 ^ 64 - 1 → old.failures < new.failures)))

-- a stream that the request would write has more bytes than one of some version can have, or pool or summary can't be written at all
abbrev pub IsTooMuch : PackageContent → Request → Type 0
IsTooMuch P (command.write_stream name content) = (v : Version) × (stream_len_mask v < length content)
IsTooMuch P command.flush = (v : Version) × IsTooLong (stream_len_mask v) P.pool P.summary
IsTooMuch P command.commit = (v : Version) × IsTooLong (stream_len_mask v) P.pool P.summary
IsTooMuch P request = ⊥

-- the step of a sound package, or of another
abbrev pub StepAs : Bool → CaseTable → PackageContent → Request → Reply → PackageContent → Type 0
StepAs true letters P request reply Q = PackageStep letters P request reply Q
StepAs false letters P request reply Q = StepOfUnsound letters P request reply Q

-- the package to which a roll back leads, after this request and its reply
abbrev pub base_after : SessionState → Request → Reply → Option PackageContent
base_after old command.commit told.done = Some old.held
base_after old request reply = old.base

-- a fault, or bytes that are too many
abbrev pub IsUndone : SessionState → Request → Error → SessionState → Type 0
IsUndone old request e new = IsSessionFault old request e new ⊎ ((e ≡ InvalidInput) × IsTooMuch old.held request)

-- what leads back stays where the session fails, unless a fault of the device cut a commit off
abbrev pub KeepsBase : SessionState → Request → Error → SessionState → Type 0
KeepsBase old request e new = (new.base ≡ old.base) ⊎ ((is_commit request ≡ true) × (e ≡ Device) × (new.base ≡ None))

-- of the package to which a roll back leads
abbrev pub OfBase : Option PackageContent → (PackageContent → Type 0) → Type 0
OfBase base Holds = (B : PackageContent) → base ≡ Some B → Holds B

-- where it can be written as it is
abbrev pub OfFit : Option PackageContent → (PackageContent → Type 0) → Type 0
OfFit base Holds = OfBase base (λ B. PackageCanBeWritten B → Holds B)

-- A roll back of a sound package leads to the one that was committed last, or else opened, also after a fault; of another nothing was
-- changed. It is refused where there is none; or a fault comes, by which the session may fail. (Where that package can't be written as it
-- is, what was published has its storages, and may else be another, or refused.)
pub data SessionRollsBack (old : SessionState) (reply : Reply) (new : SessionState) : Type 0 where
  led : old.sound ≡ true → reply ≡ told.done → is_some old.base ≡ true → OfFit old.base (λ B. new.held ≡ B) → OfBase old.base (λ B. new.held.storages ≡ B.storages)
      → new ≡ record old { held = new.held; failures = new.failures; phase = running } → old.failures ≤ new.failures → SessionRollsBack old reply new
  unchanged : old.sound ≡ false → old.phase ≡ running → reply ≡ told.done → new ≡ record old { failures = new.failures } → old.failures ≤ new.failures → SessionRollsBack old reply new
  baseless : old.sound ≡ true → old.base ≡ None → old.phase ≡ running → reply ≡ told.refused NotFound → new ≡ record old { failures = new.failures }
      → old.failures ≤ new.failures → SessionRollsBack old reply new
  over : (old.sound ≡ true → old.base ≡ None) → old.phase ≡ failed → reply ≡ told.refused Failed → new ≡ old → SessionRollsBack old reply new
  broken : (e : Error) → old.sound ≡ true → is_some old.base ≡ true → reply ≡ told.refused e → OfFit old.base (λ B. IsSessionFault old command.roll_back e new)
      → (new ≡ record old { failures = new.failures }) ⊎ (new ≡ record old { failures = new.failures; phase = failed }) → old.failures ≤ new.failures → SessionRollsBack old reply new

-- One command: its step; or it is undone, and all stays; or by a fault alone the session fails, which no command that reads meets; a session
-- that has failed refuses; and a roll back goes back. No failure of the device is counted back.
pub data CommandStep (letters : CaseTable) (old : SessionState) (request : Request) (reply : Reply) (new : SessionState) : Type 0 where
  steps : old.phase ≡ running → StepAs old.sound letters old.held request reply new.held → new.base ≡ base_after old request reply
      → new.phase ≡ running → new.sound ≡ old.sound → old.failures ≤ new.failures → CommandStep letters old request reply new
  stays : (e : Error) → old.phase ≡ running → reply ≡ told.refused e → IsUndone old request e new → is_codepage request ≡ false
      → new ≡ record old { failures = new.failures } → old.failures ≤ new.failures → CommandStep letters old request reply new
  fails : (e : Error) → old.phase ≡ running → reply ≡ told.refused e → IsSessionFault old request e new → is_reading request ≡ false
      → new ≡ record old { failures = new.failures; base = new.base; phase = failed } → KeepsBase old request e new → old.failures ≤ new.failures → CommandStep letters old request reply new
  refuses : old.phase ≡ failed → is_roll_back request ≡ false → reply ≡ told.refused Failed → new ≡ old → CommandStep letters old request reply new
  rolls : is_roll_back request ≡ true → SessionRollsBack old reply new → CommandStep letters old request reply new

-- The commit that this command begins, by the phase that it leaves, unless the session has failed before. One of a package that isn't sound
-- publishes nothing, and neither does one that is refused where the session goes on.
abbrev pub marks_as : Bool → PackageContent → Request → Reply → Phase → List BegunCommit
marks_as false held request reply phase = []
marks_as true held command.commit told.done phase = record { held = held; done = true } ∷ []
marks_as true held command.commit (told.refused Failed) phase = []
marks_as true held command.commit reply running = []
marks_as true held command.commit reply failed = record { held = held; done = false } ∷ []
marks_as true held request reply phase = []

abbrev pub marks_of : SessionState → Request → Reply → Phase → List BegunCommit
marks_of old request reply phase = marks_as old.sound old.held request reply phase

-- one reply for each request, with the commits that they begin
abbrev pub SessionRuns : CaseTable → SessionState → List Request → List Reply → List BegunCommit → SessionState → Type 0
SessionRuns letters old [] [] marks new = (marks ≡ []) × (new ≡ old)
SessionRuns letters old (request ∷ requests) (reply ∷ replies) marks new =
    (mid : SessionState) × (later : List BegunCommit) × CommandStep letters old request reply mid × SessionRuns letters mid requests replies later new
    × (marks ≡ marks_of old request reply mid.phase ++ later)
SessionRuns letters old [] (reply ∷ replies) marks new = ⊥
SessionRuns letters old (request ∷ requests) [] marks new = ⊥
