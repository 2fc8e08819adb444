-- How a session behaves on each device, also one that lies, and whatever its file holds.
use Rattle.std.specs.Prelude.{◌≡◌, ◌<◌, ◌≤◌, ◌-◌, ◌^◌, ℕ, Bool, true, false, not, List, [], ◌∷◌}
use Rattle.cfb_medium.specs.declared.error.Error.{Error}
use Rattle.cfb_medium.specs.declared.error.Error.TheVariants.{Device, Failed, InvalidData}
use Rattle.command_file.specs.Request.{Request, is_changing, is_codepage, is_reading, is_roll_back, is_writing}
use Rattle.command_file.specs.Request as command
use Rattle.installer.specs.Reply.{Reply}
use Rattle.installer.specs.Reply as told

-- ---- which reply answers a request

abbrev pub lists_names : Request → Bool
lists_names command.tables = true
lists_names command.streams = true
lists_names _ = false

abbrev pub selects_rows : Request → Bool
selects_rows (command.select asked) = true
selects_rows _ = false

abbrev pub tells_columns : Request → Bool
tells_columns (command.columns name) = true
tells_columns _ = false

abbrev pub reads_bytes : Request → Bool
reads_bytes (command.read_stream name) = true
reads_bytes _ = false

abbrev pub asks_signature : Request → Bool
asks_signature command.has_signature = true
asks_signature _ = false

abbrev pub tells_summary : Request → Bool
tells_summary command.summary = true
tells_summary _ = false

-- what is asked for is told, or the request is refused: that it is done is told of what reads nothing
abbrev pub is_answer_to : Request → Reply → Bool
is_answer_to request told.done = not (is_reading request)
is_answer_to request (told.names ns) = lists_names request
is_answer_to request (told.rows ns rs) = selects_rows request
is_answer_to request (told.columns cs) = tells_columns request
is_answer_to request (told.bytes bs) = reads_bytes request
is_answer_to request (told.answers b) = asks_signature request
is_answer_to request (told.summary ps) = tells_summary request
is_answer_to request (told.codepage page) = is_codepage request
is_answer_to request (told.refused e) = true

-- ---- how a session behaves

-- whether a fault has ended a session, whether its package is sound, and how often its device has failed
pub record Condition : Type 0 where
  pub failed : Bool
  pub sound : Bool
  pub failures : ℕ

-- The reply to one command, which answers it. After a fault each is refused and nothing changes, but a roll back, which may lead out of that;
-- before one none is refused so. Where the device is named, it failed, and the failure was counted. A command that reads ends no session, and
-- the code page is always told. Of a package that isn't sound each change is refused as broken data, and to write it is done. Soundness stays,
-- and no failure is counted back.
pub record BehavesOnce (old : Condition) (request : Request) (reply : Reply) (new : Condition) : Type 0 where
  pub kind : is_answer_to request reply ≡ true
  pub ended : old.failed ≡ true → is_roll_back request ≡ false → (reply ≡ told.refused Failed) × (new ≡ old)
  pub live : old.failed ≡ false → reply ≡ told.refused Failed → ⊥
  pub device : reply ≡ told.refused Device → old.failures < 2 ^ 64 - 1 → old.failures < new.failures
  pub reading : is_reading request ≡ true → new.failed ≡ old.failed
  pub codepage : old.failed ≡ false → is_codepage request ≡ true → (e : Error) → reply ≡ told.refused e → ⊥
  pub unsound : old.failed ≡ false → old.sound ≡ false → is_changing request ≡ true → reply ≡ told.refused InvalidData
  pub writing : old.failed ≡ false → old.sound ≡ false → is_writing request ≡ true → reply ≡ told.done
  pub sound : new.sound ≡ old.sound
  pub counted : old.failures ≤ new.failures

-- one reply for each command
abbrev pub Behaves : Condition → List Request → List Reply → Condition → Type 0
Behaves old [] [] new = new ≡ old
Behaves old (request ∷ requests) (reply ∷ replies) new = (mid : Condition) × BehavesOnce old request reply mid × Behaves mid requests replies new
Behaves old [] (reply ∷ replies) new = ⊥
Behaves old (request ∷ requests) [] new = ⊥
