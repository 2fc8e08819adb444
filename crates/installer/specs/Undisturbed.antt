-- Runs in which all went by the rules of packages.
use Rattle.std.specs.Prelude.{◌≡◌, ◌||◌, Bool, true, false, not, List, [], ◌∷◌, Some, length, nat_lt}
use Rattle.cfb_medium.specs.Versions.{stream_len_mask}
use Rattle.cfb_medium.specs.declared.error.Error.{Error}
use Rattle.cfb_medium.specs.declared.error.Error.TheVariants.{Device, Failed, Full, InvalidInput, Memory}
use Rattle.cfb_medium.specs.declared.version.Version.TheVariants.{V3}
use Rattle.command_file.specs.Request.{Request, is_roll_back, is_writing}
use Rattle.command_file.specs.Request as command
use Rattle.cfb_spec.specs.TreeRules.{Object}
use Rattle.msi.specs.Changing.{PackageCanBeWritten}
use Rattle.msi_spec.specs.Package.{PackageContent}
use Rattle.installer.specs.SessionStates.{SessionState, BegunCommit}
use Rattle.installer.specs.Reply.{Reply}
use Rattle.installer.specs.Reply as told

-- a request that writes a stream which has too many bytes for a file of version 3, or that writes whatever pool and summary the package has
abbrev pub is_sized : Request → Bool
is_sized (command.write_stream name content) = nat_lt (stream_len_mask V3) (length content)
is_sized request = is_writing request

-- an error that no rule of packages gives to such a request: a fault, a session that has failed, or bytes that may be too many
abbrev pub is_outside : Bool → Error → Bool
is_outside sized Memory = true
is_outside sized Full = true
is_outside sized Device = true
is_outside sized Failed = true
is_outside sized InvalidInput = sized
is_outside sized e = false

-- a reply that a rule of packages gave, which tells nothing of roll backs
abbrev pub is_by_rule : Request → Reply → Bool
is_by_rule request (told.refused e) = not (is_outside (is_sized request) e || is_roll_back request)
is_by_rule request reply = not (is_roll_back request)

-- each reply is such a one
abbrev pub AreByRule : List Request → List Reply → Type 0
AreByRule (request ∷ requests) (reply ∷ replies) = (is_by_rule request reply ≡ true) × AreByRule requests replies
AreByRule requests replies = Unit {0}

-- ---- storages

-- no request is a roll back
abbrev pub GoOn : List Request → Type 0
GoOn [] = Unit {0}
GoOn (request ∷ requests) = (is_roll_back request ≡ false) × GoOn requests

-- each package of these commits can be written as it is
abbrev pub AreFit : List BegunCommit → Type 0
AreFit [] = Unit {0}
AreFit (mark ∷ marks) = PackageCanBeWritten mark.held × AreFit marks

-- the package to which a roll back leads has these storages
abbrev pub IsBasedOn : List Object → SessionState → Type 0
IsBasedOn storages course = course.sound ≡ true → (B : PackageContent) → course.base ≡ Some B → B.storages ≡ storages
