-- A device between commits.
use Rattle.std.specs.Prelude.{◌≡◌, ℕ, List, Some}
use Rattle.staged.specs.Files.{Files}
use Rattle.staged.specs.Log.{logged, recovered, ClosedLog}
use Rattle.staged.specs.declared.device.Device.{Ghosts}

-- the log is closed, so that a recovery leaves the home file as it is, and a crash leaves what is shown
pub record IsLogClosed {D : Type 0} (g : Ghosts D) (d : D) : Type 0 where
  pub closed : logged (g.content d) ≡ ClosedLog
  pub kept : (left : Files) → g.crash_may_leave d left → left ≡ g.content d

-- the home file has these bytes, the log is closed, and whatever a crash leaves, a recovery gives them
pub record HasPublished {D : Type 0} (g : Ghosts D) (d : D) (bytes : List ℕ) : Type 0 where
  pub home : (g.content d).home ≡ bytes
  pub closed : logged (g.content d) ≡ ClosedLog
  pub left : (left : Files) → g.crash_may_leave d left → recovered left ≡ Some bytes
