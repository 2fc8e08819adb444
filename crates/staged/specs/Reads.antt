-- Reading a device.
use Rattle.std.specs.Prelude.{◌≡◌, ◌≤◌, IsTrue}
use Rattle.cfb_medium.specs.Calls.{Reaches}
use Rattle.staged.specs.declared.device.Device.{Ghosts}

-- by reads and syncs alone: bytes and honesty stay, and no failure is counted back
pub record OnlyReadsDevice {D : Type 0} (g : Ghosts D) (old new : D) : Type 0 where
  pub same : IsTrue (g.honest old) → g.content new ≡ g.content old
  pub honest : g.honest new ≡ g.honest old
  pub failures : g.failures old ≤ g.failures new
  pub rests : Reaches g.rests old new
