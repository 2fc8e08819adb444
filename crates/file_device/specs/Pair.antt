-- What is said of a device of two files of a system.
use Rattle.std.specs.Prelude.{◌≤◌, ◌&&◌, ℕ, Bool}
use Rattle.cfb_medium.specs.Crashes.{CrashLeavesOnly}
use Rattle.staged.specs.Files.{Files}
use Rattle.staged.specs.Device.{DeviceRests}
use Rattle.staged.specs.Crashes.{KeepsCrashHistory}
use Rattle.staged.specs.Counts.{counted_failures, counted_writes, counted_syncs}
use Rattle.staged.specs.declared.device.Which.{Which}
use Rattle.file_device.specs.declared.raw.RawFile.{Ghosts}
use Rattle.file_device.specs.declared.pair.RawDevice.{RawDevice}

abbrev pub raw_content : {F : Type 0} {g : Ghosts F} → RawDevice F g → Files
raw_content {F} {g} d = record { home = g.shown d.home; log = g.shown d.log }

abbrev pub raw_honest : {F : Type 0} {g : Ghosts F} → RawDevice F g → Bool
raw_honest {F} {g} d = g.honest d.home && g.honest d.log

abbrev pub raw_failures : {F : Type 0} {g : Ghosts F} → RawDevice F g → ℕ
raw_failures d = counted_failures d.counts

abbrev pub raw_writes : {F : Type 0} {g : Ghosts F} → RawDevice F g → Which → ℕ
raw_writes d which = counted_writes d.counts which

abbrev pub raw_syncs : {F : Type 0} {g : Ghosts F} → RawDevice F g → Which → ℕ
raw_syncs d which = counted_syncs d.counts which

abbrev pub raw_moment : {F : Type 0} {g : Ghosts F} → RawDevice F g → ℕ
raw_moment d = d.ticks

-- what a crash at a tick may leave of the two files
abbrev pub raw_left : {F : Type 0} {g : Ghosts F} → RawDevice F g → ℕ → Files → Type 0
raw_left {F} {g} d tick left = g.left_at d.home tick left.home × g.left_at d.log tick left.log

abbrev pub raw_may_leave : {F : Type 0} {g : Ghosts F} → RawDevice F g → Files → Type 0
raw_may_leave d left = raw_left d d.ticks left

abbrev pub raw_left_since : {F : Type 0} {g : Ghosts F} → RawDevice F g → ℕ → Files → Type 0
raw_left_since d moment left = (tick : ℕ) × (moment ≤ tick) × (tick ≤ d.ticks) × raw_left d tick left

-- by reads and syncs alone
pub record RawRests {F : Type 0} {g : Ghosts F} (old new : RawDevice F g) : Type 0 where
  pub keeps : DeviceRests (λ d. raw_honest d) (λ d. raw_content d) (λ d which. raw_writes d which) (λ d. raw_failures d) old new
  pub leaves : CrashLeavesOnly (λ d. raw_moment d) (λ d moment. raw_left_since d moment) old new (raw_may_leave old)
  pub remembers : KeepsCrashHistory (λ d. raw_moment d) (λ d moment. raw_left_since d moment) old new
