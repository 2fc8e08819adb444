-- A device of tests, some of whose calls fail.
use Rattle.std.specs.Prelude.{◌≡◌, ◌≢◌, ℕ, ◌-◌, ◌<◌, ◌≤◌, ◌^◌, Bool, true}
use Rattle.staged.specs.declared.device.Which.{Which}
use Rattle.staged.specs.Counts.{counted_failures, counted_writes, counted_syncs}
use Rattle.staged.specs.Device.{counted_up}
use Rattle.staged.specs.declared.fuse.Fuse.{Fuse}
use Rattle.staged.specs.declared.fuse.FuseDevice.{FuseDevice}

-- the next call fails: none is left to pass on, and some are to fail
abbrev pub IsBlown : Fuse → Type 0
IsBlown fuse = (fuse.pass ≡ 0) × (0 < fuse.fail)

-- after a call one fewer is passed on, or, where none was, one fewer fails
pub record Burns (old new : Fuse) : Type 0 where
  pub passed : 0 < old.pass → new ≡ record old { pass = old.pass - 1 }
  pub failed : old.pass ≡ 0 → new ≡ record old { fail = old.fail - 1 }

abbrev pub inner_of : {D : Type 0} → FuseDevice D → D
inner_of d = d.inner

abbrev pub fuse_of : {D : Type 0} → FuseDevice D → Fuse
fuse_of d = d.fuse

abbrev pub fuse_failures : {D : Type 0} → FuseDevice D → ℕ
fuse_failures d = counted_failures d.counts

abbrev pub fuse_writes : {D : Type 0} → FuseDevice D → Which → ℕ
fuse_writes d which = counted_writes d.counts which

abbrev pub fuse_syncs : {D : Type 0} → FuseDevice D → Which → ℕ
fuse_syncs d which = counted_syncs d.counts which

-- a call of this file was counted, and none of the other
pub record IsOneMore (which : Which) (old new : Which → ℕ) : Type 0 where
  pub counted : new which ≡ counted_up (old which)
  pub others : (other : Which) → other ≢ which → new other ≡ old other

-- what the other device counts where a call that only reads is passed on, or one write, or one sync
pub record DeviceIsRead {D : Type 0} (writes syncs : D → Which → ℕ) (old new : D) : Type 0 where
  pub unwritten : (file : Which) → writes new file ≡ writes old file
  pub unsynced : (file : Which) → syncs new file ≡ syncs old file

pub record IsOneWrite {D : Type 0} (writes syncs : D → Which → ℕ) (which : Which) (old new : D) : Type 0 where
  pub written : IsOneMore which (writes old) (writes new)
  pub unsynced : (file : Which) → syncs new file ≡ syncs old file

pub record IsOneSync {D : Type 0} (writes syncs : D → Which → ℕ) (which : Which) (old new : D) : Type 0 where
  pub unwritten : (file : Which) → writes new file ≡ writes old file
  pub synced : IsOneMore which (syncs old) (syncs new)

-- A call goes by the fuse: where that has blown it fails, and doesn't reach the other device; elsewhere it alone is passed on, and fails
-- only where that device counts a failure.
pub record GoesByFuse {D : Type 0} (failures : D → ℕ) (IsPassed : D → D → Type 0) (old new : FuseDevice D) (failed : Bool) : Type 0 where
  pub burns : Burns old.fuse new.fuse
  pub blown : IsBlown old.fuse → (failed ≡ true) × (new.inner ≡ old.inner)
  pub alone : ¬ IsBlown old.fuse → IsPassed old.inner new.inner
  pub passed : ¬ IsBlown old.fuse → failed ≡ true → failures old.inner < 2 ^ 64 - 1 → failures old.inner < failures new.inner

-- by reads and syncs alone
pub record OnlyReadsFuse {D : Type 0} (rests : D → D → Type 0) (old new : FuseDevice D) : Type 0 where
  pub inner : rests old.inner new.inner
  pub writes : (which : Which) → fuse_writes new which ≡ fuse_writes old which
  pub failures : fuse_failures old ≤ fuse_failures new
