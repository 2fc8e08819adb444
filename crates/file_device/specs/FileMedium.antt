-- What is said of a medium of one file on disk.
use Rattle.std.specs.Prelude.{◌≡◌, ◌≤◌, ℕ, Bool, true, false}
use Rattle.cfb_medium.specs.declared.error.Error.{Error}
use Rattle.cfb_medium.specs.Calls.{IsJustifiedSince}
use Rattle.staged.specs.Counts.{counted_failures}
use Rattle.file_device.specs.declared.medium.FileMedium.{FileMedium}

-- how many of its calls have failed
abbrev pub medium_failures : FileMedium → ℕ
medium_failures m = counted_failures m.counts

-- none of them is forgotten
abbrev pub MoreFailures : FileMedium → FileMedium → Type 0
MoreFailures old new = medium_failures old ≤ medium_failures new

-- `Device` is told only where a failure was counted, and `Failed` never
abbrev pub IsJustifiedByFile : FileMedium → FileMedium → Error → Type 0
IsJustifiedByFile old new error = IsJustifiedSince (λ a b. MoreFailures a b) medium_failures (λ _. false) old new error

-- a sync has failed, so what is shown may be missing on the disk
abbrev pub is_lost : FileMedium → Bool
is_lost m = m.file.is_lost

-- a medium that is lost stays so, and each call on it is refused
pub record StaysLost (IsRefused : Type 0) (old new : FileMedium) : Type 0 where
  pub refused : is_lost old ≡ true → IsRefused
  pub stays : is_lost old ≡ true → is_lost new ≡ true
