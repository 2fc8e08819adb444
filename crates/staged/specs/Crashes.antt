-- What a crash may leave of the two files.
use Rattle.std.specs.Prelude.{◌≡◌, ℕ, ◌≤◌}
use Rattle.staged.specs.declared.device.Which.{Which}
use Rattle.staged.specs.Files.{Files, file_of}
use Rattle.staged.specs.Device.{TornFile}

-- one of these pairs, with a write of n bytes to a file cut short
abbrev pub IsTornWriteOf : Which → ℕ → ℕ → (Files → Type 0) → Files → Type 0
IsTornWriteOf which at n outcomes left = (before : Files) × outcomes before × TornFile which at n before left

-- whatever is left, this file is as it is shown
abbrev pub CrashKeepsFile : Which → Files → (Files → Type 0) → Type 0
CrashKeepsFile which shown outcomes = (left : Files) → outcomes left → file_of left which ≡ file_of shown which

-- what might have been left since an earlier moment still counts
abbrev pub KeepsCrashHistory : {D : Type 0} → (D → ℕ) → (D → ℕ → Files → Type 0) → D → D → Type 0
KeepsCrashHistory moment crash_left_since old new = (t : ℕ) (left : Files) → t ≤ moment old → crash_left_since old t left → crash_left_since new t left
