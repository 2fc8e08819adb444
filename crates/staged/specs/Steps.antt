-- What the steps of a commit and of a recovery leave, and what a recovery makes of it.
use Rattle.std.specs.Prelude.{◌≡◌, ◌⊎◌, ℕ, ◌-◌, ◌*◌, ◌≤◌, min, IsTrue, List, Option, Some}
use Rattle.cfb_medium.specs.Crashes.{CrashLeavesOnly}
use Rattle.staged.specs.declared.device.Device.{Ghosts}
use Rattle.staged.specs.declared.device.Which.{Which}
use Rattle.staged.specs.declared.pages.Page.{Page}
use Rattle.staged.specs.Files.{Files}
use Rattle.staged.specs.Device.{TornFile}
use Rattle.staged.specs.Pages.{HoldsPage}
use Rattle.staged.specs.Log.{recovered}

-- one of these outcomes, or what writes at such places of such lengths make of one where they are cut short
pub data Reached (which : Which) (Writes : ℕ → ℕ → Type 0) (outcomes : Files → Type 0) : Files → Type 0 where
  here : (left : Files) → outcomes left → Reached which Writes outcomes left
  torn : (before left : Files) (at n : ℕ) → Reached which Writes outcomes before → Writes at n → TornFile which at n before left → Reached which Writes outcomes left

-- a step that makes such writes alone
pub record MakesOnlyWrites {D : Type 0} (g : Ghosts D) (which : Which) (Writes : ℕ → ℕ → Type 0) (old new : D) : Type 0 where
  pub honest : g.honest new ≡ g.honest old
  pub left : IsTrue (g.honest old) → CrashLeavesOnly g.moment g.crash_left_since old new (Reached which Writes (g.crash_may_leave old))

-- a write of the gate, one behind it, one of a page of these
abbrev pub AtGate : ℕ → ℕ → Type 0
AtGate at n = (at ≡ 0) × (n ≡ 1)

abbrev pub IsBehindLogFlag : ℕ → ℕ → Type 0
IsBehindLogFlag at n = 1 ≤ at

abbrev pub AtPage : List Page → ℕ → ℕ → ℕ → Type 0
AtPage pages len at n = (number : ℕ) × HoldsPage pages number × (at ≡ 512 * number) × (n ≡ min (len - 512 * number) 512)

-- a crash leaves what is shown
abbrev pub IsDurable : {D : Type 0} → Ghosts D → D → Type 0
IsDurable g d = (left : Files) → g.crash_may_leave d left → left ≡ g.content d

-- a recovery gives one of two lists
abbrev pub RecoversEither : List ℕ → List ℕ → Files → Type 0
RecoversEither one other left = (recovered left ≡ Some one) ⊎ (recovered left ≡ Some other)

-- what a recovery gives of one of these
abbrev pub GivenBy : (Files → Type 0) → Option (List ℕ) → Type 0
GivenBy outcomes given = (left : Files) × outcomes left × (recovered left ≡ given)

-- a recovery gives what it gives of one of these
abbrev pub RecoversAlike : (Files → Type 0) → Files → Type 0
RecoversAlike outcomes left = (one : Files) × outcomes one × (recovered left ≡ recovered one)
