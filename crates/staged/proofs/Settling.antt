-- When a device is settled.
use Rattle.std.proofs.Common.{◌⊎◌, inl, inr, ⊎_elim, ◌≡◌, ◌≤◌, ℕ, List, Option, Some, sym, ◌∙◌, ap, subst, arith}
use Rattle.cfb_medium.specs.Crashes.{CrashLeavesOnly}
use Rattle.staged.specs.Files.{Files}
use Rattle.staged.specs.Log.{logged, recovered}
use Rattle.staged.specs.Committed.{IsLogClosed, HasPublished}
use Rattle.staged.specs.Steps.{GivenBy, RecoversEither}
use Rattle.staged.specs.declared.device.Device.{Ghosts}
use Rattle.staged.proofs.Reaching.{rest_lasts}
use Rattle.staged.proofs.Torn.{closed_gives}

module _ {D : Type 0} (g : Ghosts D) where
  pub settled_still : ((d : D) (t : ℕ) (x : Files) → t ≤ g.moment d → g.crash_may_leave d x → g.crash_left_since d t x) → (a b : D) → CrashLeavesOnly g.moment g.crash_left_since a b (g.crash_may_leave a) → g.content b ≡ g.content a → IsLogClosed g a → IsLogClosed g b
  settled_still counts_now a b leaves same settled = record { closed = ap logged same ∙ settled.closed; kept = rest_lasts g counts_now a b leaves same settled.kept }

  -- what a settled device has published
  pub settled_published : (d : D) (bytes : List ℕ) → (g.content d).home ≡ bytes → IsLogClosed g d → HasPublished g d bytes
  settled_published d bytes home settled = record {
    home = home;
    closed = settled.closed;
    left = λ left now. ap recovered (settled.kept left now) ∙ closed_gives (g.content d) settled.closed ∙ ap (λ (l : List ℕ). Some l) home;
  }

-- what is said of pairs of files, said of what a recovery gives
pub lifted : {D M : Type 0} (g : Ghosts D) (device : M → D) (a b : M) (P : Files → Type 0) (Q : Option (List ℕ) → Type 0) → CrashLeavesOnly g.moment g.crash_left_since (device a) (device b) P
    → ((left : Files) (given : Option (List ℕ)) → P left → recovered left ≡ given → Q given) → CrashLeavesOnly (λ m. g.moment (device m)) (λ m t. GivenBy (g.crash_left_since (device m) t)) a b Q
lifted g device a b P Q l gives = record {
  later = l.later;
  each = λ given left. gives left.0 given (l.each left.0 left.1) left.2;
  before = λ t given earlier left. ⊎_elim (λ past. inl (left.0, past, left.2)) (λ now. inr (gives left.0 given now left.2)) (l.before t left.0 earlier left.1);
}

-- what a commit over a settled device leaves: as before, or the new bytes
pub commit_gives : {D : Type 0} (g : Ghosts D) (d : D) (bytes : List ℕ) → g.crash_may_leave d (g.content d) → IsLogClosed g d → (left : Files) (given : Option (List ℕ)) → RecoversEither (g.content d).home bytes left → recovered left ≡ given
    → GivenBy (g.crash_may_leave d) given ⊎ (given ≡ Some bytes)
commit_gives g d bytes shows settled left given either is =
    ⊎_elim (λ old. inl (g.content d, shows, closed_gives (g.content d) settled.closed ∙ sym old ∙ is)) (λ new. inr (sym is ∙ new)) either

pub stays : {D M : Type 0} (g : Ghosts D) (device : M → D) (a b : M) (Q : Option (List ℕ) → Type 0) → ((d : D) (x : Files) → g.crash_left_since d (g.moment d) x → g.crash_may_leave d x) → device a ≡ device b → ((given : Option (List ℕ)) → GivenBy (g.crash_may_leave (device a)) given → Q given)
    → CrashLeavesOnly (λ m. g.moment (device m)) (λ m t. GivenBy (g.crash_left_since (device m) t)) a b Q
stays g device a b Q only_now same gives =
    lifted g device a b (g.crash_may_leave (device a)) Q
    (subst (λ d. CrashLeavesOnly g.moment g.crash_left_since (device a) d (g.crash_may_leave (device a))) same (record { later = omega arith; each = λ x left. only_now (device a) x left; before = λ t x earlier left. inl left }))
    (λ left given now is. gives given (left, now, is))
