-- What a stop leaves in runs of calls, one after another.
use Rattle.std.proofs.Common.{inl, inr, ⊎_elim, ℕ, arith}
use Rattle.cfb_medium.specs.Crashes.{CrashLeavesOnly}

module _ {M X : Type 0} (moment : M → ℕ) (since : M → ℕ → X → Type 0) where
  pub leaves_then : (a b c : M) (P Q R : X → Type 0) → CrashLeavesOnly moment since a b P → CrashLeavesOnly moment since b c Q → ((x : X) → P x → R x) → ((x : X) → Q x → R x) → CrashLeavesOnly moment since a c R
  leaves_then a b c P Q R f s first second = record {
    later = omega (arith, f.later, s.later);
    each = λ x left. ⊎_elim (λ past. first x (f.each x past)) (λ now. second x now) (s.before (moment a) x f.later left);
    before = λ t x earlier left. ⊎_elim (λ past. ⊎_elim (λ old. inl old) (λ now. inr (first x now)) (f.before t x earlier past)) (λ now. inr (second x now)) (s.before t x (omega (arith, earlier, f.later)) left);
  }

  pub leaves_told : (a b : M) (P R : X → Type 0) → CrashLeavesOnly moment since a b P → ((x : X) → P x → R x) → CrashLeavesOnly moment since a b R
  leaves_told a b P R l told = record {
    later = l.later;
    each = λ x left. told x (l.each x left);
    before = λ t x earlier left. ⊎_elim (λ past. inl past) (λ now. inr (told x now)) (l.before t x earlier left);
  }
