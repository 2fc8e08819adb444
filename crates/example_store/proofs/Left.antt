-- What a stop leaves in calls that publish nothing, and in a commit behind them.
use Rattle.std.proofs.Common.{◌⊎◌, ⊎_elim, ℕ, ◌≤◌, List, Option, inl, inr, arith}
use Rattle.cfb_medium.specs.Crashes.{CrashLeavesOnly}

module _ {M : Type 0} (continues : M → M → Type 0) (moment : M → ℕ) (crash_left_since : M → ℕ → Option (List ℕ) → Type 0) (crash_may_leave : M → Option (List ℕ) → Type 0)
    (leaves : (a b : M) → continues a b → CrashLeavesOnly moment crash_left_since a b (crash_may_leave a))
    (counts_now : (m : M) (t : ℕ) (left : Option (List ℕ)) → t ≤ moment m → crash_may_leave m left → crash_left_since m t left) where
  pub only_before : (Q : Option (List ℕ) → Type 0) (a b : M) → continues a b → CrashLeavesOnly moment crash_left_since a b (λ left. crash_may_leave a left ⊎ Q left)
  only_before Q a b goes =
      let first = leaves a b goes in record {
        later = first.later;
        each = λ x since. inl (first.each x since);
        before = λ t x le since. ⊎_elim (λ old. inl old) (λ may. inr (inl may)) (first.before t x le since);
      }

  pub then_commit : (Q : Option (List ℕ) → Type 0) (a b c : M) → continues a b → CrashLeavesOnly moment crash_left_since b c (λ left. crash_may_leave b left ⊎ Q left)
      → CrashLeavesOnly moment crash_left_since a c (λ left. crash_may_leave a left ⊎ Q left)
  then_commit Q a b c goes commit =
      let first = leaves a b goes in
      let start = first.later in
      let end = commit.later in
      let old : (x : Option (List ℕ)) → crash_may_leave b x → crash_may_leave a x = λ x may. first.each x (counts_now b (moment a) x start may) in
      record {
        later = omega (arith, start, end);
        each = λ x since. ⊎_elim (λ before. inl (first.each x before)) (λ p. ⊎_elim (λ may. inl (old x may)) (λ q. inr q) p) (commit.before (moment a) x start since);
        before = λ t x le since.
            let so : t ≤ moment b = omega (arith, le, start) in
            ⊎_elim (λ before. ⊎_elim (λ o. inl o) (λ may. inr (inl may)) (first.before t x le before)) (λ p. ⊎_elim (λ may. inr (inl (old x may))) (λ q. inr (inr q)) p) (commit.before t x so since);
      }
