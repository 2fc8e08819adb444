-- What a stop may leave after a tick.
use Rattle.std.proofs.Common.{Bool, IsTrue, ◌∙◌, inl, inr, ⊎_elim, ◌≡◌, ℕ, ◌+◌, ◌≤◌, subst, arith}
use Rattle.std.proofs.lemmas.Bool.{cases_lt}
use Rattle.cfb_medium.specs.Crashes.{CrashLeavesOnly}
use Rattle.staged.specs.Files.{Files}
use Rattle.file_device.specs.declared.raw.RawFile.{Ghosts}
use Rattle.file_device.specs.declared.pair.RawDevice.{RawDevice}
use Rattle.file_device.specs.Pair.{raw_moment, raw_left, raw_may_leave, raw_left_since, RawRests}

module _ {F : Type 0} {g : Ghosts F} where
  -- no tick went by
  pub still_leaves : (old new : RawDevice F g) (P : Files → Type 0) → new.ticks ≡ old.ticks → ((k : ℕ) (left : Files) → raw_left new k left → raw_left old k left) → ((left : Files) → raw_may_leave old left → P left)
      → CrashLeavesOnly (λ (d : RawDevice F g). raw_moment d) (λ (d : RawDevice F g) moment left. raw_left_since d moment left) old new P
  still_leaves old new P same past stay = record {
    later = omega arith;
    each = λ x since.
        let from = since.1 in
        let within = since.2 in
        let now : since.0 ≡ old.ticks = omega arith in
        stay x (subst (λ (k : ℕ). raw_left old k x) now (past since.0 x since.3));
    before = λ t x earlier since. let within = since.2 in inl (since.0, since.1, (let e : since.0 ≤ old.ticks = omega arith in e), past since.0 x since.3);
  }

  -- a tick went by
  pub tick_leaves : (old new : RawDevice F g) (P : Files → Type 0) → new.ticks ≡ old.ticks + 1 → ((k : ℕ) (left : Files) → k ≤ old.ticks → raw_left new k left → raw_left old k left)
      → ((left : Files) → raw_left new (old.ticks + 1) left → P left) → ((left : Files) → raw_may_leave old left → P left)
      → CrashLeavesOnly (λ (d : RawDevice F g). raw_moment d) (λ (d : RawDevice F g) moment left. raw_left_since d moment left) old new P
  tick_leaves old new P ticks past now stay = record {
    later = omega arith;
    each = λ x since.
        let from = since.1 in
        let within = since.2 in
        elim (cases_lt old.ticks since.0) [
          | inl after ↦ let next : since.0 ≡ old.ticks + 1 = omega arith in now x (subst (λ (k : ℕ). raw_left new k x) next since.3)
          | inr still ↦ let here : since.0 ≡ old.ticks = omega arith in stay x (subst (λ (k : ℕ). raw_left old k x) here (past since.0 x still since.3))
        ];
    before = λ t x earlier since.
        let within = since.2 in
        elim (cases_lt old.ticks since.0) [
          | inl after ↦ let next : since.0 ≡ old.ticks + 1 = omega arith in inr (now x (subst (λ (k : ℕ). raw_left new k x) next since.3))
          | inr still ↦ inl (since.0, since.1, still, past since.0 x still since.3)
        ];
  }

  -- reads and syncs in a row
  pub rests_then : (a b c : RawDevice F g) → RawRests a b → RawRests b c → RawRests a c
  rests_then a b c first then = record {
    keeps = record {
      as_honest = first.keeps.as_honest ∙ then.keeps.as_honest;
      same = λ honest. then.keeps.same (subst (λ (x : Bool). IsTrue x) first.keeps.as_honest honest) ∙ first.keeps.same honest;
      unwritten = λ which. then.keeps.unwritten which ∙ first.keeps.unwritten which;
      counted = omega (arith, first.keeps.counted, then.keeps.counted);
    };
    leaves =
        let early : a.ticks ≤ b.ticks = first.leaves.later in
        let late : b.ticks ≤ c.ticks = then.leaves.later in
        record {
          later = omega arith;
          each = λ x since. ⊎_elim (λ (was : raw_left_since b a.ticks x). first.leaves.each x was) (λ (now : raw_may_leave b x). first.leaves.each x (b.ticks, early, (let e : b.ticks ≤ b.ticks = omega arith in e), now)) (then.leaves.before a.ticks x early since);
          before = λ t x earlier since. ⊎_elim (λ (was : raw_left_since b t x). first.leaves.before t x earlier was)
              (λ (now : raw_may_leave b x). first.leaves.before t x earlier (b.ticks, (let e : t ≤ b.ticks = omega arith in e), (let e : b.ticks ≤ b.ticks = omega arith in e), now))
              (then.leaves.before t x (omega arith) since);
        };
    remembers = λ t left earlier since. let early : a.ticks ≤ b.ticks = first.leaves.later in then.remembers t left (omega arith) (first.remembers t left earlier since);
  }
