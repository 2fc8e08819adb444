-- What is reached by steps.
use Rattle.std.proofs.Common.{inl, inr, ⊎_elim, ◌≡◌, ◌≤◌, ℕ, List, [], ◌∷◌, Bool, true, false, ◌==◌, cond, Some, None, is_some, IsTrue, refl, sym, ◌∙◌, ap, subst, arith}
use Rattle.cfb_medium.specs.Crashes.{CrashLeavesOnly}
use Rattle.staged.specs.Files.{Files, file_of, with_file}
use Rattle.staged.proofs.Steps.{same_files}
use Rattle.staged.specs.Device.{TornFile}
use Rattle.staged.specs.Crashes.{CrashKeepsFile, IsTornWriteOf}
use Rattle.staged.specs.Pages.{HoldsPage}
use Rattle.staged.specs.Steps.{Reached, here, torn, MakesOnlyWrites, IsDurable, AtPage}
use Rattle.staged.specs.declared.pages.Page.{Page}
use Rattle.std.proofs.lemmas.Bool.{eqb-true, eq-eqb}
use Rattle.staged.specs.declared.device.Device.{Ghosts}
use Rattle.staged.specs.declared.device.Which.{Which}
use Rattle.staged.specs.declared.device.Which.TheVariants.{Home, Log}

-- a file of a pair, changed twice
with_twice : (which : Which) (files x y : Files) → x ≡ with_file files which (file_of x which) → y ≡ with_file x which (file_of y which) → y ≡ with_file files which (file_of y which)
with_twice Home files x y first second = second ∙ ap (λ (f : Files). with_file f Home (file_of y Home)) first
with_twice Log files x y first second = second ∙ ap (λ (f : Files). with_file f Log (file_of y Log)) first

with_same : (which : Which) (files : Files) → files ≡ with_file files which (file_of files which)
with_same Home files = refl
with_same Log files = refl

module _ (which : Which) (Writes : ℕ → ℕ → Type 0) where
  -- what is so of the outcomes, and stays so where a write is cut short, is so of all that is reached
  pub reaches : (outcomes P : Files → Type 0) → ((x : Files) → outcomes x → P x) → ((x y : Files) (at n : ℕ) → Writes at n → P x → TornFile which at n x y → P y)
      → (x : Files) → Reached which Writes outcomes x → P x
  reaches outcomes P bears closed _ (here x now) = bears x now
  reaches outcomes P bears closed _ (torn before x at n from may cut) = closed before x at n may (reaches outcomes P bears closed before from) cut

  reached_then : (few many : Files → Type 0) → ((x : Files) → few x → Reached which Writes many x) → (x : Files) → Reached which Writes few x → Reached which Writes many x
  reached_then few many sub _ (here x now) = sub x now
  reached_then few many sub _ (torn before x at n from may cut) = torn before x at n (reached_then few many sub before from) may cut

  -- the other file is not written
  pub other_file : (files : Files) (outcomes : Files → Type 0) → ((x : Files) → outcomes x → x ≡ files) → (x : Files) → Reached which Writes outcomes x → x ≡ with_file files which (file_of x which)
  other_file files outcomes are = reaches outcomes (λ x. x ≡ with_file files which (file_of x which)) (λ x now. subst (λ (f : Files). x ≡ with_file f which (file_of x which)) (are x now) (with_same which x)) (λ x y at n may was cut. with_twice which files x y was cut.other)

  module _ {D : Type 0} (g : Ghosts D) (counts_now : (d : D) (t : ℕ) (x : Files) → t ≤ g.moment d → g.crash_may_leave d x → g.crash_left_since d t x) where
    pub steps_then : (a b c : D) → MakesOnlyWrites g which Writes a b → MakesOnlyWrites g which Writes b c → MakesOnlyWrites g which Writes a c
    steps_then a b c first second = record {
      honest = second.honest ∙ first.honest;
      left = λ honest.
          let f = first.left honest in
          let s = second.left (subst (λ (t : Bool). IsTrue t) (sym first.honest) honest) in
          let into = λ (x : Files) (now : Reached which Writes (g.crash_may_leave b) x). reached_then (g.crash_may_leave b) (g.crash_may_leave a) (λ y left. f.each y (counts_now b (g.moment a) y f.later left)) x now in
          record {
            later = omega (arith, f.later, s.later);
            each = λ x since. ⊎_elim (λ past. f.each x past) (λ now. into x now) (s.before (g.moment a) x f.later since);
            before = λ t x le since. ⊎_elim (λ past. f.before t x le past) (λ now. inr (into x now)) (s.before t x (omega (arith, le, f.later)) since);
          };
    }

    pub rest_steps : (a b : D) → g.honest b ≡ g.honest a → CrashLeavesOnly g.moment g.crash_left_since a b (g.crash_may_leave a) → MakesOnlyWrites g which Writes a b
    rest_steps a b honest leaves = record {
      honest = honest;
      left = λ _. record { later = leaves.later; each = λ y since. here y (leaves.each y since); before = λ t y le since. ⊎_elim (λ past. inl past) (λ now. inr (here y now)) (leaves.before t y le since) };
    }

    pub write_steps : (at n : ℕ) (a b : D) → Writes at n → g.honest b ≡ g.honest a → (IsTrue (g.honest a) → CrashLeavesOnly g.moment g.crash_left_since a b (IsTornWriteOf which at n (g.crash_may_leave a))) → MakesOnlyWrites g which Writes a b
    write_steps at n a b may honest leaves = record {
      honest = honest;
      left = λ is. let l = leaves is in record {
        later = l.later;
        each = λ y since. let one = l.each y since in torn one.0 y at n (here one.0 one.1) may one.2;
        before = λ t y le since. ⊎_elim (λ past. inl past) (λ one. inr (torn one.0 y at n (here one.0 one.1) may one.2)) (l.before t y le since);
      };
    }

    pub stay_steps : ((d : D) (x : Files) → g.crash_left_since d (g.moment d) x → g.crash_may_leave d x) → (a : D) → MakesOnlyWrites g which Writes a a
    stay_steps only_now a = rest_steps a a refl (record { later = omega arith; each = λ x since. only_now a x since; before = λ t x le since. inl since })

    -- a file that was written and synced lasts where both lasted before
    pub lasts_after : (a b : D) → MakesOnlyWrites g which Writes a b → IsTrue (g.honest a) → IsDurable g a → CrashKeepsFile which (g.content b) (g.crash_may_leave b) → g.content b ≡ with_file (g.content a) which (file_of (g.content b) which) → IsDurable g b
    lasts_after a b steps honest lasts kept same = λ x now.
        let l = steps.left honest in
        other_file (g.content a) (g.crash_may_leave a) lasts x (l.each x (counts_now b (g.moment a) x l.later now))
        ∙ ap (λ (bytes : List ℕ). with_file (g.content a) which bytes) (kept x now) ∙ sym same

    -- what steps leave that set out from a pair that lasts
    pub leaves_from : (a b : D) (P : Files → Type 0) → MakesOnlyWrites g which Writes a b → IsTrue (g.honest a) → IsDurable g a → P (g.content a) → ((x y : Files) (at n : ℕ) → Writes at n → P x → TornFile which at n x y → P y) → CrashLeavesOnly g.moment g.crash_left_since a b P
    leaves_from a b P steps honest lasts at_first closed =
        let l = steps.left honest in
        let into = reaches (g.crash_may_leave a) P (λ x now. subst P (sym (lasts x now)) at_first) closed in
        record { later = l.later; each = λ x since. into x (l.each x since); before = λ t x le since. ⊎_elim (λ past. inl past) (λ now. inr (into x now)) (l.before t x le since) }

-- what lasts still does where the device only rested
pub rest_lasts : {D : Type 0} (g : Ghosts D) → ((d : D) (t : ℕ) (x : Files) → t ≤ g.moment d → g.crash_may_leave d x → g.crash_left_since d t x) → (a b : D) → CrashLeavesOnly g.moment g.crash_left_since a b (g.crash_may_leave a) → g.content b ≡ g.content a → IsDurable g a → IsDurable g b
rest_lasts g counts_now a b leaves same lasts = λ x now. lasts x (leaves.each x (counts_now b (g.moment a) x leaves.later now)) ∙ sym same

-- the writes of a step, told otherwise
pub reached_where : (which : Which) (Writes Others : ℕ → ℕ → Type 0) (outcomes : Files → Type 0) → ((at n : ℕ) → Writes at n → Others at n) → (x : Files) → Reached which Writes outcomes x → Reached which Others outcomes x
reached_where which Writes Others outcomes told _ (here x now) = here x now
reached_where which Writes Others outcomes told _ (torn before x at n from may cut) = torn before x at n (reached_where which Writes Others outcomes told before from) (told at n may) cut

pub steps_where : {D : Type 0} (g : Ghosts D) (which : Which) (Writes Others : ℕ → ℕ → Type 0) (a b : D) → (IsTrue (g.honest a) → (at n : ℕ) → Writes at n → Others at n) → MakesOnlyWrites g which Writes a b → MakesOnlyWrites g which Others a b
steps_where g which Writes Others a b told steps = record {
  honest = steps.honest;
  left = λ honest.
      let l = steps.left honest in
      let into = reached_where which Writes Others (g.crash_may_leave a) (told honest) in
      record { later = l.later; each = λ x since. into x (l.each x since); before = λ t x le since. ⊎_elim (λ past. inl past) (λ now. inr (into x now)) (l.before t x le since) };
}

-- one page among others
pub page_among : (p : Page) (pages : List Page) (len at n : ℕ) → HoldsPage pages p.number → AtPage (p ∷ []) len at n → AtPage pages len at n
page_among p pages len at n held one = (one.0, subst (λ (k : ℕ). HoldsPage pages k) (only p one.0 one.1) held, one.2, one.3)
  where
    only : (p : Page) (k : ℕ) → HoldsPage (p ∷ []) k → p.number ≡ k
    only p k h = go (p.number == k) refl h
      where
        go : (b : Bool) → (p.number == k) ≡ b → IsTrue (is_some (cond b (Some p.bytes) None)) → p.number ≡ k
        go true is held = eqb-true p.number k is
        go false is held = absurd (cc held)

-- a page alone
pub page_alone : (p : Page) → HoldsPage (p ∷ []) p.number
page_alone p = rw (eq-eqb p.number p.number refl) refl

-- both files were synced, one after the other
pub lasts_both : {D : Type 0} (g : Ghosts D) → ((d : D) (t : ℕ) (x : Files) → t ≤ g.moment d → g.crash_may_leave d x → g.crash_left_since d t x) → (a b : D) → CrashKeepsFile Log (g.content a) (g.crash_may_leave a) → CrashKeepsFile Home (g.content b) (g.crash_may_leave b)
    → CrashLeavesOnly g.moment g.crash_left_since a b (g.crash_may_leave a) → g.content b ≡ g.content a → IsDurable g b
lasts_both g counts_now a b log home leaves same = λ x now.
    same_files x _ _ (home x now) (log x (leaves.each x (counts_now b (g.moment a) x leaves.later now)) ∙ ap (λ (f : Files). f.log) (sym same))
