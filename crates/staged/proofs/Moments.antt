-- What a stop might have left of a device in memory, since each moment.
use Rattle.std.proofs.Common.{inl, inr, ⊎_elim, ◌≡◌, ℕ, ◌≤◌, List, [], ◌∷◌, ◌++◌, length, sym, ◌∙◌, ap, subst, arith, length-append, refl}
use Rattle.std.proofs.lemmas.List.{take_all}
use Rattle.cfb_medium.specs.Crashes.{CrashLeavesOnly}
use Rattle.staged.specs.Files.{Files}
use Rattle.staged.specs.Crashes.{KeepsCrashHistory}
use Rattle.staged.specs.Standing.{Made, MayBeLeft, MightBeLeft}
use Rattle.staged.specs.Memory.{memory_calls, memory_moment, memory_may_leave, memory_left_since, first_files, MemoryRests}
use Rattle.staged.specs.declared.memory.MemoryDevice.{MemoryDevice}
use Rattle.staged.proofs.Leaving.{leaves_then}
use Rattle.staged.proofs.Histories.{might_now, might_keep, might_push}

module _ (a b : MemoryDevice) (first : first_files b ≡ first_files a) where
  moved : (calls : List Made) (t : ℕ) (left : Files) → memory_calls b ≡ calls → memory_left_since b t left → MightBeLeft (first_files a) calls t left
  moved calls t left same since = subst (λ (f : Files). MightBeLeft f calls t left) first (subst (λ (cs : List Made). MightBeLeft (first_files b) cs t left) same since)

  back : (calls : List Made) (t : ℕ) (left : Files) → memory_calls b ≡ calls → MightBeLeft (first_files a) calls t left → memory_left_since b t left
  back calls t left same since = subst (λ (cs : List Made). MightBeLeft (first_files b) cs t left) (sym same) (subst (λ (f : Files). MightBeLeft f calls t left) (sym first) since)

  module _ (P : Files → Type 0) (old : (x : Files) → memory_may_leave a x → P x) where
    pub same_leaves : memory_calls b ≡ memory_calls a → CrashLeavesOnly memory_moment memory_left_since a b P
    same_leaves same = record {
      later = omega (arith, ap length same);
      each = λ x since. old x (might_now (first_files a) (memory_calls a) x (moved (memory_calls a) (memory_moment a) x same since));
      before = λ t x earlier since. inl (moved (memory_calls a) t x same since);
    }

    pub pushed_leaves : (c : Made) → memory_calls b ≡ memory_calls a ++ c ∷ [] → ((x : Files) → MayBeLeft (first_files a) (memory_calls a ++ c ∷ []) x → P x) → CrashLeavesOnly memory_moment memory_left_since a b P
    pushed_leaves c same new = record {
      later = omega (arith, ap length same, length-append (memory_calls a) (c ∷ []));
      each = λ x since. ⊎_elim (λ past. old x (might_now (first_files a) (memory_calls a) x past)) (λ now. new x now) (might_push (first_files a) (memory_calls a) c (memory_moment a) x (moved (memory_calls a ++ c ∷ []) (memory_moment a) x same since));
      before = λ t x earlier since. ⊎_elim (λ past. inl past) (λ now. inr (new x now)) (might_push (first_files a) (memory_calls a) c t x (moved (memory_calls a ++ c ∷ []) t x same since));
    }

  pub same_remembers : memory_calls b ≡ memory_calls a → KeepsCrashHistory memory_moment memory_left_since a b
  same_remembers same = λ t x earlier since. back (memory_calls a) t x same since

  pub pushed_remembers : (c : Made) → memory_calls b ≡ memory_calls a ++ c ∷ [] → KeepsCrashHistory memory_moment memory_left_since a b
  pushed_remembers c same = λ t x earlier since. back (memory_calls a ++ c ∷ []) t x same (might_keep (first_files a) (memory_calls a) c t x since)

counted : (d : MemoryDevice) (t : ℕ) (left : Files) → t ≤ memory_moment d → memory_may_leave d left → memory_left_since d t left
counted d t left earlier now = (memory_moment d, earlier, omega arith, subst (λ (cs : List Made). MayBeLeft (first_files d) cs left) (sym (take_all (memory_moment d) (memory_calls d) (omega arith))) now)

pub rests_then : (a b c : MemoryDevice) → MemoryRests a b → MemoryRests b c → MemoryRests a c
rests_then a b c f s = record {
  keeps = record {
    as_honest = refl;
    same = λ honest. s.keeps.same honest ∙ f.keeps.same honest;
    unwritten = λ which. s.keeps.unwritten which ∙ f.keeps.unwritten which;
    counted = omega (arith, f.keeps.counted, s.keeps.counted);
  };
  leaves = leaves_then memory_moment memory_left_since a b c (memory_may_leave a) (memory_may_leave b) (memory_may_leave a) f.leaves s.leaves (λ x left. left) (λ x left. f.leaves.each x (counted b (memory_moment a) x f.leaves.later left));
  remembers = λ t x earlier since. s.remembers t x (omega (arith, earlier, f.leaves.later)) (f.remembers t x earlier since);
}
