-- What a recovery gives.
use Rattle.std.proofs.Common.{◌≡◌, ◌≤◌, ◌<◌, ◌-◌, ◌^◌, ◌∙◌, sym, ap, None, Some, List, arith, ⊎_elim}
use Rattle.std.proofs.lemmas.Bool.{cases_lt}
use Rattle.std.specs.Prelude.{ℕ}
use Rattle.staged.specs.Files.{Files}
use Rattle.staged.specs.Log.{Logged, ClosedLog, MalformedLog, OpenLog, logged, recovered, recovered_by}
use Rattle.staged.specs.Recovery.{Recovers, RecoversBy}
use Rattle.staged.specs.declared.recovery.Recovered.{Recovered}

recovers_by : (l : Logged) (old new : Files) (answer : Recovered) → RecoversBy l old new answer → recovered_by old l ≡ Some new.home
recovers_by ClosedLog old new answer by = ap (λ (f : Files). Some f.home) (sym by.1)
recovers_by MalformedLog old new answer by = elim by [ ]
recovers_by (OpenLog len pages) old new answer by = ap Some (sym by.home)

-- the home file after a recovery is what a recovery gives
pub recovers_home : (old new : Files) (answer : Recovered) → Recovers old new answer → recovered old ≡ Some new.home
recovers_home old new answer by = recovers_by (logged old) old new answer by

-- beside a malformed log a recovery gives nothing
pub never_recovered : (files : Files) (bytes : List ℕ) → logged files ≡ MalformedLog → recovered files ≡ Some bytes → ⊥
never_recovered files bytes malformed given =
    let none : None ≡ Some bytes = sym (ap (recovered_by files) malformed) ∙ given in
    absurd (cc none)

-- a failure that was counted after a first part of a call was counted in the call
pub faults : (a b c : ℕ) → a < 2 ^ 64 - 1 → a ≤ b → b ≤ c → (b < 2 ^ 64 - 1 → b < c) → a < c
faults a b c less first second count = ⊎_elim (λ below. let more = count below in omega arith) (λ above. omega arith) (cases_lt b (2 ^ 64 - 1))
