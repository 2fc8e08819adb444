-- What may be found after each event of a history.
use Rattle.std.proofs.Common.{◌≡◌, ◌⊎◌, inl, inr, ⊎_elim, ◌≤◌, ℕ, List, [], ◌∷◌, ◌++◌, false, IsTrue, Option, Some, map, refl, sym, ap, ◌∙◌, subst, arith}
use Rattle.cfb_medium.specs.Crashes.{CrashLeavesOnly}
use Rattle.cfb_tree.specs.Names.{CaseTable}
use Rattle.staged.proofs.Leaving.{leaves_then}
use Rattle.staged.proofs.Torn.{closed_gives}
use Rattle.staged.specs.Files.{Files}
use Rattle.staged.specs.Log.{recovered}
use Rattle.staged.specs.Committed.{IsLogClosed}
use Rattle.staged.specs.Steps.{RecoversAlike}
use Rattle.staged.specs.declared.device.Device.{Ghosts}
use Rattle.installer.specs.SessionStates.{BegunCommit}
use Rattle.installer.specs.History.{Event, returned, stopped, Happen}
use Rattle.installer.specs.CrashSurvival.{MayBeRecovered, begun, IsRecovered, IsGiven, AllGive, AnyList, gives, given_since, listed, SurvivesCrash}

some_same : (x y : List ℕ) → Some x ≡ Some y → x ≡ y
some_same x y h = cc

module _ (letters : CaseTable) where
  pub found_sub : (few many : List ℕ → Type 0) (marks : List BegunCommit) → ((b : List ℕ) → few b → many b) → (b : List ℕ) → MayBeRecovered letters few marks b → MayBeRecovered letters many marks b
  found_sub few many [] sub b found = sub b found
  found_sub few many (m ∷ marks) sub b found =
      found_sub (λ b. IsRecovered letters b m.held ⊎ ((m.done ≡ false) × few b)) (λ b. IsRecovered letters b m.held ⊎ ((m.done ≡ false) × many b)) marks
      (λ b either. ⊎_elim (λ x. inl x) (λ x. inr (x.0, sub b x.1)) either) b found

  pub found_then : (lists : List ℕ → Type 0) (own later : List BegunCommit) (b : List ℕ) → MayBeRecovered letters (MayBeRecovered letters lists own) later b → MayBeRecovered letters lists (own ++ later) b
  found_then lists [] later b found = found
  found_then lists (m ∷ own) later b found = found_then (λ b. IsRecovered letters b m.held ⊎ ((m.done ≡ false) × lists b)) own later b found

  found_begun : (lists : List ℕ → Type 0) (own : List BegunCommit) (b : List ℕ) → MayBeRecovered letters lists own b → MayBeRecovered letters lists (map begun own) b
  found_begun lists [] b found = found
  found_begun lists (m ∷ own) b found =
      found_begun (λ b. IsRecovered letters b m.held ⊎ ((false ≡ false) × lists b)) own b
      (found_sub (λ b. IsRecovered letters b m.held ⊎ ((m.done ≡ false) × lists b)) (λ b. IsRecovered letters b m.held ⊎ ((false ≡ false) × lists b)) own
      (λ b either. ⊎_elim (λ x. inl x) (λ x. inr (refl, x.1)) either) b found)

  found_more : (lists : List ℕ → Type 0) (own : List BegunCommit) (b : List ℕ) → lists b → MayBeRecovered letters lists (map begun own) b
  found_more lists [] b here = here
  found_more lists (m ∷ own) b here = found_more (λ b. IsRecovered letters b m.held ⊎ ((false ≡ false) × lists b)) own b (inr (refl, here))

  map_begun : (own later : List BegunCommit) → map begun (own ++ later) ≡ map begun own ++ map begun later
  map_begun [] later = refl
  map_begun (m ∷ own) later = ap (λ rest. begun m ∷ rest) (map_begun own later)

  any : (lists : List ℕ → Type 0) (outcomes : Option (List ℕ) → Type 0) → AllGive lists outcomes → AllGive AnyList outcomes
  any lists outcomes all = λ given from. let one = all given from in (one.0, one.1, tt)

  weaker : (few many : List ℕ → Type 0) (outcomes : Option (List ℕ) → Type 0) → ((b : List ℕ) → few b → many b) → AllGive few outcomes → AllGive many outcomes
  weaker few many outcomes sub all = λ given from. let one = all given from in (one.0, one.1, sub one.0 one.2)

  module _ {D : Type 0} (g : Ghosts D) where
    listed_sub : (lists : List ℕ → Type 0) (d : D) → AllGive lists (gives g d) → (b : List ℕ) → listed g d b → lists b
    listed_sub lists d all b given = let one = all (Some b) given in subst lists (some_same one.0 b (sym one.1)) one.2

    -- the law over histories
    pub survive : (d : D) (events : List (Event letters g)) (marks : List BegunCommit) (last : D) (lists : List ℕ → Type 0)
        → IsTrue (g.honest d) → AllGive lists (gives g d) → Happen letters g d events marks last → AllGive (MayBeRecovered letters lists marks) (gives g last)
    survive d [] marks last lists honest all happen = rw happen.0 (rw happen.1 all)
    survive d (returned own next ∷ events) marks last lists honest all happen =
        let survives = happen.1 in
        let given = survives.at_return honest (any lists (gives g d) all) in
        let then = survive next events happen.0 last (MayBeRecovered letters lists own) (rw survives.honest honest)
        (weaker (MayBeRecovered letters (listed g d) own) (MayBeRecovered letters lists own) (gives g next) (found_sub (listed g d) lists own (listed_sub lists d all)) given) happen.2 in
        rw happen.3 (weaker (MayBeRecovered letters (MayBeRecovered letters lists own) happen.0) (MayBeRecovered letters lists (own ++ happen.0)) (gives g last) (found_then lists own happen.0) then)
    survive d (stopped own next after ∷ events) marks last lists honest all happen =
        let survives = happen.1 in
        let given = survives.any_moment honest (any lists (gives g d) all) in
        let now : AllGive (MayBeRecovered letters lists (map begun own)) (gives g after) = λ found from.
        let one = given.each found (from.0, happen.2.left from.0 from.1, from.2) in
        (one.0, one.1, found_sub (listed g d) lists (map begun own) (listed_sub lists d all) one.0 one.2) in
        let then = survive after events happen.0 last (MayBeRecovered letters lists (map begun own)) happen.2.honest now happen.3 in
        rw happen.4 (weaker (MayBeRecovered letters (MayBeRecovered letters lists (map begun own)) happen.0) (MayBeRecovered letters lists (map begun own ++ happen.0)) (gives g last) (found_then lists (map begun own) happen.0) then)

    -- one call after another is a call
    pub survives_then : (a b c : D) (own later : List BegunCommit) → SurvivesCrash letters g a b own → SurvivesCrash letters g b c later → SurvivesCrash letters g a c (own ++ later)
    survives_then a b c own later f s = record {
      honest = s.honest ∙ f.honest;
      counted = omega (arith, f.counted, s.counted);
      any_moment = λ honest recover.
          let returned_then = f.at_return honest recover in
          let ab = f.any_moment honest recover in
          let bc = s.any_moment (rw f.honest honest) (any (MayBeRecovered letters (listed g a) own) (gives g b) returned_then) in
          let first : (x : Option (List ℕ)) → IsGiven (MayBeRecovered letters (listed g a) (map begun own)) x → IsGiven (MayBeRecovered letters (listed g a) (map begun (own ++ later))) x =
          λ x one. (one.0, one.1, rw (map_begun own later) (found_then (listed g a) (map begun own) (map begun later) one.0 (found_more (MayBeRecovered letters (listed g a) (map begun own)) later one.0 one.2))) in
          let second : (x : Option (List ℕ)) → IsGiven (MayBeRecovered letters (listed g b) (map begun later)) x → IsGiven (MayBeRecovered letters (listed g a) (map begun (own ++ later))) x =
          λ x one. (
            one.0,
            one.1,
            rw (map_begun own later) (found_then (listed g a) (map begun own) (map begun later) one.0
                (found_sub (listed g b) (MayBeRecovered letters (listed g a) (map begun own)) (map begun later) (λ y given. found_begun (listed g a) own y (listed_sub (MayBeRecovered letters (listed g a) own) b returned_then y given)) one.0 one.2)),
          ) in
          record {
            later = omega (arith, ab.later, bc.later);
            each = λ x since. ⊎_elim (λ past. first x (ab.each x past)) (λ now. second x now) (bc.before (g.moment a) x ab.later since);
            before = λ t x le since. ⊎_elim (λ past. ⊎_elim (λ old. inl old) (λ now. inr (first x now)) (ab.before t x le past)) (λ now. inr (second x now)) (bc.before t x (omega (arith, le, ab.later)) since);
          };
      at_return = λ honest recover.
          let returned_then = f.at_return honest recover in
          weaker (MayBeRecovered letters (MayBeRecovered letters (listed g a) own) later) (MayBeRecovered letters (listed g a) (own ++ later)) (gives g c) (found_then (listed g a) own later)
          (weaker (MayBeRecovered letters (listed g b) later) (MayBeRecovered letters (MayBeRecovered letters (listed g a) own) later) (gives g c) (found_sub (listed g b) (MayBeRecovered letters (listed g a) own) later (listed_sub (MayBeRecovered letters (listed g a) own) b returned_then))
          (s.at_return (rw f.honest honest) (any (MayBeRecovered letters (listed g a) own) (gives g b) returned_then)));
    }

    module _ (counts_now : (d : D) (t : ℕ) (x : Files) → t ≤ g.moment d → g.crash_may_leave d x → g.crash_left_since d t x) where
      -- a call that begins no commit
      pub survives_alike : (a b : D) → g.honest b ≡ g.honest a → g.failures a ≤ g.failures b → (IsTrue (g.honest a) → CrashLeavesOnly g.moment g.crash_left_since a b (RecoversAlike (g.crash_may_leave a))) → SurvivesCrash letters g a b []
      survives_alike a b honest_same counted leaves = record {
        honest = honest_same;
        counted = counted;
        any_moment = λ honest recover.
            let l = leaves honest in record {
              later = l.later;
              each = λ given since. into recover given since.0 since.2 (l.each since.0 since.1);
              before = λ t given le since. ⊎_elim (λ past. inl (since.0, past, since.2)) (λ now. inr (into recover given since.0 since.2 now)) (l.before t since.0 le since.1);
            };
        at_return = λ honest recover given now.
            let l = leaves honest in into recover given now.0 now.2 (l.each now.0 (counts_now b (g.moment a) now.0 l.later now.1));
      }
        where
          into : AllGive AnyList (gives g a) → (given : Option (List ℕ)) (left : Files) → recovered left ≡ given → RecoversAlike (g.crash_may_leave a) left → IsGiven (listed g a) given
          into recover given left is alike =
              let same : recovered alike.0 ≡ given = sym alike.2 ∙ is in
              let one = recover given (alike.0, alike.1, same) in (one.0, one.1, (alike.0, alike.1, same ∙ one.1))

      -- a device that only rested
      pub survives_rest : (a b : D) → g.honest b ≡ g.honest a → g.failures a ≤ g.failures b → CrashLeavesOnly g.moment g.crash_left_since a b (g.crash_may_leave a) → SurvivesCrash letters g a b []
      survives_rest a b honest counted l = survives_alike a b honest counted (λ _. record {
        later = l.later;
        each = λ x since. (x, l.each x since, refl);
        before = λ t x le since. ⊎_elim (λ past. inl past) (λ now. inr (x, now, refl)) (l.before t x le since);
      })

      -- a commit: what might have been left before, or bytes that are found of its package; and such alone where it was answered Ok
      pub survives_commit : (a b : D) (m : BegunCommit) → g.honest b ≡ g.honest a → g.failures a ≤ g.failures b
          → (IsTrue (g.honest a) → CrashLeavesOnly g.moment (given_since g) a b (λ given. gives g a given ⊎ IsGiven (λ bytes. IsRecovered letters bytes m.held) given))
          → (m.done ≡ false) ⊎ (IsTrue (g.honest a) → (left : Files) → g.crash_may_leave b left → IsGiven (λ bytes. IsRecovered letters bytes m.held) (recovered left)) → SurvivesCrash letters g a b (m ∷ [])
      survives_commit a b m honest_same counted leaves outcome = record {
        honest = honest_same;
        counted = counted;
        any_moment = λ honest recover.
            let l = leaves honest in
            let into : (x : Option (List ℕ)) → (gives g a x ⊎ IsGiven (λ bytes. IsRecovered letters bytes m.held) x) → IsGiven (MayBeRecovered letters (listed g a) (begun m ∷ [])) x = λ x either.
            ⊎_elim (λ was. let one = recover x was in (one.0, one.1, inr (refl, subst (gives g a) one.1 was))) (λ new. (new.0, new.1, inl new.2)) either in
            record { later = l.later; each = λ x since. into x (l.each x since); before = λ t x le since. ⊎_elim (λ past. inl past) (λ now. inr (into x now)) (l.before t x le since) };
        at_return = λ honest recover x now.
            let l = leaves honest in
            ⊎_elim
            (λ undone. ⊎_elim (λ was. let one = recover x was in (one.0, one.1, inr (undone, subst (gives g a) one.1 was))) (λ new. (new.0, new.1, inl new.2)) (l.each x (now.0, counts_now b (g.moment a) now.0 l.later now.1, now.2)))
            (λ published. let one = published honest now.0 now.1 in (one.0, sym now.2 ∙ one.1, inl one.2)) outcome;
      }

      pub survives_stay : ((d : D) (x : Files) → g.crash_left_since d (g.moment d) x → g.crash_may_leave d x) → (a : D) → SurvivesCrash letters g a a []
      survives_stay only_now a = survives_rest a a refl (omega arith) (record { later = omega arith; each = λ x since. only_now a x since; before = λ t x le since. inl since })

    honest_last : (d : D) (events : List (Event letters g)) (marks : List BegunCommit) (last : D) → IsTrue (g.honest d) → Happen letters g d events marks last → IsTrue (g.honest last)
    honest_last d [] marks last honest happen = rw happen.0 honest
    honest_last d (returned own next ∷ events) marks last honest happen = honest_last next events happen.0 last (rw happen.1.honest honest) happen.2
    honest_last d (stopped own next after ∷ events) marks last honest happen = honest_last after events happen.0 last happen.2.honest happen.3

    -- the home file of a device that is settled is one of what may be found
    pub home_found : ((d : D) → IsTrue (g.honest d) → g.crash_may_leave d (g.content d)) → (d : D) (events : List (Event letters g)) (marks : List BegunCommit) (last : D) (lists : List ℕ → Type 0)
        → IsTrue (g.honest d) → AllGive lists (gives g d) → Happen letters g d events marks last → IsLogClosed g last → MayBeRecovered letters lists marks (g.content last).home
    home_found shows d events marks last lists honest all happen settled =
        let home = (g.content last).home in
        let one = survive d events marks last lists honest all happen (Some home) (g.content last, shows last (honest_last d events marks last honest happen), closed_gives (g.content last) settled.closed) in
        subst (MayBeRecovered letters lists marks) (some_same one.0 home (sym one.1)) one.2

pub own_list : {D : Type 0} (g : Ghosts D) (d : D) → AllGive AnyList (gives g d) → AllGive (listed g d) (gives g d)
own_list g d all = λ given from. let one = all given from in (one.0, one.1, subst (gives g d) one.1 from)

module _ {D : Type 0} (g : Ghosts D) (counts_now : (d : D) (t : ℕ) (x : Files) → t ≤ g.moment d → g.crash_may_leave d x → g.crash_left_since d t x) where
  -- reads after a recovery
  pub alike_then : (a b c : D) → CrashLeavesOnly g.moment g.crash_left_since a b (RecoversAlike (g.crash_may_leave a)) → CrashLeavesOnly g.moment g.crash_left_since b c (g.crash_may_leave b) → CrashLeavesOnly g.moment g.crash_left_since a c (RecoversAlike (g.crash_may_leave a))
  alike_then a b c f s = leaves_then g.moment g.crash_left_since a b c _ _ _ f s (λ x alike. alike) (λ x now. f.each x (counts_now b (g.moment a) x f.later now))

  -- what goes on with a device that was recovered, and only reads it
  pub begun_survives : (letters : CaseTable) (a b c : D) → g.honest b ≡ g.honest a → g.failures a ≤ g.failures b → (IsTrue (g.honest a) → CrashLeavesOnly g.moment g.crash_left_since a b (RecoversAlike (g.crash_may_leave a)))
      → g.honest c ≡ g.honest b → g.failures b ≤ g.failures c → CrashLeavesOnly g.moment g.crash_left_since b c (g.crash_may_leave b) → SurvivesCrash letters g a c []
  begun_survives letters a b c honest counted recovers later_honest later_counted later =
      survives_alike letters g counts_now a c (later_honest ∙ honest) (omega (arith, counted, later_counted)) (λ is. alike_then a b c (recovers is) later)
