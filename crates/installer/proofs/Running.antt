-- How commands go, one after another.
use Rattle.std.proofs.Common.{false, true, Bool, ◌≡◌, ◌-◌, ◌<◌, ℕ, zero, suc, map, length, take, drop, List, [], ◌∷◌, ◌++◌, refl, sym, ap, subst, ◌∙◌, arith, append_assoc}
use Rattle.std.proofs.lemmas.List.{append-nil, map-append}
use Rattle.std.specs.Prelude.{◌==◌, MatchBool}
use Rattle.std.proofs.lemmas.Bool.Decides.{nat_tests}
use Rattle.std.proofs.Math.ListN.{get_or}
use Rattle.cfb_medium.specs.declared.medium.ReadMedium.{Ghosts}
use Rattle.cfb_tree.specs.Names.{CaseTable}
use Rattle.command_file.specs.Request.{Request}
use Rattle.staged.specs.declared.device.Device as device
use Rattle.staged.specs.declared.staged.Staged.{Staged}
use Rattle.installer.proofs.Stopping.{survives_then}
use Rattle.installer.specs.Behaviour.{Behaves, Condition}
use Rattle.installer.specs.SessionStates.{SessionState, BegunCommit, Phase, SessionRuns, marks_of}
use Rattle.installer.specs.CommandRuns.{AreAnswered, FollowAll, RunsCommand}
use Rattle.installer.specs.Reply.{Reply}
use Rattle.installer.specs.Sessions.{condition_of, device_below, session_case_table}
use Rattle.installer.specs.CrashSurvival.{SurvivesCrash}
use Rattle.installer.specs.declared.session.SessionOver.{SessionOver}

runs_then : (letters : CaseTable) (start mid end : SessionState) (first second : List Request) (told later : List Reply) (own marks : List BegunCommit)
    → SessionRuns letters start first told own mid → SessionRuns letters mid second later marks end → SessionRuns letters start (first ++ second) (told ++ later) (own ++ marks) end
runs_then letters start mid end [] second [] later own marks a b =
    subst (λ ms. SessionRuns letters start second later ms end) (sym (ap (λ ms. ms ++ marks) a.0)) (subst (λ m. SessionRuns letters m second later marks end) a.1 b)
runs_then letters start mid end (r ∷ rs) second (p ∷ ps) later own marks a b = (
  a.0,
  a.1 ++ marks,
  a.2,
  runs_then letters a.0 mid end rs second ps later a.1 marks a.3 b,
  ap (λ ms. ms ++ marks) a.4 ∙ append_assoc (marks_of start r p a.0.phase) a.1 marks,
)
runs_then letters start mid end [] second (p ∷ ps) later own marks a b = absurd a
runs_then letters start mid end (r ∷ rs) second [] later own marks a b = absurd a

pub behaves_then : (old mid new : Condition) (first second : List Request) (told later : List Reply) → Behaves old first told mid → Behaves mid second later new → Behaves old (first ++ second) (told ++ later) new
behaves_then old mid new [] second [] later a b = subst (λ c. Behaves c second later new) a b
behaves_then old mid new (r ∷ rs) second (p ∷ ps) later a b = (a.0, a.1, behaves_then a.0 mid new rs second ps later a.2 b)
behaves_then old mid new [] second (p ∷ ps) later a b = absurd a
behaves_then old mid new (r ∷ rs) second [] later a b = absurd a

module _ {D : Type 0} {g : device.Ghosts D} {h : Ghosts (Staged D g)} where
  pub follow_none : (it : SessionOver (Staged D g) h) → SurvivesCrash (session_case_table it) g (device_below it) (device_below it) [] → FollowAll [] [] it it
  follow_none it stay = record { ran = λ start at. (start, [], (refl, refl), at, stay); letters = refl; behaves = refl; still = λ _. stay; sound = refl }

  pub follow_one : (request : Request) (reply : Reply) (old new : SessionOver (Staged D g) h) → RunsCommand request reply old new → FollowAll (request ∷ []) (reply ∷ []) old new
  follow_one request reply old new follows = record {
    ran = λ start at.
        let on = follows.goes start at in
        let marks = marks_of start request reply on.0.phase in
        let own = subst (λ (p : Phase). SurvivesCrash (session_case_table old) g (device_below old) (device_below new) (marks_of start request reply p)) (sym on.2.place.phase) (follows.survives start at) in
        (on.0, marks, (on.0, [], on.1, (refl, refl), sym (append-nil marks)), on.2, own);
    letters = follows.letters;
    behaves = (condition_of new, follows.behaves, refl);
    still = follows.still;
    sound = follows.sound;
  }

  pub follow_then : (first second : List Request) (told later : List Reply) (old mid new : SessionOver (Staged D g) h) → FollowAll first told old mid → FollowAll second later mid new → FollowAll (first ++ second) (told ++ later) old new
  follow_then first second told later old mid new a b = record {
    ran = λ start at.
        let before = a.ran start at in
        let on = b.ran before.0 before.3 in
        let runs = subst (λ (l : CaseTable). SessionRuns l before.0 second later on.1 on.0) a.letters on.2 in
        let own = subst (λ (l : CaseTable). SurvivesCrash l g (device_below mid) (device_below new) on.1) a.letters on.4 in (
          on.0,
          before.1 ++ on.1,
          runs_then (session_case_table old) start before.0 on.0 first second told later before.1 on.1 before.2 runs,
          on.3,
          survives_then (session_case_table old) g (device_below old) (device_below mid) (device_below new) before.1 on.1 before.4 own,
        );
    letters = b.letters ∙ a.letters;
    behaves = behaves_then (condition_of old) (condition_of mid) (condition_of new) first second told later a.behaves b.behaves;
    still = λ unsound.
        let own = subst (λ (l : CaseTable). SurvivesCrash l g (device_below mid) (device_below new) []) a.letters (b.still (a.sound ∙ unsound)) in
        survives_then (session_case_table old) g (device_below old) (device_below mid) (device_below new) [] [] (a.still unsound) own;
    sound = b.sound ∙ a.sound;
  }

-- ---- commands and the replies that stand behind those before

pub parts_make : {X : Type 0} (n : ℕ) (xs : List X) → take n xs ++ drop n xs ≡ xs
parts_make zero [] = refl
parts_make zero (x ∷ xs) = refl
parts_make (suc n) [] = refl
parts_make (suc n) (x ∷ xs) = ap (λ l. x ∷ l) (parts_make n xs)

take_length : {X : Type 0} (xs : List X) → take (length xs) xs ≡ xs
take_length [] = refl
take_length (x ∷ xs) = ap (λ l. x ∷ l) (take_length xs)

pub rest_of : {X : Type 0} (xs : List X) → take (length xs - 1) (drop 1 xs) ≡ drop 1 xs
rest_of [] = refl
rest_of (x ∷ xs) = (let one : length (x ∷ xs) - 1 ≡ length xs = omega arith in rw one (take_length xs))

pub some_left : {C : Type 0} (f : C → Request) (commands : List C) → (length commands == 0) ≡ false → 0 < length (map f commands)
some_left f [] some = absurd (cc some)
some_left f (x ∷ xs) some = omega arith

pub otherwise : (b : Bool) (P Q : Type 0) → b ≡ false → MatchBool b P Q → Q
otherwise false P Q is m = m
otherwise true P Q is m = absurd (cc is)

module _ {D : Type 0} {g : device.Ghosts D} {h : Ghosts (Staged D g)} {C : Type 0} (f : C → Request) where
  pub answered_none : (commands : List C) → (length commands == 0) ≡ true → (before : List Reply) (it : SessionOver (Staged D g) h) → SurvivesCrash (session_case_table it) g (device_below it) (device_below it) [] → AreAnswered (map f commands) before before it it
  answered_none [] none before it stay = ([], sym (append-nil before), follow_none it stay)
  answered_none (x ∷ xs) none before it stay = absurd (let never : length (x ∷ xs) ≡ 0 = grind (arith, nat_tests, none) in omega (arith, never))

  pub answered_one : (commands : List C) (x : C) → length commands ≡ 1 → x ≡ get_or commands 0 x → (before after : List Reply) (reply : Reply) (old new : SessionOver (Staged D g) h) → after ≡ before ++ reply ∷ [] → RunsCommand (f x) reply old new
      → AreAnswered (map f commands) before after old new
  answered_one [] x one is before after reply old new told follows = absurd (omega (arith, one))
  answered_one (y ∷ []) x one is before after reply old new told follows = (reply ∷ [], told, follow_one (f y) reply old new (subst (λ z. RunsCommand (f z) reply old new) is follows))
  answered_one (y ∷ z ∷ zs) x one is before after reply old new told follows = absurd (omega (arith, one))

  pub answered_then : (n : ℕ) (commands first second : List C) → first ≡ take n commands → second ≡ drop n commands → (before mid after : List Reply) (a b c : SessionOver (Staged D g) h) → AreAnswered (map f first) before mid a b
      → AreAnswered (map f second) mid after b c → AreAnswered (map f commands) before after a c
  answered_then n commands first second front back before mid after a b c one two =
      let whole : map f first ++ map f second ≡ map f commands = sym (map-append f first second) ∙ ap (map f) (ap (λ l. l ++ second) front ∙ ap (λ l. take n commands ++ l) back ∙ parts_make n commands) in (
        one.0 ++ two.0,
        two.1 ∙ ap (λ l. l ++ two.0) one.1 ∙ append_assoc before one.0 two.0,
        subst (λ requests. FollowAll requests (one.0 ++ two.0) a c) whole (follow_then (map f first) (map f second) one.0 two.0 a b c one.2 two.2),
      )

module _ {D : Type 0} {g : device.Ghosts D} {h : Ghosts (Staged D g)} where
  -- where nothing was told before
  pub told_alone : (requests : List Request) (before after : List Reply) (old new : SessionOver (Staged D g) h) → before ≡ [] → AreAnswered requests before after old new → FollowAll requests after old new
  told_alone requests before after old new none all = subst (λ replies. FollowAll requests replies old new) (sym (all.1 ∙ ap (λ l. l ++ all.0) none)) all.2
