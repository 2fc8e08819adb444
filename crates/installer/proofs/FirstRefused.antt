-- Commands that are run up to the first refusal.
use Rattle.std.proofs.Common.{false, true, Bool, not, ◌≡◌, ◌||◌, ◌<◌, map, length, take, drop, List, [], ◌∷◌, ◌++◌, inl, inr, refl, sym, ap, subst, ◌∙◌, arith, append_assoc}
use Rattle.std.proofs.lemmas.List.{append-nil, map-append}
use Rattle.std.proofs.lemmas.Bool.Decides.{nat_tests}
use Rattle.std.specs.Prelude.{◌==◌, MatchBool, ℕ}
use Rattle.std.proofs.Math.ListN.{get_or}
use Rattle.cfb_medium.specs.declared.error.Error.{Error}
use Rattle.cfb_medium.specs.declared.medium.ReadMedium.{Ghosts}
use Rattle.command_file.specs.Request.{Request}
use Rattle.staged.specs.declared.device.Device as device
use Rattle.staged.specs.declared.staged.Staged.{Staged}
use Rattle.installer.proofs.Running.{answered_none, follow_one, follow_then, parts_make}
use Rattle.installer.specs.Behaviour.{Behaves, Condition}
use Rattle.installer.specs.CommandRuns.{FollowAll, ResumesFrom, RunsCommand}
use Rattle.installer.specs.FirstRefusal.{AnswersToRefusal, LastIsRefused, RunsToRefusal, StopsAtRefusal, StopsBy, any_refusal}
use Rattle.installer.specs.Groups.{all_done}
use Rattle.installer.specs.Reply.{Reply, is_refusal}
use Rattle.installer.specs.Reply as told
use Rattle.installer.specs.Sessions.{condition_of, device_below, session_case_table}
use Rattle.installer.specs.CrashSurvival.{SurvivesCrash}
use Rattle.installer.specs.declared.session.SessionOver.{SessionOver}

refusal_is : (reply : Reply) → is_refusal reply ≡ true → (e : Error) × (reply ≡ told.refused e)
refusal_is (told.refused e) is = (e, refl)
refusal_is reply is = absurd (cc is)

first_of_both : (a b : Bool) → (a || b) ≡ false → a ≡ false
first_of_both false b none = refl
first_of_both true b none = absurd (cc none)

second_of_both : (a b : Bool) → (a || b) ≡ false → b ≡ false
second_of_both false b none = none
second_of_both true b none = absurd (cc none)

pub none_of_both : (front back : List Reply) → any_refusal front ≡ false → any_refusal back ≡ false → any_refusal (front ++ back) ≡ false
none_of_both [] back a b = b
none_of_both (r ∷ rs) back a b =
    let own : is_refusal r ≡ false = first_of_both (is_refusal r) (any_refusal rs) a in
    let rest = none_of_both rs back (second_of_both (is_refusal r) (any_refusal rs) a) b in
    rw own rest

pub any_of_last : (before : List Reply) (e : Error) → any_refusal (before ++ told.refused e ∷ []) ≡ true
any_of_last [] e = refl
any_of_last (r ∷ rs) e = (let rest = any_of_last rs e in or_true (is_refusal r) (any_refusal (rs ++ told.refused e ∷ [])) rest)
  where
    or_true : (a b : Bool) → b ≡ true → (a || b) ≡ true
    or_true true b is = refl
    or_true false b is = is

pub last_behind : (front back : List Reply) → any_refusal front ≡ false → LastIsRefused back → LastIsRefused (front ++ back)
last_behind front back none last = record {
  before = front ++ last.before;
  error = last.error;
  last = ap (λ (l : List Reply). front ++ l) last.last ∙ sym (append_assoc front last.before (told.refused last.error ∷ []));
  others = none_of_both front last.before none last.others;
}

none_of_done : (requests : List Request) → any_refusal (all_done requests) ≡ false
none_of_done [] = refl
none_of_done (r ∷ rs) = none_of_done rs

stops_one : (reply : Reply) (refused : Bool) → refused ≡ is_refusal reply → StopsBy (not refused) [] (reply ∷ [])
stops_one reply true is = (let of = refusal_is reply (sym is) in record { before = []; error = of.0; last = ap (λ (r : Reply). r ∷ []) of.1; others = refl })
stops_one reply false is = (refl, rw (sym is) refl)

stops_then : (none : Bool) (rest : List Request) (front back : List Reply) → any_refusal front ≡ false → StopsBy none rest back → StopsBy none rest (front ++ back)
stops_then true rest front back a stops = (stops.0, none_of_both front back a stops.1)
stops_then false rest front back a stops = last_behind front back a stops

pub certainly : (b : Bool) (P Q : Type 0) → b ≡ true → MatchBool b P Q → P
certainly true P Q is m = m
certainly false P Q is m = absurd (cc is)

nothing_behind : (replies : List Reply) (last : Reply) → [] ≡ replies ++ last ∷ [] → ⊥
nothing_behind [] last is = cc is
nothing_behind (r ∷ rs) last is = cc is

ran_some : (ran : List Request) (replies : List Reply) (old new : Condition) → Behaves old ran replies new → LastIsRefused replies → 0 < length ran
ran_some (r ∷ rs) replies old new behaves last = omega arith
ran_some [] [] old new behaves last = absurd (nothing_behind last.before (told.refused last.error) last.last)
ran_some [] (p ∷ ps) old new behaves last = absurd behaves

-- commands that are cut in two
joined : {C : Type 0} (f : C → Request) (n : ℕ) (commands first second : List C) → first ≡ take n commands → second ≡ drop n commands → map f commands ≡ map f first ++ map f second
joined f n commands first second front back =
    sym (sym (map-append f first second) ∙ ap (map f) (ap (λ l. l ++ second) front ∙ ap (λ l. take n commands ++ l) back ∙ parts_make n commands))

module _ {D : Type 0} {g : device.Ghosts D} {h : Ghosts (Staged D g)} where
  some_then : (none : Bool) (requests : List Request) (before after : List Reply) (old new : SessionOver (Staged D g) h) → 0 < length requests → (a : AnswersToRefusal none requests before after old new) → 0 < length a.ran
  some_then true requests before after old new some a = subst (λ (l : List Request). 0 < length l) (a.parts ∙ ap (λ (l : List Request). a.ran ++ l) a.stops.0 ∙ append-nil a.ran) some
  some_then false requests before after old new some a = ran_some a.ran a.replies (condition_of old) (condition_of new) a.follow.behaves a.stops

  -- the same from a session from which commands go on as from the second
  pub refused_before : (none : Bool) (requests : List Request) (before after : List Reply) (first old new : SessionOver (Staged D g) h) → 0 < length requests → ResumesFrom first old → AnswersToRefusal none requests before after old new
      → AnswersToRefusal none requests before after first new
  refused_before none requests before after first old new some resumes a = record {
    ran = a.ran;
    rest = a.rest;
    parts = a.parts;
    replies = a.replies;
    behind = a.behind;
    follow = resumes a.ran a.replies new (some_then none requests before after old new some a) a.follow;
    stops = a.stops;
  }

  -- by what was told of it
  pub refused_as : (none : Bool) (requests : List Request) (before after : List Reply) (old new : SessionOver (Staged D g) h) → none ≡ false → AnswersToRefusal none requests before after old new → AnswersToRefusal false requests before after old new
  refused_as false requests before after old new is a = a
  refused_as true requests before after old new is a = absurd (cc is)

  pub passed_as : (none : Bool) (requests : List Request) (before after : List Reply) (old new : SessionOver (Staged D g) h) → none ≡ true → AnswersToRefusal none requests before after old new → AnswersToRefusal true requests before after old new
  passed_as true requests before after old new is a = a
  passed_as false requests before after old new is a = absurd (cc is)

  -- where nothing was told before
  pub refused_alone : (none : Bool) (requests : List Request) (before after : List Reply) (old new : SessionOver (Staged D g) h) → before ≡ [] → AnswersToRefusal none requests before after old new → RunsToRefusal requests after old new
  refused_alone none requests before after old new nothing a =
      let same : a.replies ≡ after = sym (a.behind ∙ ap (λ (l : List Reply). l ++ a.replies) nothing) in
      subst (λ (replies : List Reply). RunsToRefusal requests replies old new) same (record { ran = a.ran; rest = a.rest; parts = a.parts; follow = a.follow; stops = either none a.rest a.replies a.stops })
    where
      either : (b : Bool) (rest : List Request) (replies : List Reply) → StopsBy b rest replies → StopsAtRefusal rest replies
      either true rest replies stops = inl stops
      either false rest replies stops = inr stops

  module _ {C : Type 0} (f : C → Request) where
    pub refused_none : (commands : List C) → (length commands == 0) ≡ true → (before : List Reply) (it : SessionOver (Staged D g) h) → SurvivesCrash (session_case_table it) g (device_below it) (device_below it) [] → AnswersToRefusal true (map f commands) before before it it
    refused_none commands none before it stay =
        let all = answered_none f commands none before it stay in
        record { ran = map f commands; rest = []; parts = sym (append-nil (map f commands)); replies = all.0; behind = all.1; follow = all.2; stops = (refl, quiet commands all.0 all.2.behaves none) }
      where
        quiet : (xs : List C) (replies : List Reply) → Behaves (condition_of it) (map f xs) replies (condition_of it) → (length xs == 0) ≡ true → any_refusal replies ≡ false
        quiet [] [] behaves none = refl
        quiet [] (p ∷ ps) behaves none = absurd behaves
        quiet (x ∷ xs) replies behaves none = absurd (let never : length (x ∷ xs) ≡ 0 = grind (arith, nat_tests, none) in omega (arith, never))

    pub refused_one : (commands : List C) (x : C) → length commands ≡ 1 → x ≡ get_or commands 0 x → (before after : List Reply) (reply : Reply) (refused : Bool) (old new : SessionOver (Staged D g) h) → after ≡ before ++ reply ∷ [] → refused ≡ is_refusal reply
        → RunsCommand (f x) reply old new → AnswersToRefusal (not refused) (map f commands) before after old new
    refused_one [] x one is before after reply refused old new told same follows = absurd (omega (arith, one))
    refused_one (y ∷ z ∷ zs) x one is before after reply refused old new told same follows = absurd (omega (arith, one))
    refused_one (y ∷ []) x one is before after reply refused old new told same follows = record {
      ran = f y ∷ [];
      rest = [];
      parts = refl;
      replies = reply ∷ [];
      behind = told;
      follow = follow_one (f y) reply old new (subst (λ (z : C). RunsCommand (f z) reply old new) is follows);
      stops = stops_one reply refused same;
    }

    pub refused_done : (commands : List C) (before after : List Reply) (old new : SessionOver (Staged D g) h) → after ≡ before ++ all_done (map f commands) → FollowAll (map f commands) (all_done (map f commands)) old new
        → AnswersToRefusal true (map f commands) before after old new
    refused_done commands before after old new told follow =
        record { ran = map f commands; rest = []; parts = sym (append-nil (map f commands)); replies = all_done (map f commands); behind = told; follow = follow; stops = (refl, none_of_done (map f commands)) }

    module _ (n : ℕ) (commands first second : List C) (front : first ≡ take n commands) (back : second ≡ drop n commands) where
      pub refused_then : (none : Bool) (before mid after : List Reply) (a b c : SessionOver (Staged D g) h) → AnswersToRefusal true (map f first) before mid a b → AnswersToRefusal none (map f second) mid after b c
          → AnswersToRefusal none (map f commands) before after a c
      refused_then none before mid after a b c one two =
          let own : map f first ≡ one.ran = one.parts ∙ ap (λ (l : List Request). one.ran ++ l) one.stops.0 ∙ append-nil one.ran in
          record {
            ran = one.ran ++ two.ran;
            rest = two.rest;
            parts = joined f n commands first second front back ∙ ap (λ (l : List Request). l ++ map f second) own ∙ ap (λ (l : List Request). one.ran ++ l) two.parts ∙ sym (append_assoc one.ran two.ran two.rest);
            replies = one.replies ++ two.replies;
            behind = two.behind ∙ ap (λ (l : List Reply). l ++ two.replies) one.behind ∙ append_assoc before one.replies two.replies;
            follow = follow_then one.ran two.ran one.replies two.replies a b c one.follow two.follow;
            stops = stops_then none two.rest one.replies two.replies one.stops.1 two.stops;
          }

      pub refused_first : (before mid : List Reply) (a b : SessionOver (Staged D g) h) → AnswersToRefusal false (map f first) before mid a b → AnswersToRefusal false (map f commands) before mid a b
      refused_first before mid a b one = record {
        ran = one.ran;
        rest = one.rest ++ map f second;
        parts = joined f n commands first second front back ∙ ap (λ (l : List Request). l ++ map f second) one.parts ∙ append_assoc one.ran one.rest (map f second);
        replies = one.replies;
        behind = one.behind;
        follow = one.follow;
        stops = one.stops;
      }

      -- the first of them failed
      pub refused_failed : (before after : List Reply) (e : Error) (a b : SessionOver (Staged D g) h) → after ≡ before ++ told.refused e ∷ [] → FollowAll (map f first) (told.refused e ∷ []) a b → AnswersToRefusal false (map f commands) before after a b
      refused_failed before after e a b is follow = record {
        ran = map f first;
        rest = map f second;
        parts = joined f n commands first second front back;
        replies = told.refused e ∷ [];
        behind = is;
        follow = follow;
        stops = record { before = []; error = e; last = refl; others = refl };
      }
