-- Inserts into one table that are carried out as one.
use Rattle.std.proofs.Common.{◌≡◌, ◌<◌, ◌≤◌, ◌-◌, ◌^◌, ◌∙◌, ℕ, Bool, true, false, length, map, take, List, [], ◌∷◌, ◌++◌, inl, inr, refl, sym, ap, subst, arith, Ok, Err, Result}
use Rattle.std.specs.Prelude.{is_some, nat_lt}
use Rattle.std.proofs.lemmas.Bool.{both_ways}
use Rattle.std.proofs.lemmas.Bool.Decides.{nat_tests}
use Rattle.cfb_medium.specs.declared.error.Error.{Error}
use Rattle.cfb_medium.specs.declared.medium.ReadMedium.{Ghosts}
use Rattle.cfb_tree.specs.Names.{CaseTable}
use Rattle.command_file.specs.Request as asked
use Rattle.command_file.specs.Request.{Request, is_commit, is_roll_back}
use Rattle.msi.specs.Opened.{PackageHasContent}
use Rattle.msi_joined.proofs.Each.{each}
use Rattle.msi_joined.specs.Joined.{joined_rows, InsertsEach}
use Rattle.msi_spec.specs.Calls.{change, Change, EndsRefusedOrBy, Inserts}
use Rattle.msi_spec.specs.Package.{PackageContent}
use Rattle.msi_values.specs.Datum.{Datum}
use Rattle.staged.specs.declared.device.Device as device
use Rattle.staged.specs.declared.staged.Staged.{Staged}
use Rattle.installer.proofs.Following.{kept_quiet, marks_other}
use Rattle.installer.proofs.Going.{step_of_sound}
use Rattle.installer.proofs.Running.{follow_one}
use Rattle.installer.proofs.Stopping.{survives_then}
use Rattle.installer.specs.Behaviour.{Behaves, BehavesOnce, Condition, is_answer_to}
use Rattle.installer.specs.SessionStates.{base_after, over, failed, fails, broken, unchanged, baseless, led, marks_as, refuses, rolls, running, stays, steps, SessionState, CommandStep, SessionRollsBack, IsSessionFault, IsUndone, Phase, SessionRuns, StepAs}
use Rattle.installer.specs.CommandRuns.{FollowAll, RunsCommand, ResumesFrom}
use Rattle.installer.specs.Groups.{all_done, inserts_of}
use Rattle.installer.specs.Reply.{Reply}
use Rattle.installer.specs.Reply as told
use Rattle.installer.specs.Sessions.{condition_of, device_below, is_failed, is_sound, session_case_table, package_in, phase_of, SessionIsAt}
use Rattle.installer.specs.Step.{told_of, PackageStep}
use Rattle.installer.specs.CrashSurvival.{SurvivesCrash}
use Rattle.installer.specs.declared.session.SessionOver.{SessionOver}

pub never_both : (p : Phase) → p ≡ running → p ≡ failed → ⊥
never_both p a b = (let never : running ≡ failed = sym a ∙ b in cc never)

-- ---- one insert with other rows

-- what answers it doesn't hang on its rows
same_kind : (name : List ℕ) (rows others : List (List Datum)) (reply : Reply) → is_answer_to (asked.insert name others) reply ≡ is_answer_to (asked.insert name rows) reply
same_kind name rows others told.done = refl
same_kind name rows others (told.names ns) = refl
same_kind name rows others (told.rows ns rs) = refl
same_kind name rows others (told.columns cs) = refl
same_kind name rows others (told.bytes bs) = refl
same_kind name rows others (told.answers b) = refl
same_kind name rows others (told.summary ps) = refl
same_kind name rows others (told.codepage page) = refl
same_kind name rows others (told.refused e) = refl

-- nor does how it behaves
other_rows : (old new : Condition) (name : List ℕ) (rows others : List (List Datum)) (reply : Reply) → BehavesOnce old (asked.insert name rows) reply new → BehavesOnce old (asked.insert name others) reply new
other_rows old new name rows others reply b = record {
  kind = same_kind name rows others reply ∙ b.kind;
  ended = b.ended;
  live = b.live;
  device = b.device;
  reading = b.reading;
  codepage = b.codepage;
  unsound = b.unsound;
  writing = b.writing;
  sound = b.sound;
  counted = b.counted;
}

-- ---- all done

module _ (letters : CaseTable) (name : List ℕ) (end : SessionState) (goes_on : end.phase ≡ running) (sound : end.sound ≡ true) where
  abbrev with_held : PackageContent → SessionState
  with_held P = record end { held = P }

  goes_to : (start : SessionState) (rows : List (List Datum)) (Mid : PackageContent) → start.phase ≡ running → end.sound ≡ start.sound → end.base ≡ start.base → start.failures ≤ end.failures
      → Inserts start.held name rows Mid (Ok tt) → CommandStep letters start (asked.insert name rows) told.done (with_held Mid)
  goes_to start rows Mid was alike based fewer done =
      steps was (step_of_sound letters start.sound start.held Mid (asked.insert name rows) told.done (sym alike ∙ sound) (Ok tt, done, refl)) based goes_on alike fewer

  no_marks : (b : Bool) (P : PackageContent) (rows : List (List Datum)) (reply : Reply) (left : Phase) → [] ≡ marks_as b P (asked.insert name rows) reply left ++ []
  no_marks b P rows reply left = sym (ap (λ ms. ms ++ []) (marks_other b P (asked.insert name rows) reply left refl))

  runs_on : (P : PackageContent) (groups : List (List (List Datum))) → InsertsEach P name groups end.held → SessionRuns letters (with_held P) (inserts_of name groups) (all_done (inserts_of name groups)) [] end
  runs_on P [] is = (refl, ap with_held is)
  runs_on P (rows ∷ more) is = (with_held is.0, [], goes_to (with_held P) rows is.0 goes_on refl refl (omega arith) is.1, runs_on is.0 more is.2, no_marks end.sound P rows told.done end.phase)

  runs_done : (start : SessionState) (rows : List (List Datum)) (more : List (List (List Datum))) → start.phase ≡ running → end.sound ≡ start.sound → end.base ≡ start.base → start.failures ≤ end.failures
      → InsertsEach start.held name (rows ∷ more) end.held → SessionRuns letters start (inserts_of name (rows ∷ more)) (all_done (inserts_of name (rows ∷ more))) [] end
  runs_done start rows more was alike based fewer is =
      (with_held is.0, [], goes_to start rows is.0 was alike based fewer is.1, runs_on is.0 more is.2, no_marks start.sound start.held rows told.done end.phase)

-- each but the last finds the session as it was
behaves_done : (old new : Condition) (name : List ℕ) (all rows : List (List Datum)) (more : List (List (List Datum))) → old.failed ≡ false → old.sound ≡ true → BehavesOnce old (asked.insert name all) told.done new
    → Behaves old (inserts_of name (rows ∷ more)) (all_done (inserts_of name (rows ∷ more))) new
behaves_done old new name all rows [] live sound once = (new, other_rows old new name all rows told.done once, refl)
behaves_done old new name all rows (next ∷ more) live sound once = (
  old,
  record {
    kind = refl;
    ended = λ is _. absurd (both_ways old.failed live is);
    live = λ _ is. cc is;
    device = λ is. absurd (cc is);
    reading = λ _. refl;
    codepage = λ _ _ e is. cc is;
    unsound = λ _ is. absurd (both_ways old.sound is sound);
    writing = λ _ is. absurd (both_ways old.sound is sound);
    sound = refl;
    counted = omega arith;
  },
  behaves_done old new name all next more live sound once,
)

-- ---- a rule that refuses leaves the package

done_so : (answer : Result (Unit {0}) Error) → told.done ≡ told_of answer → answer ≡ Ok tt
done_so (Ok u) is = refl
done_so (Err e) is = absurd (cc is)

refused_keeps : (P Q : PackageContent) (name : List ℕ) (rows : List (List Datum)) (e : Error) (answer : Result (Unit {0}) Error) → told.refused e ≡ told_of answer → Inserts P name rows Q answer → Q ≡ P
refused_keeps P Q name rows e (Ok u) is inserts = absurd (cc is)
refused_keeps P Q name rows e (Err f) is inserts = on (change P name _) _ inserts
  where
    on : (r : Result Change Error) (Accepted : Change → Type 0) → EndsRefusedOrBy r P Q (Err f) Accepted → Q ≡ P
    on (Err d) Accepted ends = ends.0
    on (Ok x) Accepted ends = absurd (let never = ends.0 in cc never)

as_sound : (letters : CaseTable) (b : Bool) (P Q : PackageContent) (request : Request) (reply : Reply) → b ≡ true → StepAs b letters P request reply Q → PackageStep letters P request reply Q
as_sound letters true P Q request reply is step = step
as_sound letters false P Q request reply is step = absurd (cc is)

-- ---- a course that goes on though failures were counted meanwhile

module _ (letters : CaseTable) (start : SessionState) (n : ℕ) (fewer : start.failures ≤ n) where
  abbrev later : SessionState
  later = record start { failures = n }

  rise : (end : ℕ) → n ≤ end → (n < 2 ^ 64 - 1 → n < end) → start.failures < 2 ^ 64 - 1 → start.failures < end
  rise end more rises few = on (nat_lt n (2 ^ 64 - 1)) refl
    where
      on : (b : Bool) → nat_lt n (2 ^ 64 - 1) ≡ b → start.failures < end
      on true is = (let few_yet : n < 2 ^ 64 - 1 = grind (arith, nat_tests, is) in let more_yet = rises few_yet in omega (arith, more_yet, fewer))
      on false is = (let many : 2 ^ 64 - 1 ≤ n = grind (arith, nat_tests, is) in omega (arith, many, few, more))

  fault_before : (request : Request) (e : Error) (end : SessionState) → n ≤ end.failures → IsSessionFault later request e end → IsSessionFault start request e end
  fault_before request e end more (inl memory) = inl memory
  fault_before request e end more (inr (inl full)) = inr (inl full)
  fault_before request e end more (inr (inr device)) = inr (inr (device.0, rise end.failures more device.1))

  undone_before : (request : Request) (e : Error) (end : SessionState) → n ≤ end.failures → IsUndone later request e end → IsUndone start request e end
  undone_before request e end more (inr much) = inr much
  undone_before request e end more (inl fault) = inl (fault_before request e end more fault)

  base_alike : (request : Request) (reply : Reply) → base_after later request reply ≡ base_after start request reply
  base_alike asked.commit told.done = refl
  base_alike request reply = refl

  back_before : (reply : Reply) (end : SessionState) → start.phase ≡ running → SessionRollsBack later reply end → SessionRollsBack start reply end
  back_before reply end was (led sound is some held stored same counted) = led sound is some held stored same (omega (arith, counted, fewer))
  back_before reply end was (unchanged sound phase is same counted) = unchanged sound was is same (omega (arith, counted, fewer))
  back_before reply end was (baseless sound none phase is same counted) = baseless sound none was is same (omega (arith, counted, fewer))
  back_before reply end was (over none phase is same) = absurd (never_both start.phase was phase)
  back_before reply end was (broken e sound some is fit same counted) =
      broken e sound some is (λ B b f. fault_before asked.roll_back e end counted (fit B b f)) same (omega (arith, counted, fewer))

  pub goes_before : (request : Request) (reply : Reply) (end : SessionState) → start.phase ≡ running → CommandStep letters later request reply end → CommandStep letters start request reply end
  goes_before request reply end was (steps phase step based after sound counted) = steps was step (based ∙ base_alike request reply) after sound (omega (arith, counted, fewer))
  goes_before request reply end was (stays e phase is undone page same counted) = stays e was is (undone_before request e end counted undone) page same (omega (arith, counted, fewer))
  goes_before request reply end was (fails e phase is fault reads same base counted) = fails e was is (fault_before request e end counted fault) reads same base (omega (arith, counted, fewer))
  goes_before request reply end was (refuses phase other is same) = absurd (never_both start.phase was phase)
  goes_before request reply end was (rolls back goes) = rolls back (back_before reply end was goes)

-- ---- sessions

module _ {D : Type 0} {g : device.Ghosts D} {h : Ghosts (Staged D g)} where
  -- nothing was changed, though failures of the device may have been counted
  pub record StandsStill (old mid : SessionOver (Staged D g) h) : Type 0 where
    pub place : (start : SessionState) → SessionIsAt old start → (n : ℕ) × (start.failures ≤ n) × SessionIsAt mid (record start { failures = n }) × SurvivesCrash (session_case_table old) g (device_below old) (device_below mid) []
    pub live : is_failed old ≡ false
    pub live_yet : is_failed mid ≡ false
    pub letters : session_case_table mid ≡ session_case_table old
    pub is_sound_then : is_sound old ≡ true
    pub sound : is_sound mid ≡ is_sound old
    pub counted : (condition_of old).failures ≤ (condition_of mid).failures

  pub behaves_before : (old mid : SessionOver (Staged D g) h) → StandsStill old mid → (request : Request) (reply : Reply) (new : Condition) → BehavesOnce (condition_of mid) request reply new → BehavesOnce (condition_of old) request reply new
  behaves_before old mid s request reply new b = record {
    kind = b.kind;
    ended = λ is _. absurd (both_ways (is_failed old) s.live is);
    live = λ _. b.live s.live_yet;
    device = λ is. rises (condition_of old).failures (condition_of mid).failures new.failures s.counted b.counted (b.device is);
    reading = λ is. b.reading is ∙ s.live_yet ∙ sym s.live;
    codepage = λ _. b.codepage s.live_yet;
    unsound = λ _ is. absurd (both_ways (is_sound old) is s.is_sound_then);
    writing = λ _ is. absurd (both_ways (is_sound old) is s.is_sound_then);
    sound = b.sound ∙ s.sound;
    counted = (let one = s.counted in let two = b.counted in omega (arith, one, two));
  }
    where
      rises : (a b c : ℕ) → a ≤ b → b ≤ c → (b < 2 ^ 64 - 1 → b < c) → a < 2 ^ 64 - 1 → a < c
      rises a b c one two three few = on (nat_lt b (2 ^ 64 - 1)) refl
        where
          on : (t : Bool) → nat_lt b (2 ^ 64 - 1) ≡ t → a < c
          on true is = (let few_yet : b < 2 ^ 64 - 1 = grind (arith, nat_tests, is) in let more_yet = three few_yet in omega (arith, more_yet, one))
          on false is = (let many : 2 ^ 64 - 1 ≤ b = grind (arith, nat_tests, is) in omega (arith, many, few, two))

  was_running : (old : SessionOver (Staged D g) h) (start : SessionState) → is_failed old ≡ false → SessionIsAt old start → start.phase ≡ running
  was_running old start live at = at.place.phase ∙ ap phase_of live

  stands_then : (old mid new : SessionOver (Staged D g) h) → StandsStill old mid → (requests : List Request) (replies : List Reply) → 0 < length requests → FollowAll requests replies mid new → FollowAll requests replies old new
  stands_then old mid new s [] replies some all = absurd (omega (arith, some))
  stands_then old mid new s (r ∷ rs) [] some all = absurd all.behaves
  stands_then old mid new s (r ∷ rs) (p ∷ ps) some all = record {
    ran = λ start at.
        let there = s.place start at in
        let on = all.ran (record start { failures = there.0 }) there.2 in
        let runs = subst (λ (l : CaseTable). SessionRuns l (record start { failures = there.0 }) (r ∷ rs) (p ∷ ps) on.1 on.0) s.letters on.2 in
        let own = subst (λ (l : CaseTable). SurvivesCrash l g (device_below mid) (device_below new) on.1) s.letters on.4 in (
          on.0,
          on.1,
          (runs.0, runs.1, goes_before (session_case_table old) start there.0 there.1 r p runs.0 (was_running old start s.live at) runs.2, runs.3, runs.4),
          on.3,
          survives_then (session_case_table old) g (device_below old) (device_below mid) (device_below new) [] on.1 there.3 own,
        );
    letters = all.letters ∙ s.letters;
    behaves = (let b = all.behaves in (b.0, behaves_before old mid s r p b.0 b.1, b.2));
    still = λ unsound. absurd (both_ways (is_sound old) unsound s.is_sound_then);
    sound = all.sound ∙ s.sound;
  }

  -- so it is where a command has left the package
  pub stands_by : (old new : SessionOver (Staged D g) h) (request : Request) (reply : Reply) → is_failed old ≡ false → is_failed new ≡ false → is_sound old ≡ true → is_commit request ≡ false → is_roll_back request ≡ false
      → RunsCommand request reply old new
      → ((start end : SessionState) → SessionIsAt old start → SessionIsAt new end → CommandStep (session_case_table old) start request reply end → (start.failures ≤ end.failures) × (end.held ≡ start.held)) → StandsStill old new
  stands_by old new request reply live lives sound other unrolled follows held = record {
    place = λ start at.
        let on = follows.goes start at in
        let same = kept_quiet (session_case_table old) start on.0 request reply other unrolled on.1 in
        let kept = held start on.0 at on.2 on.1 in (
          on.0.failures,
          kept.0,
          record {
            place = record {
              phase = was_running old start live at ∙ sym (ap phase_of lives);
              held = λ _. subst (λ P. PackageHasContent (package_in new) P) kept.1 (on.2.place.held (was_running new on.0 lives on.2));
              failures = on.2.place.failures;
              sound = at.place.sound ∙ sym follows.sound;
            };
            based = ap is_some (sym same.0) ∙ on.2.based;
            base = λ is B b. on.2.base (same.1 ∙ is) B (same.0 ∙ b);
          },
          subst (λ ms. SurvivesCrash (session_case_table old) g (device_below old) (device_below new) ms) (marks_other start.sound start.held request reply (phase_of (is_failed new)) other) (follows.survives start at),
        );
    live = live;
    live_yet = lives;
    letters = follows.letters;
    is_sound_then = sound;
    sound = follows.sound;
    counted = follows.behaves.counted;
  }

  module _ (old new : SessionOver (Staged D g) h) (name : List ℕ) (all : List (List Datum)) (live : is_failed old ≡ false) (sound : is_sound old ≡ true) where
    no_marks_left : (reply : Reply) → RunsCommand (asked.insert name all) reply old new → (start : SessionState) → SessionIsAt old start → SurvivesCrash (session_case_table old) g (device_below old) (device_below new) []
    no_marks_left reply follows start at = subst (λ ms. SurvivesCrash (session_case_table old) g (device_below old) (device_below new) ms) (marks_other start.sound start.held (asked.insert name all) reply (phase_of (is_failed new)) refl) (follows.survives start at)

    -- ---- refused, and the session lives

    held_yet : (e : Error) (start end : SessionState) → SessionIsAt old start → SessionIsAt new end → is_failed new ≡ false → CommandStep (session_case_table old) start (asked.insert name all) (told.refused e) end → (start.failures ≤ end.failures) × (end.held ≡ start.held)
    held_yet e start end at there lives (steps phase step based after alike counted) =
        let it = as_sound (session_case_table old) start.sound start.held end.held (asked.insert name all) (told.refused e) (at.place.sound ∙ sound) step in
        (counted, refused_keeps start.held end.held name all e it.0 it.2 it.1)
    held_yet e start end at there lives (stays f phase is undone page same counted) = (counted, ap (λ (c : SessionState). c.held) same)
    held_yet e start end at there lives (fails f phase is undone reads same base counted) = absurd (never_both end.phase (was_running new end lives there) (ap (λ (c : SessionState). c.phase) same))
    held_yet e start end at there lives (refuses phase other is same) = absurd (never_both start.phase (was_running old start live at) phase)
    held_yet e start end at there lives (rolls back goes) = absurd (cc back)

    pub stands_still : (e : Error) → RunsCommand (asked.insert name all) (told.refused e) old new → is_failed new ≡ false → StandsStill old new
    stands_still e follows lives =
        stands_by old new (asked.insert name all) (told.refused e) live lives sound refl refl follows (λ start end at there. held_yet e start end at there lives)

    pub goes_on_from : (e : Error) → RunsCommand (asked.insert name all) (told.refused e) old new → is_failed new ≡ false → ResumesFrom old new
    goes_on_from e follows lives requests replies last some then = stands_then old new last (stands_still e follows lives) requests replies some then

    -- ---- the session has failed by it

    goes_first : (e : Error) (rows : List (List Datum)) (start end : SessionState) → SessionIsAt new end → is_failed new ≡ true → start.phase ≡ running → CommandStep (session_case_table old) start (asked.insert name all) (told.refused e) end
        → CommandStep (session_case_table old) start (asked.insert name rows) (told.refused e) end
    goes_first e rows start end there ended was (steps phase step based after alike counted) = absurd (never_both end.phase after (there.place.phase ∙ ap phase_of ended))
    goes_first e rows start end there ended was (stays f phase is undone page same counted) = absurd (never_both end.phase (ap (λ (c : SessionState). c.phase) same ∙ was) (there.place.phase ∙ ap phase_of ended))
    goes_first e rows start end there ended was (fails f phase is undone reads same base counted) = fails f phase is undone refl same base counted
    goes_first e rows start end there ended was (refuses phase other is same) = refuses phase refl is same
    goes_first e rows start end there ended was (rolls back goes) = absurd (cc back)

    pub first_fails : (e : Error) (rows : List (List Datum)) → RunsCommand (asked.insert name all) (told.refused e) old new → is_failed new ≡ true → RunsCommand (asked.insert name rows) (told.refused e) old new
    first_fails e rows follows ended = record {
      goes = λ start at. (let on = follows.goes start at in (on.0, goes_first e rows start on.0 on.2 ended (was_running old start live at) on.1, on.2));
      letters = follows.letters;
      sound = follows.sound;
      behaves = other_rows (condition_of old) (condition_of new) name all rows (told.refused e) follows.behaves;
      still = follows.still;
      survives = λ start at. rw (marks_other start.sound start.held (asked.insert name rows) (told.refused e) (phase_of (is_failed new)) refl) (no_marks_left (told.refused e) follows start at);
    }

  -- ---- done

  module _ (old new : SessionOver (Staged D g) h) (name : List ℕ) (rows : List (List Datum)) (more : List (List (List Datum))) (live : is_failed old ≡ false) (sound : is_sound old ≡ true) where
    runs_all : (start end : SessionState) → SessionIsAt old start → CommandStep (session_case_table old) start (asked.insert name (joined_rows (rows ∷ more))) told.done end
        → SessionRuns (session_case_table old) start (inserts_of name (rows ∷ more)) (all_done (inserts_of name (rows ∷ more))) [] end
    runs_all start end at (steps phase step based after alike counted) =
        let it = as_sound (session_case_table old) start.sound start.held end.held (asked.insert name (joined_rows (rows ∷ more))) told.done (at.place.sound ∙ sound) step in
        let inserts = subst (λ a. Inserts start.held name (joined_rows (rows ∷ more)) end.held a) (done_so it.0 it.2) it.1 in
        let texts = ((at.place.held phase).sound sound).1.counted in
        runs_done (session_case_table old) name end after (alike ∙ at.place.sound ∙ sound) start rows more phase alike based counted (each start.held texts name rows more end.held inserts)
    runs_all start end at (stays e phase is undone page same counted) = absurd (cc is)
    runs_all start end at (fails e phase is undone reads same base counted) = absurd (cc is)
    runs_all start end at (refuses phase other is same) = absurd (cc is)
    runs_all start end at (rolls back goes) = absurd (cc back)

    pub all_follow : RunsCommand (asked.insert name (joined_rows (rows ∷ more))) told.done old new → FollowAll (inserts_of name (rows ∷ more)) (all_done (inserts_of name (rows ∷ more))) old new
    all_follow follows = record {
      ran = λ start at.
          let on = follows.goes start at in
          (on.0, [], runs_all start on.0 at on.1, on.2, no_marks_left old new name (joined_rows (rows ∷ more)) live sound told.done follows start at);
      letters = follows.letters;
      behaves = behaves_done (condition_of old) (condition_of new) name (joined_rows (rows ∷ more)) rows more live sound follows.behaves;
      still = follows.still;
      sound = follows.sound;
    }

-- ---- what is said of commands that were put together

heads : {X : Type 0} (x y : X) (xs ys : List X) → x ∷ xs ≡ y ∷ ys → x ≡ y
heads x y xs ys is = cc is

module _ {D : Type 0} {g : device.Ghosts D} {h : Ghosts (Staged D g)} {C : Type 0} (f : C → Request) (old new : SessionOver (Staged D g) h) (name : List ℕ) (all : List (List Datum)) (live : is_failed old ≡ false) (sound : is_sound old ≡ true) where
  pub done_all : (commands : List C) (groups : List (List (List Datum))) → 0 < length commands → map f commands ≡ inserts_of name groups → all ≡ joined_rows groups → RunsCommand (asked.insert name all) told.done old new
      → FollowAll (map f commands) (all_done (map f commands)) old new
  done_all [] groups some are is follows = absurd (omega (arith, some))
  done_all (c ∷ cs) [] some are is follows = absurd (cc are)
  done_all (c ∷ cs) (rows ∷ more) some are is follows =
      let one = subst (λ l. RunsCommand (asked.insert name l) told.done old new) is follows in
      subst (λ requests. FollowAll requests (all_done requests) old new) (sym are) (all_follow old new name rows more live sound one)

  pub first_failed : (e : Error) (commands : List C) (groups : List (List (List Datum))) → 0 < length commands → map f commands ≡ inserts_of name groups → RunsCommand (asked.insert name all) (told.refused e) old new → is_failed new ≡ true
      → FollowAll (map f (take 1 commands)) (told.refused e ∷ []) old new
  first_failed e [] groups some are follows ended = absurd (omega (arith, some))
  first_failed e (c ∷ cs) [] some are follows ended = absurd (cc are)
  first_failed e (c ∷ cs) (rows ∷ more) some are follows ended =
      let one : f c ≡ asked.insert name rows = heads (f c) (asked.insert name rows) (map f cs) (inserts_of name more) are in
      subst (λ request. FollowAll (request ∷ []) (told.refused e ∷ []) old new) (sym one) (follow_one (asked.insert name rows) (told.refused e) old new (first_fails old new name all live sound e rows follows ended))
