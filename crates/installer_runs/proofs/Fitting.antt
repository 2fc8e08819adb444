-- Commits that are kept back among commands that are followed.
use Rattle.std.proofs.lemmas.Bool.{both_ways}
use Rattle.std.proofs.Common.{arith, ◌≡◌, ◌∙◌, ◌↔◌, ◌||◌, Bool, true, false, not, List, [], ◌∷◌, ◌++◌, inl, inr, ⊎_elim, refl, sym, ap, subst, append_assoc}
use Rattle.std.specs.Prelude.{IsTrue}
use Rattle.cfb_medium.specs.declared.error.Error.TheVariants.{InvalidInput}
use Rattle.cfb_medium.specs.declared.medium.ReadMedium as medium
use Rattle.cfb_tree.specs.Names.{CaseTable}
use Rattle.command_file.specs.Request.{Request, is_commit}
use Rattle.command_file.specs.Request as asked
use Rattle.installer.proofs.Running.{behaves_then}
use Rattle.installer.proofs.Stopping.{survives_then}
use Rattle.installer.specs.SessionStates.{SessionState, BegunCommit, SessionRuns, marks_of, running}
use Rattle.installer.specs.CommandRuns.{FollowAll}
use Rattle.installer.specs.Reply.{Reply}
use Rattle.installer.specs.Reply as told
use Rattle.installer.specs.Sessions.{condition_of, device_below, is_failed, is_sound, session_case_table, package_in, phase_of, SessionIsAt}
use Rattle.installer.specs.CrashSurvival.{SurvivesCrash}
use Rattle.installer.specs.declared.session.SessionOver.{SessionOver}
use Rattle.installer_runs.specs.Runs.{has_commit, CommitsFit, GoesFit, IsSlice, KeepsBack, LetsPass, RunsFit}
use Rattle.msi.specs.Changing.{PackageCanBeWritten}
use Rattle.msi.specs.Opened.{PackageHasContent}
use Rattle.msi_spec.specs.Package.{PackageContent}
use Rattle.staged.specs.declared.device.Device.{Ghosts}
use Rattle.staged.specs.declared.staged.Staged.{Staged}

fit_then : (letters : CaseTable) (start mid end : SessionState) (first second : List Request) (told later : List Reply) (own marks : List BegunCommit)
    → RunsFit letters start first told own mid → RunsFit letters mid second later marks end → RunsFit letters start (first ++ second) (told ++ later) (own ++ marks) end
fit_then letters start mid end [] second [] later own marks a b =
    subst (λ ms. RunsFit letters start second later ms end) (sym (ap (λ ms. ms ++ marks) a.0)) (subst (λ m. RunsFit letters m second later marks end) a.1 b)
fit_then letters start mid end (r ∷ rs) second (p ∷ ps) later own marks a b =
    ⊎_elim (λ kept. inl (kept.0, fit_then letters start mid end rs second ps later own marks kept.1 b))
    (λ on. inr (
      on.0,
      on.1 ++ marks,
      on.2,
      on.3,
      fit_then letters on.0 mid end rs second ps later on.1 marks on.4 b,
      ap (λ ms. ms ++ marks) on.5 ∙ append_assoc (marks_of start r p on.0.phase) on.1 marks,
    )) a
fit_then letters start mid end [] second (p ∷ ps) later own marks a b = absurd a
fit_then letters start mid end (r ∷ rs) second [] later own marks a b = absurd a

no_first : (a b : Bool) → (a || b) ≡ false → a ≡ true → ⊥
no_first true b none is = cc none
no_first false b none is = cc is

no_rest : (a b : Bool) → (a || b) ≡ false → b ≡ false
no_rest true b none = absurd (cc none)
no_rest false b none = none

-- none of them commits
runs_without : (letters : CaseTable) (start end : SessionState) (requests : List Request) (replies : List Reply) (marks : List BegunCommit) → has_commit requests ≡ false → SessionRuns letters start requests replies marks end → RunsFit letters start requests replies marks end
runs_without letters start end [] [] marks none runs = runs
runs_without letters start end (r ∷ rs) (p ∷ ps) marks none runs =
    inr (runs.0, runs.1, runs.2, (λ commit _ _. absurd (no_first (is_commit r) (has_commit rs) none commit)), runs_without letters runs.0 end rs ps runs.1 (no_rest (is_commit r) (has_commit rs) none) runs.3, runs.4)
runs_without letters start end [] (p ∷ ps) marks none runs = absurd runs
runs_without letters start end (r ∷ rs) [] marks none runs = absurd runs

-- one commits, of a package whose texts fit
runs_one : (letters : CaseTable) (start end : SessionState) (r : Request) (replies : List Reply) (marks : List BegunCommit) → CommitsFit start r → SessionRuns letters start (r ∷ []) replies marks end → RunsFit letters start (r ∷ []) replies marks end
runs_one letters start end r [] marks fit runs = absurd runs
runs_one letters start end r (p ∷ ps) marks fit runs = inr (runs.0, runs.1, runs.2, fit, runs_without letters runs.0 end [] ps runs.1 refl runs.3, runs.4)

is_live : (b : Bool) → phase_of b ≡ running → b ≡ false
is_live false is = refl
is_live true is = absurd (cc is)

module _ {D : Type 0} {g : Ghosts D} {h : medium.Ghosts (Staged D g)} where
  pub fit_none : (it : SessionOver (Staged D g) h) → SurvivesCrash (session_case_table it) g (device_below it) (device_below it) [] → GoesFit [] [] it it
  fit_none it stay = record { ran = λ start at. (start, [], (refl, refl), at, stay); letters = refl; behaves = refl; still = λ _. stay; sound = refl }

  pub goes_fit_then : (first second : List Request) (told later : List Reply) (old mid new : SessionOver (Staged D g) h) → GoesFit first told old mid → GoesFit second later mid new → GoesFit (first ++ second) (told ++ later) old new
  goes_fit_then first second told later old mid new a b = record {
    ran = λ start at.
        let before = a.ran start at in
        let on = b.ran before.0 before.3 in
        let runs = subst (λ (l : CaseTable). RunsFit l before.0 second later on.1 on.0) a.letters on.2 in
        let own = subst (λ (l : CaseTable). SurvivesCrash l g (device_below mid) (device_below new) on.1) a.letters on.4 in (
          on.0,
          before.1 ++ on.1,
          fit_then (session_case_table old) start before.0 on.0 first second told later before.1 on.1 before.2 runs,
          on.3,
          survives_then (session_case_table old) g (device_below old) (device_below mid) (device_below new) before.1 on.1 before.4 own,
        );
    letters = b.letters ∙ a.letters;
    behaves = behaves_then (condition_of old) (condition_of mid) (condition_of new) first second told later a.behaves b.behaves;
    still = λ unsound.
        let own = subst (λ (l : CaseTable). SurvivesCrash l g (device_below mid) (device_below new) []) a.letters (b.still (a.sound ∙ unsound)) in
        survives_then (session_case_table old) g (device_below old) (device_below mid) (device_below new) [] [] (a.still unsound) own;
    sound = b.sound ∙ a.sound;
  }

  -- a commit that is kept back leaves the session as it is
  pub kept_back : (it : SessionOver (Staged D g) h) → KeepsBack it → SurvivesCrash (session_case_table it) g (device_below it) (device_below it) [] → GoesFit (asked.commit ∷ []) (told.refused InvalidInput ∷ []) it it
  kept_back it keeps stay = record {
    ran = λ start at.
        let live : start.phase ≡ running = at.place.phase ∙ ap phase_of keeps.0 in (
          start,
          [],
          inl (
            record {
              commit = refl;
              phase = live;
              sound = at.place.sound ∙ keeps.1;
              unfit = λ fit. keeps.2 start.held (at.place.held live) fit;
              told = refl;
            },
            (refl, refl),
          ),
          at,
          stay,
        );
    letters = refl;
    behaves = (
      condition_of it,
      record {
        kind = refl;
        ended = λ failed _. absurd (both_ways (is_failed it) keeps.0 failed);
        live = λ _ is. absurd (cc is);
        device = λ is. absurd (cc is);
        reading = λ is. absurd (cc is);
        codepage = λ _ is. absurd (cc is);
        unsound = λ _ _ is. absurd (cc is);
        writing = λ _ unsound. absurd (both_ways (is_sound it) unsound keeps.1);
        sound = refl;
        counted = omega arith;
      },
      refl,
    );
    still = λ _. stay;
    sound = refl;
  }

  -- a slice that is passed on
  pub passed_on : (requests : List Request) (replies : List Reply) (old new : SessionOver (Staged D g) h) → IsSlice requests → (requests ≡ asked.commit ∷ [] → LetsPass old) → FollowAll requests replies old new → GoesFit requests replies old new
  passed_on requests replies old new slice lets follow = record {
    ran = λ start at.
        let on = follow.ran start at in (on.0, on.1, fits start at on.0 on.1 on.2, on.3, on.4);
    letters = follow.letters;
    behaves = follow.behaves;
    still = follow.still;
    sound = follow.sound;
  }
    where
      alone : (start : SessionState) → SessionIsAt old start → (end : SessionState) (marks : List BegunCommit) → requests ≡ asked.commit ∷ [] → SessionRuns (session_case_table old) start requests replies marks end → RunsFit (session_case_table old) start requests replies marks end
      alone start at end marks is runs =
          let fit : CommitsFit start asked.commit = λ _ live sound. lets is (is_live _ (sym at.place.phase ∙ live)) (sym at.place.sound ∙ sound) start.held (at.place.held live) in
          subst (λ (rs : List Request). RunsFit (session_case_table old) start rs replies marks end) (sym is)
          (runs_one (session_case_table old) start end asked.commit replies marks fit (subst (λ (rs : List Request). SessionRuns (session_case_table old) start rs replies marks end) is runs))

      fits : (start : SessionState) → SessionIsAt old start → (end : SessionState) (marks : List BegunCommit) → SessionRuns (session_case_table old) start requests replies marks end → RunsFit (session_case_table old) start requests replies marks end
      fits start at end marks runs =
          ⊎_elim (λ is. alone start at end marks is runs) (λ none. runs_without (session_case_table old) start end requests replies marks none runs) slice

  -- what a test of the texts tells
  pub keeps_is : (it : SessionOver (Staged D g) h) (fit : Bool) → is_failed it ≡ false → is_sound it ≡ true → ((P : PackageContent) → PackageHasContent (package_in it) P → IsTrue fit ↔ PackageCanBeWritten P) → not fit ≡ true → KeepsBack it
  keeps_is it false live sound tells is = (live, sound, λ P holds fits. absurd (let no : false ≡ true = (tells P holds).1 fits in cc))
  keeps_is it true live sound tells is = absurd (cc is)

  pub lets_is : (it : SessionOver (Staged D g) h) (fit : Bool) → ((P : PackageContent) → PackageHasContent (package_in it) P → IsTrue fit ↔ PackageCanBeWritten P) → not fit ≡ false → LetsPass it
  lets_is it true tells is live sound P holds = (tells P holds).0 refl
  lets_is it false tells is live sound P holds = absurd (cc is)

  -- no session that runs has a sound package
  pub lets_other : (it : SessionOver (Staged D g) h) → (is_failed it ≡ false → is_sound it ≡ true → ⊥) → LetsPass it
  lets_other it never live sound P holds = absurd (never live sound)
