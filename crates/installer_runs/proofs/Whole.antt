-- A run on a device, from recovery on.
use Rattle.std.proofs.Common.{◌≡◌, ◌↔◌, ℕ, Bool, false, true, List, [], refl, sym, subst, IsTrue, Some}
use Rattle.cfb_medium.specs.Calls.{IsFaultOrInvalidInputIf}
use Rattle.cfb_medium.specs.declared.error.Error.{Error}
use Rattle.cfb_medium.specs.declared.medium.ReadMedium as medium
use Rattle.cfb_tree.specs.Names.{CaseTable}
use Rattle.command_file.specs.Request.{Request}
use Rattle.installer.proofs.Stopping.{survives_then}
use Rattle.installer.specs.SessionStates.{BegunCommit, running}
use Rattle.installer.specs.Sessions.{beginning, condition_of, device_below, is_failed, is_sound, session_case_table, SessionIsAt}
use Rattle.installer.specs.CrashSurvival.{SurvivesCrash}
use Rattle.installer.specs.declared.session.SessionOver.{SessionOver}
use Rattle.installer.specs.Refusals.{IsFreshFault}
use Rattle.installer_runs.proofs.Hearing.{heard_none}
use Rattle.installer_runs.proofs.Holding.{fit_marks, held_then}
use Rattle.installer_runs.specs.Runs.{Leads, RunsAnyhow, RunsFit, RunsOn}
use Rattle.installer_runs.specs.declared.listener.Listener as listener
use Rattle.installer_runs.specs.declared.running.Until.{Until}
use Rattle.installer_runs.specs.declared.running.Ending.{Ending}
use Rattle.installer_runs.specs.declared.running.Ending.TheVariants.{Unopened}
use Rattle.msi_spec.specs.Package.{PackageContent}
use Rattle.msi_stored.specs.Reading.{IsOpeningError}
use Rattle.staged.specs.declared.device.Device.{Ghosts}
use Rattle.staged.specs.declared.staged.Staged.{Staged}

pub some_same : (a b : List ℕ) → Some a ≡ Some b → a ≡ b
some_same a b is = cc

pub not_true : (b : Bool) (P : Type 0) → IsTrue b ↔ P → (P → ⊥) → b ≡ false
not_true false P both never = refl
not_true true P both never = absurd (never (both.0 refl))

unopened_as : (e f : Error) → Unopened e ≡ Unopened f → e ≡ f
unopened_as e f is = cc is

-- nothing was run
module _ {D : Type 0} (g : Ghosts D) {L : Type 0} (k : listener.Ghosts L) (until : Until) (requests : List Request) (e : Error) (old new : D) (l : L) where
  pub runs_none : (letters : CaseTable) (P : PackageContent) (failures : ℕ) → IsFaultOrInvalidInputIf ⊥ e → SurvivesCrash letters g old new [] → RunsOn letters g k P until requests (Unopened e) old new l l
  runs_none letters P failures fault survives = record {
    ran = [];
    rest = requests;
    parts = refl;
    whole = λ is. absurd (cc is);
    unopened = λ f is. (refl, subst (IsFaultOrInvalidInputIf ⊥) (unopened_as e f is) fault);
    replies = [];
    heard = heard_none k.hears l;
    stops = record { stopped = λ is. absurd (cc is); others = λ _ _. refl };
    marks = [];
    start = record { held = P; base = Some P; failures = failures; phase = running; sound = true };
    end = record { held = P; base = Some P; failures = failures; phase = running; sound = true };
    begins = record { held = refl; based = refl; phase = refl; sound = refl };
    runs = (refl, refl);
    survives = survives;
    fit = tt;
    holds = held_then g letters old new [] tt survives;
  }

  pub none_anyhow : IsOpeningError e → IsFreshFault g old new e → RunsAnyhow g k until requests (Unopened e) old new l l
  none_anyhow kind fault = record {
    ran = [];
    rest = requests;
    parts = refl;
    whole = λ is. absurd (cc is);
    unopened = λ f is. (refl, subst IsOpeningError (unopened_as e f is) kind, subst (IsFreshFault g old new) (unopened_as e f is) fault);
    replies = [];
    heard = heard_none k.hears l;
    stops = record { stopped = λ is. absurd (cc is); others = λ _ _. refl };
    start = record { failed = false; sound = false; failures = 0 };
    end = record { failed = false; sound = false; failures = 0 };
    live = refl;
    behaves = refl;
  }

module _ {D : Type 0} {g : Ghosts D} {h : medium.Ghosts (Staged D g)} {L : Type 0} (k : listener.Ghosts L) (until : Until) (it : SessionOver (Staged D g) h) (old new : D) (requests : List Request) (ending : Ending) (first last : L)
    (leads : Leads k until requests ending it new first last) where
  pub runs_anyhow : is_failed it ≡ false → RunsAnyhow g k until requests ending old new first last
  runs_anyhow live = record {
    ran = leads.along.ran;
    rest = leads.along.rest;
    parts = leads.along.parts;
    whole = leads.along.whole;
    unopened = λ e is. absurd (leads.along.opened e is);
    replies = leads.along.replies;
    heard = leads.along.heard;
    stops = leads.along.stops;
    start = condition_of it;
    end = condition_of leads.end;
    live = live;
    behaves = leads.along.follow.behaves;
  }

  module _ (letters : CaseTable) (compared : session_case_table it ≡ letters) (begun : SurvivesCrash letters g old (device_below it) []) where
    survives_behind : (marks : List BegunCommit) → SurvivesCrash (session_case_table it) g (device_below it) (device_below leads.end) marks → SurvivesCrash letters g old new marks
    survives_behind marks own =
        let here : SurvivesCrash letters g (device_below it) (device_below leads.end) marks = subst (λ (l : CaseTable). SurvivesCrash l g (device_below it) (device_below leads.end) marks) compared own in
        survives_then letters g old (device_below it) new [] marks begun (subst (λ (d : D). SurvivesCrash letters g (device_below it) d marks) (sym leads.given) here)

    pub runs_on : (P : PackageContent) → SessionIsAt it (beginning it (Some P) P) → is_sound it ≡ true → RunsOn letters g k P until requests ending old new first last
    runs_on P at sound =
        let on = leads.along.follow.ran (beginning it (Some P) P) at in
        let fit = fit_marks (session_case_table it) (beginning it (Some P) P) on.0 leads.along.ran leads.along.replies on.1 on.2 in
        record {
          ran = leads.along.ran;
          rest = leads.along.rest;
          parts = leads.along.parts;
          whole = leads.along.whole;
          unopened = λ e is. absurd (leads.along.opened e is);
          replies = leads.along.replies;
          heard = leads.along.heard;
          stops = leads.along.stops;
          marks = on.1;
          start = beginning it (Some P) P;
          end = on.0;
          begins = record { held = refl; based = refl; phase = refl; sound = sound };
          runs = subst (λ (l : CaseTable). RunsFit l (beginning it (Some P) P) leads.along.ran leads.along.replies on.1 on.0) compared on.2;
          survives = survives_behind on.1 on.4;
          fit = fit;
          holds = held_then g letters old new on.1 fit (survives_behind on.1 on.4);
        }

    pub runs_still : is_sound it ≡ false → SurvivesCrash letters g old new []
    runs_still unsound = survives_behind [] (leads.along.follow.still unsound)
