-- A package that is made on a device.
use Rattle.std.proofs.Common.{◌≡◌, ◌<◌, ◌-◌, ◌^◌, ◌∙◌, ℕ, Bool, List, [], Ok, Err, Result, None, Some, false, true, ◌≤◌, ap, inl, inr, refl, subst, sym, ⊎_elim}
use Rattle.std.specs.Prelude.{IfErr, IsTrue, OnOk}
use Rattle.cfb_medium.specs.Calls.{IsFaultOrInvalidInputIf}
use Rattle.cfb_medium.specs.Versions.{stream_len_mask}
use Rattle.cfb_medium.specs.declared.error.Error.{Error}
use Rattle.cfb_tree_edits.specs.LiveTreeRules.{IsFaultOrFull}
use Rattle.cfb_medium.specs.declared.error.Error.TheVariants.{Device, Failed, Full, Memory}
use Rattle.cfb_medium.specs.declared.medium.ReadMedium as medium
use Rattle.cfb_tree.specs.Names.{CaseTable}
use Rattle.command_file.specs.Request as asked
use Rattle.installer.proofs.Stopping.{survives_then}
use Rattle.installer.specs.SessionStates.{fails, failed, marks_as, refuses, rolls, running, stays, steps, SessionState, CommandStep, IsSessionFault as IsUndoneFault, IsUndone, BegunCommit, Phase, StepAs}
use Rattle.installer.specs.Reply.{Reply}
use Rattle.installer.specs.Reply as told
use Rattle.installer.specs.Sessions.{beginning, device_below, is_failed, is_sound, session_case_table, package_in, phase_of, SessionIsAt}
use Rattle.installer.specs.Step.{told_of}
use Rattle.installer.specs.Refusals.{IsCountedFailure, IsSessionCreateError}
use Rattle.installer.specs.CrashSurvival.{IsRecovered, SurvivesCrash}
use Rattle.installer.specs.declared.session.SessionOver.{SessionOver}
use Rattle.installer_runs.proofs.Copied.{no_mark, one_mark}
use Rattle.installer_runs.specs.Making.{AreOfNew, CommitsLast, MakesOn}
use Rattle.cfb.specs.Publishing.{medium_in}
use Rattle.installer.proofs.Recovering.{faults}
use Rattle.msi.proofs.Short.{mask_wide, new_is_short}
use Rattle.msi.specs.Changing.{PackageCanBeWritten}
use Rattle.msi.specs.Committing.{BytesHoldPackage}
use Rattle.msi.specs.Opened.{file_in, PackageHasContent}
use Rattle.msi_spec.specs.Calls.{IsNew}
use Rattle.msi_spec.specs.Package.{PackageContent}
use Rattle.msi_spec.specs.declared.kind.PackageType.TheVariants.{Installer}
use Rattle.staged.specs.Log.{recovered}
use Rattle.staged.specs.Committed.{HasPublished}
use Rattle.staged.specs.Staged.{device_of}
use Rattle.staged.specs.declared.device.Device.{Ghosts}
use Rattle.staged.specs.declared.staged.Staged.{Staged}

undone_as : (start end : SessionState) (e f : Error) → told.refused e ≡ told.refused f → IsUndone start asked.commit f end → IsUndone start asked.commit e end
undone_as start end e f is undone = let same : f ≡ e = cc in subst (λ (x : Error). IsUndone start asked.commit x end) same undone

new_marks : (P : PackageContent) → IsNew Installer P → (b : Bool) (reply : Reply) (left : Phase) → AreOfNew (marks_as b P asked.commit reply left)
new_marks P new false reply left = no_mark (λ m. IsNew Installer m.held)
new_marks P new true told.done left = one_mark (record { held = P; done = true }) (λ m. IsNew Installer m.held) new
new_marks P new true (told.refused Failed) left = no_mark (λ m. IsNew Installer m.held)
new_marks P new true reply running = no_mark (λ m. IsNew Installer m.held)
new_marks P new true reply failed = one_mark (record { held = P; done = false }) (λ m. IsNew Installer m.held) new

-- a commit of a sound package that was refused is undone by a fault
commit_undone : (letters : CaseTable) (start end : SessionState) (e : Error) → start.phase ≡ running → start.sound ≡ true → CommandStep letters start asked.commit (told.refused e) end → IsUndone start asked.commit e end
commit_undone letters start end e run sound (steps was step committed after same counted) =
    let done = subst (λ (b : Bool). StepAs b letters start.held asked.commit (told.refused e) end.held) sound step in
    let never : told.refused e ≡ told.done = done.1 in absurd (cc)
commit_undone letters start end e run sound (stays f was is undone page same counted) = undone_as start end e f is undone
commit_undone letters start end e run sound (fails f was is fault read same base counted) = undone_as start end e f is (inl fault)
commit_undone letters start end e run sound (refuses was own is same) = (let never : running ≡ failed = sym run ∙ was in absurd (cc))
commit_undone letters start end e run sound (rolls back goes) = absurd (cc back)

module _ {D : Type 0} {g : Ghosts D} {h : medium.Ghosts (Staged D g)} (letters : CaseTable) (it : SessionOver (Staged D g) h) (old new : D) (result : Result (Unit {0}) Error) (compared : session_case_table it ≡ letters)
    (sound : is_sound it ≡ true) (P : PackageContent) (is_new : IsNew Installer P) (fit : PackageCanBeWritten P) (at : SessionIsAt it (beginning it None P)) (leads : CommitsLast result it new) where
  pub made_on : recovered (g.content old) ≡ Some [] → OnOk result (MakesOn letters g old new)
  made_on empty = on result leads.published
    where
      on : (r : Result (Unit {0}) Error) → OnOk r ((Q : PackageContent) → PackageHasContent (package_in it) Q → IsTrue (is_sound it) → (bytes : List ℕ) × HasPublished g (device_below leads.last) bytes × IsRecovered (session_case_table it) bytes Q) → OnOk r (MakesOn letters g old new)
      on (Ok u) published =
          let own = published P (at.place.held refl) sound in record {
            empty = empty;
            held = P;
            is_new = is_new;
            bytes = own.0;
            published = subst (λ (d : D). HasPublished g d own.0) (sym leads.given) own.1;
            found = subst (λ (l : CaseTable). BytesHoldPackage l own.0 P) compared (own.2.1 fit);
          }
      on (Err e) published = tt

  pub made_survives : SurvivesCrash letters g old (device_below it) [] → (marks : List BegunCommit) × AreOfNew marks × SurvivesCrash letters g old new marks
  made_survives begun =
      let left = phase_of (is_failed leads.last) in
      let marks = marks_as (is_sound it) P asked.commit (told_of result) left in
      let own : SurvivesCrash letters g (device_below it) (device_below leads.last) marks = subst (λ (l : CaseTable). SurvivesCrash l g (device_below it) (device_below leads.last) marks) compared (leads.follows.survives (beginning it None P) at) in
      let there : SurvivesCrash letters g (device_below it) new marks = subst (λ (d : D). SurvivesCrash letters g (device_below it) d marks) (sym leads.given) own in
      (marks, new_marks P is_new (is_sound it) (told_of result) left, survives_then letters g old (device_below it) new [] marks begun there)

  -- the commit of a new package was refused: by a fault, and a failure of the device was counted
  pub made_refused : ((m : Staged D g) → h.failures m ≡ g.failures (device_of m)) → SurvivesCrash letters g old (device_below it) [] → IfErr result (IsSessionCreateError letters g old new)
  made_refused counts begun = on result leads.follows.goes
    where
      start : SessionState
      start = beginning it None P

      fault : (e : Error) (end : SessionState) → IsUndone start asked.commit e end → IsUndoneFault start asked.commit e end
      fault e end undone = ⊎_elim (λ fault. fault) (λ much. absurd (new_is_short Installer P is_new (stream_len_mask much.1.0) (mask_wide much.1.0) much.1.1)) undone

      kind : (e : Error) (end : SessionState) → IsUndoneFault start asked.commit e end → IsFaultOrFull e
      kind e end (inl is) = inl (subst (IsFaultOrInvalidInputIf ⊥) (sym is) tt)
      kind e end (inr (inl is)) = inr is.0
      kind e end (inr (inr device)) = inl (subst (IsFaultOrInvalidInputIf ⊥) (sym device.0) tt)

      fresh : (e : Error) (end : SessionState) → IsUndoneFault start asked.commit e end → e ≡ Failed → ⊥
      fresh e end (inl memory) is = let never : Failed ≡ Memory = sym is ∙ memory in cc
      fresh e end (inr (inl full)) is = let never : Failed ≡ Full = sym is ∙ full.0 in cc
      fresh e end (inr (inr device)) is = let never : Failed ≡ Device = sym is ∙ device.0 in cc

      counted : (e : Error) (end : SessionState) → end.failures ≡ g.failures (device_below leads.last) → IsUndoneFault start asked.commit e end → IsCountedFailure g old new e
      counted e end here undone = λ is less. faults (g.failures old) (g.failures (device_below it)) (g.failures new) less begun.counted later (there is undone)
        where
          later : g.failures (device_below it) ≤ g.failures new
          later = subst (λ (d : D). g.failures (device_below it) ≤ g.failures d) (sym leads.given) (leads.follows.survives start at).counted

          there : e ≡ Device → IsUndoneFault start asked.commit e end → g.failures (device_below it) < 2 ^ 64 - 1 → g.failures (device_below it) < g.failures new
          there is (inl memory) few = let never : Device ≡ Memory = sym is ∙ memory in absurd (cc)
          there is (inr (inl full)) few = let never : Device ≡ Full = sym is ∙ full.0 in absurd (cc)
          there is (inr (inr device)) few =
              let first : start.failures ≡ g.failures (device_below it) = counts (medium_in (file_in (package_in it))) in
              let last : end.failures ≡ g.failures new = here ∙ sym (ap (λ (d : D). g.failures d) leads.given) in
              subst (λ (n : ℕ). n < g.failures new) first (subst (λ (n : ℕ). start.failures < n) last (device.1 (subst (λ (n : ℕ). n < 2 ^ 64 - 1) (sym first) few)))

      on : (r : Result (Unit {0}) Error) → ((c : SessionState) → SessionIsAt it c → (end : SessionState) × CommandStep (session_case_table it) c asked.commit (told_of r) end × SessionIsAt leads.last end) → IfErr r (IsSessionCreateError letters g old new)
      on (Ok u) goes = tt
      on (Err e) goes =
          let went = goes start at in
          let undone = fault e went.0 (commit_undone (session_case_table it) start went.0 e refl sound went.1) in
          record {
            kind = inr (inr (inr (inl (kind e went.0 undone))));
            fault = (counted e went.0 (went.2.place.failures ∙ counts (medium_in (file_in (package_in leads.last)))) undone, fresh e went.0 undone);
          }
