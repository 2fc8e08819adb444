-- How a commit goes.
use Rattle.std.proofs.Common.{◌≡◌, ◌⊎◌, ◌≤◌, ◌∙◌, ℕ, Bool, IsTrue, List, Some, None, [], ap, false, inl, inr, refl, subst, sym, true, ⊎_elim}
use Rattle.std.proofs.lemmas.Bool.{both_ways}
use Rattle.std.specs.Prelude.{Err, IfErr, Ok, OnErr, OnOk, Result, is_ok, is_some, not, ◌&&◌, ◌||◌}
use Rattle.cfb.specs.Publishing.{medium_in}
use Rattle.cfb.specs.Views.{mini_of}
use Rattle.cfb_fat.specs.Tables.{IsJustifiedBySectors}
use Rattle.cfb_medium.specs.Crashes.{CrashLeavesOnly}
use Rattle.cfb_medium.specs.declared.error.Error.{Error}
use Rattle.cfb_medium.specs.declared.error.Error.TheVariants.{Device, Failed, InvalidInput}
use Rattle.cfb_medium.specs.declared.medium.ReadMedium.{Ghosts}
use Rattle.cfb_mini.specs.Views.{allocator_of}
use Rattle.cfb_tree.specs.Names.{CaseTable}
use Rattle.cfb_tree.proofs.OneContent.{Some_same}
use Rattle.command_file.specs.Request as asked
use Rattle.msi.proofs.Published.{medium_fails}
use Rattle.msi.specs.Committing.{PackageCommits}
use Rattle.msi.specs.Opened.{file_in, PackageHasContent}
use Rattle.msi_spec.specs.Package.{PackageContent}
use Rattle.staged.specs.Device.{DeviceRests}
use Rattle.staged.specs.Files.{Files}
use Rattle.staged.specs.Committed.{HasPublished}
use Rattle.staged.specs.Staged.{device_of}
use Rattle.staged.specs.declared.device.Device as device
use Rattle.staged.specs.declared.staged.Staged.{Staged}
use Rattle.installer.proofs.Begun.{begins_at}
use Rattle.installer.proofs.Following.{not_failed_error, published_on, still}
use Rattle.installer.proofs.Faults.{fault_of}
use Rattle.installer.proofs.Going.{by_sound, kept_based, medium_live, more, package_live, undone_based}
use Rattle.installer.proofs.Together.{never_both}
use Rattle.installer.proofs.Stopping.{survives_rest, survives_then}
use Rattle.installer.proofs.Writing.{not_err, step_commit, too_long, untouched}
use Rattle.installer.specs.Behaviour.{BehavesOnce, Condition}
use Rattle.installer.specs.SessionStates.{failed, fails, marks_of, refuses, rolls, running, stays, steps, SessionState, CommandStep, StepAs}
use Rattle.installer.specs.CommandRuns.{RunsWithoutPublishing, RunsCommand}
use Rattle.installer.specs.Reply.{Reply}
use Rattle.installer.specs.Reply as told
use Rattle.installer.specs.Sessions.{beginning, condition_of, device_below, has_base, has_medium_failed, is_failed, is_sound, session_case_table, package_in, phase_of, IsAt, IsPublished, SessionIsAt}
use Rattle.installer.specs.Step.{told_of}
use Rattle.installer.specs.CrashSurvival.{IsRecovered, SurvivesCrash}
use Rattle.installer.specs.declared.session.SessionOver.{SessionOver}

-- a refusal is no step of a flush or a commit
no_step : (letters : CaseTable) (sound : Bool) (P Q : PackageContent) (e : Error) → StepAs sound letters P asked.commit (told.refused e) Q → ⊥
no_step letters true P Q e step = let never = step.1 in cc never
no_step letters false P Q e step = let never = step.1 in cc never

-- a commit that a fault of the device cut off leaves nothing to which to go back
cut_off : (letters : CaseTable) (start end : SessionState) (e : Error) → start.phase ≡ running → end.phase ≡ failed → e ≡ Device → CommandStep letters start asked.commit (told.refused e) end
    → CommandStep letters start asked.commit (told.refused e) (record end { base = None })
cut_off letters start end e was broken fault (steps run step base yet sound counted) = absurd (no_step letters start.sound start.held end.held e step)
cut_off letters start end e was broken fault (stays f run is undone page same counted) = absurd (never_both end.phase (ap (λ (c : SessionState). c.phase) same ∙ was) broken)
cut_off letters start end e was broken fault (fails f run is undone unread same base counted) =
    let own : e ≡ f = cc is in
    fails f run is undone unread (ap (λ (c : SessionState). record c { base = None }) same) (inr (refl, sym own ∙ fault, refl)) counted
cut_off letters start end e was broken fault (refuses run other is same) = absurd (never_both start.phase was run)
cut_off letters start end e was broken fault (rolls back goes) = absurd (cc back)

-- whether there is a package to which to go back, after a commit: by whether the medium has failed, there was one, and the commit was done
abbrev has_base_after : Bool → Bool → Bool → Bool
has_base_after broken was done = not broken && (was || done)

after_done : (f was : Bool) → f ≡ false → has_base_after f was true ≡ true
after_done true was is = absurd (cc)
after_done false true is = refl
after_done false false is = refl

after_refusal : (f was : Bool) → f ≡ false → has_base_after f was false ≡ was
after_refusal true was is = absurd (cc)
after_refusal false true is = refl
after_refusal false false is = refl

after_cut : (f was : Bool) → f ≡ true → has_base_after f was false ≡ false
after_cut true was is = refl
after_cut false was is = absurd (cc)

module _ {D : Type 0} {g : device.Ghosts D} {h : Ghosts (Staged D g)} where
  module _ (counts_now : (d : D) (t : ℕ) (left : Files) → t ≤ g.moment d → g.crash_may_leave d left → g.crash_left_since d t left)
      (rests_keeps : (a b : D) → g.rests a b → DeviceRests g.honest g.content g.writes g.failures a b) (rests_leaves : (a b : D) → g.rests a b → CrashLeavesOnly g.moment g.crash_left_since a b (g.crash_may_leave a))
      (refl_continues : (m : Staged D g) → h.continues m m) (rests : (a b : Staged D g) → h.continues a b → g.rests (device_of a) (device_of b)) (as_failed : (a b : Staged D g) → h.continues a b → h.failed a ≡ h.failed b)
      (honest_is : (m : Staged D g) → h.honest m ≡ g.honest (device_of m)) (old new : SessionOver (Staged D g) h) (live : is_failed old ≡ false) where
    -- by what was refused the medium went on, where it hasn't failed
    went_on : (e : Error) → PackageCommits (λ m. HasPublished g (device_of m)) (Err e) (package_in old) (package_in new) → has_medium_failed new ≡ false → h.continues (medium_in (file_in (package_in old))) (medium_in (file_in (package_in new)))
    went_on e commits lives =
        let from = medium_in (file_in (package_in old)) in
        ⊎_elim (λ broken. absurd (both_ways (has_medium_failed new) lives broken.0)) (λ goes. goes.continues from (refl_continues from)) commits.quiet

    -- where it has failed, the device has cut the commit off
    cut_by : (e : Error) → PackageCommits (λ m. HasPublished g (device_of m)) (Err e) (package_in old) (package_in new) → (e ≡ Failed → ⊥) → has_medium_failed new ≡ true → e ≡ Device
    cut_by e commits other broken =
        let from = medium_in (file_in (package_in old)) in
        let to = medium_in (file_in (package_in new)) in
        ⊎_elim (λ cut. ⊎_elim (λ fault. fault) (λ earlier. absurd (other earlier)) cut.1)
        (λ goes. absurd (both_ways (h.failed to) (sym (as_failed from to (goes.continues from (refl_continues from))) ∙ medium_live (package_in old) live) broken)) commits.quiet

    -- a refusal by size comes before the medium's commit
    medium_lives : (e : Error) → PackageCommits (λ m. HasPublished g (device_of m)) (Err e) (package_in old) (package_in new) → e ≡ InvalidInput → has_medium_failed new ≡ false
    medium_lives e commits is =
        let from = medium_in (file_in (package_in old)) in
        let to = medium_in (file_in (package_in new)) in
        ⊎_elim (λ cut. ⊎_elim (λ fault. absurd (let never : InvalidInput ≡ Device = sym is ∙ fault in cc never)) (λ earlier. absurd (let never : InvalidInput ≡ Failed = sym is ∙ earlier in cc never)) cut.1)
        (λ goes. sym (as_failed from to (goes.continues from (refl_continues from))) ∙ medium_live (package_in old) live) commits.quiet

    -- of a sound package: there was a fault, or it is kept since something is too long
    refused_goes : (e : Error) → PackageCommits (λ m. HasPublished g (device_of m)) (Err e) (package_in old) (package_in new) → h.failures (medium_in (file_in (package_in old))) ≤ h.failures (medium_in (file_in (package_in new)))
        → IsJustifiedBySectors (allocator_of (mini_of (file_in (package_in old)))) (allocator_of (mini_of (file_in (package_in new)))) e → (start : SessionState) → SessionIsAt old start → start.sound ≡ true
        → (end : SessionState) × CommandStep (session_case_table old) start asked.commit (told.refused e) end × IsAt (package_in new) end × (end.base ≡ start.base) × (end.sound ≡ start.sound)
    refused_goes e commits counted cause start at sound =
        let now = at.place.phase ∙ ap phase_of live in
        let holds = at.place.held now in
        ⊎_elim
        (λ fault. undone_based (package_in old) (package_in new) start at.place live counted commits.seen.1 asked.commit e refl
        (λ end last. fault_of refl_continues (package_in old) (package_in new) start end asked.commit e (λ _. refl) live at.place.failures last cause fault) commits.rests)
        (λ long.
        let kept = long.2.holds start.held holds in
        kept_based (package_in old) (package_in new) start at.place live counted commits.seen.1 asked.commit e refl (inr (long.0, too_long refl_continues (package_in old) (package_in new) start at.place live asked.commit (λ is. is) long.1))
        (package_live (package_in new) kept.file.live (medium_lives e commits long.0)) kept)
        (commits.refused start.held holds (sym at.place.sound ∙ sound))

    -- so nothing was published
    pub unpublished : (r : Result (Unit {0}) Error) → PackageCommits (λ m. HasPublished g (device_of m)) r (package_in old) (package_in new)
        → OnErr r (phase_of (is_failed new) ≡ running → SurvivesCrash (session_case_table old) g (device_below old) (device_below new) [])
    unpublished (Ok u) commits = tt
    unpublished (Err e) commits = λ runs.
        still counts_now rests_keeps rests_leaves (session_case_table old) (device_below old) (device_below new) (rests (medium_in (file_in (package_in old))) (medium_in (file_in (package_in new))) (went_on e commits (medium_live (package_in new) (lives (is_failed new) runs))))
      where
        lives : (b : Bool) → phase_of b ≡ running → b ≡ false
        lives true runs = absurd (cc runs)
        lives false runs = refl

    pub publish_goes : (r : Result (Unit {0}) Error) → has_base new ≡ has_base_after (has_medium_failed new) (has_base old) (is_ok r) → PackageCommits (λ m. HasPublished g (device_of m)) r (package_in old) (package_in new)
        → h.failures (medium_in (file_in (package_in old))) ≤ h.failures (medium_in (file_in (package_in new)))
        → IfErr r (IsJustifiedBySectors (allocator_of (mini_of (file_in (package_in old)))) (allocator_of (mini_of (file_in (package_in new)))))
        → (start : SessionState) → SessionIsAt old start → (end : SessionState) × CommandStep (session_case_table old) start asked.commit (told_of r) end × SessionIsAt new end
    publish_goes (Ok u) based commits counted cause start at =
        let now = at.place.phase ∙ ap phase_of live in
        let holds = at.place.held now in
        let kept : PackageHasContent (package_in new) start.held = ⊎_elim (λ sound. (commits.done start.held holds (sym at.place.sound ∙ sound)).holds)
        (λ unsound. (untouched refl_continues (package_in old) (package_in new) start at.place live (commits.unsound live (sym at.place.sound ∙ unsound)).1).holds start.held holds) (by_sound start.sound) in (
          record start { failures = h.failures (medium_in (file_in (package_in new))); base = Some start.held },
          steps now (step_commit (session_case_table old) start.sound start.held) refl now refl (more (package_in old) (package_in new) start at.place live counted commits.seen.1),
          record {
            place = record { phase = now ∙ ap phase_of (sym commits.live.1); held = λ _. kept; failures = refl; sound = at.place.sound ∙ sym commits.seen.1 };
            based = sym (based ∙ after_done (has_medium_failed new) (has_base old) (medium_live (package_in new) commits.live.1));
            base = λ sound B is.
                let done = commits.done start.held holds (sym at.place.sound ∙ sound) in
                subst (λ (P : PackageContent). IsPublished new P) (Some_same is) (record {
                  honest = subst IsTrue (honest_is (medium_in (file_in (package_in new)))) done.holds.file.honest;
                  live = medium_live (package_in new) commits.live.1;
                  usable = done.holds.usable;
                  bytes = done.bytes;
                  published = done.published;
                  found = done.found;
                });
          },
        )
    publish_goes (Err e) based commits counted cause start at =
        let now = at.place.phase ∙ ap phase_of live in
        let holds = at.place.held now in
        let went = ⊎_elim
        (λ sound. refused_goes e commits counted cause start at sound)
        (λ unsound. absurd (not_err (commits.unsound live (sym at.place.sound ∙ unsound)).0)) (by_sound start.sound) in
        ⊎_elim
        (λ broken. (
          record went.0 { base = None },
          cut_off (session_case_table old) start went.0 e now (went.2.phase ∙ ap phase_of (medium_fails (package_in new) broken)) (cut_by e commits (not_failed_error refl_continues (package_in old) (package_in new) (Err e) live cause) broken) went.1,
          record {
            place = record { phase = went.2.phase; held = went.2.held; failures = went.2.failures; sound = went.2.sound };
            based = sym (based ∙ after_cut (has_medium_failed new) (has_base old) broken);
            base = λ _ B is. absurd (cc is);
          },
        ))
        (λ lives.
        let from = medium_in (file_in (package_in old)) in
        let to = medium_in (file_in (package_in new)) in
        let on = went_on e commits lives in (
          went.0,
          went.1,
          record {
            place = went.2;
            based = ap is_some went.3 ∙ at.based ∙ sym (based ∙ after_refusal (has_medium_failed new) (has_base old) lives);
            base = λ sound B is. published_on counts_now rests_keeps rests_leaves old new B (rests from to on) (as_failed from to on) commits.seen.0 (at.base (sym went.4 ∙ sound) B (sym went.3 ∙ is));
          },
        )) (by_sound (has_medium_failed new))
