-- How a roll back goes.
use Rattle.std.proofs.Common.{◌≡◌, ◌⊎◌, ◌≤◌, ◌∙◌, ◌||◌, ℕ, Bool, IsTrue, Some, None, ap, ap₂, arith, false, inl, inr, refl, subst, sym, true, ⊎_elim}
use Rattle.std.proofs.lemmas.Bool.{both_ways}
use Rattle.std.specs.Prelude.{Err, IfErr, Ok, OnErr, OnOk, Option, Result, is_some}
use Rattle.cfb.specs.Publishing.{medium_in}
use Rattle.cfb.specs.RollingBack.{HasLostAll}
use Rattle.cfb.specs.Views.{mini_of}
use Rattle.cfb_fat.specs.Tables.{has_failed_here}
use Rattle.cfb_medium.specs.Calls.{IsJustifiedError, IsFaultOrInvalidInputIf, KeepsMediumState}
use Rattle.cfb_medium.specs.Crashes.{CrashLeavesOnly}
use Rattle.cfb_medium.specs.declared.error.Error.{Error}
use Rattle.cfb_medium.specs.declared.error.Error.TheVariants.{Device, Failed, Memory, NotFound}
use Rattle.cfb_medium.specs.declared.medium.ReadMedium.{Ghosts}
use Rattle.cfb_mini.specs.Views.{allocator_of}
use Rattle.cfb_tree.proofs.OneContent.{Some_same}
use Rattle.command_file.specs.Request as asked
use Rattle.command_file.specs.Request.{is_roll_back}
use Rattle.command_file.specs.RequestsOf.{request_of}
use Rattle.command_file.specs.declared.command.Command.{Command}
use Rattle.command_file.specs.declared.command.Command.TheVariants as command
use Rattle.msi.proofs.OpenAgain.{held_rest, never_refused, same_package, sound_file}
use Rattle.msi.specs.Changing.{PackageCanBeWritten}
use Rattle.msi.specs.Committing.{BytesHoldPackage}
use Rattle.msi.specs.Opened.{file_in, OnlyReadsPackage}
use Rattle.msi.specs.RollingBack as lower
use Rattle.msi_spec.specs.Package.{PackageContent}
use Rattle.staged.specs.Device.{DeviceRests}
use Rattle.staged.specs.Files.{Files}
use Rattle.staged.specs.Committed.{HasPublished}
use Rattle.staged.specs.Staged.{device_of}
use Rattle.staged.specs.declared.device.Device as device
use Rattle.staged.specs.declared.staged.Staged.{Staged}
use Rattle.installer.proofs.Answering.{told_error, told_kind}
use Rattle.installer.proofs.Based.{base_of, same_storages, some_sound}
use Rattle.installer.proofs.Faults.{fault_kinds}
use Rattle.installer.proofs.Following.{marks_other, published_on, still}
use Rattle.installer.proofs.Going.{package_live}
use Rattle.msi_copies.proofs.Resting.{keeps_rests}
use Rattle.installer.proofs.Stopping.{survives_stay}
use Rattle.installer.specs.Behaviour.{BehavesOnce}
use Rattle.installer.specs.SessionStates.{baseless, broken, failed, led, over, rolls, running, unchanged, SessionState, SessionRollsBack, IsSessionFault}
use Rattle.installer.specs.CommandRuns.{RunsCommand}
use Rattle.installer.specs.Reply.{Reply}
use Rattle.installer.specs.Reply as told
use Rattle.installer.specs.Sessions.{condition_of, device_below, has_base, is_failed, is_sound, session_case_table, package_in, phase_of, IsAt, IsPublished, SessionIsAt}
use Rattle.installer.specs.Step.{told_of}
use Rattle.installer.specs.declared.session.SessionOver.{SessionOver}

none_of : (base : Option PackageContent) → is_some base ≡ false → base ≡ None
none_of (Some B) is = absurd (cc)
none_of None is = refl

second_true : (a b : Bool) → b ≡ true → a || b ≡ true
second_true true b is = refl
second_true false b is = is

-- a command that isn't the one that goes back
pub unasked : (c : Command) → (c ≡ command.RollBack → ⊥) → is_roll_back (request_of c) ≡ false
unasked command.RollBack other = absurd (other refl)
unasked c other = refl

-- of a medium that survives a stop
surviving : (e : Error) → IsFaultOrInvalidInputIf (true ≡ false) e → (e ≡ Memory) ⊎ ((e ≡ Device) ⊎ (e ≡ Failed))
surviving e is = fault_kinds e (never e is)
  where
    never : (e : Error) → IsFaultOrInvalidInputIf (true ≡ false) e → IsFaultOrInvalidInputIf ⊥ e
    never Error.InvalidInput is = cc is
    never e is = is

module _ {D : Type 0} {g : device.Ghosts D} {h : Ghosts (Staged D g)}
    (counts_now : (d : D) (t : ℕ) (left : Files) → t ≤ g.moment d → g.crash_may_leave d left → g.crash_left_since d t left)
    (rests_keeps : (a b : D) → g.rests a b → DeviceRests g.honest g.content g.writes g.failures a b) (rests_leaves : (a b : D) → g.rests a b → CrashLeavesOnly g.moment g.crash_left_since a b (g.crash_may_leave a)) where
  -- ---- nothing was done

  module _ (only_now : (d : D) (left : Files) → g.crash_left_since d (g.moment d) left → g.crash_may_leave d left) (it : SessionOver (Staged D g) h) where
    pub idle_follows : (reply : Reply) → ((start : SessionState) → SessionIsAt it start → SessionRollsBack start reply start) → BehavesOnce (condition_of it) asked.roll_back reply (condition_of it) → RunsCommand asked.roll_back reply it it
    idle_follows reply goes behaves =
        let stay = survives_stay (session_case_table it) g counts_now only_now (device_below it) in
        record {
          goes = λ start at. (start, rolls refl (goes start at), at);
          letters = refl;
          sound = refl;
          behaves = behaves;
          still = λ _. stay;
          survives = λ start at. rw (marks_other start.sound start.held asked.roll_back reply (phase_of (is_failed it)) refl) stay;
        }

    pub follows_over : is_failed it ≡ true → (is_sound it ≡ true → has_base it ≡ false) → RunsCommand asked.roll_back (told.refused Failed) it it
    follows_over ended none = idle_follows (told.refused Failed)
        (λ start at. over (λ sound. none_of start.base (at.based ∙ none (sym at.place.sound ∙ sound))) (at.place.phase ∙ ap phase_of ended) refl refl)
        (record {
          kind = refl;
          ended = λ _ own. absurd (cc own);
          live = λ live _. both_ways (is_failed it) live ended;
          device = λ is. absurd (cc is);
          reading = λ _. refl;
          codepage = λ _ page. absurd (cc page);
          unsound = λ _ _ is. absurd (cc is);
          writing = λ _ _ is. absurd (cc is);
          sound = refl;
          counted = omega arith;
        })

    pub follows_baseless : is_failed it ≡ false → is_sound it ≡ true → has_base it ≡ false → RunsCommand asked.roll_back (told.refused NotFound) it it
    follows_baseless live sound none = idle_follows (told.refused NotFound)
        (λ start at. baseless (at.place.sound ∙ sound) (none_of start.base (at.based ∙ none)) (at.place.phase ∙ ap phase_of live) refl refl (omega arith))
        (record {
          kind = refl;
          ended = λ _ own. absurd (cc own);
          live = λ _ is. absurd (cc is);
          device = λ is. absurd (cc is);
          reading = λ _. refl;
          codepage = λ _ page. absurd (cc page);
          unsound = λ _ _ is. absurd (cc is);
          writing = λ _ _ is. absurd (cc is);
          sound = refl;
          counted = omega arith;
        })

    pub follows_unchanged : is_failed it ≡ false → is_sound it ≡ false → RunsCommand asked.roll_back told.done it it
    follows_unchanged live unsound = idle_follows told.done
        (λ start at. unchanged (at.place.sound ∙ unsound) (at.place.phase ∙ ap phase_of live) refl refl (omega arith))
        (record {
          kind = refl;
          ended = λ _ own. absurd (cc own);
          live = λ _ is. absurd (cc is);
          device = λ is. absurd (cc is);
          reading = λ _. refl;
          codepage = λ _ page. absurd (cc page);
          unsound = λ _ _ is. absurd (cc is);
          writing = λ _ _ is. absurd (cc is);
          sound = refl;
          counted = omega arith;
        })

  -- ---- the package went back, or was to

  module _ (old new : SessionOver (Staged D g) h) (sound : is_sound old ≡ true) (some : has_base old ≡ true) (based : has_base new ≡ has_base old)
      (rests : g.rests (device_below old) (device_below new)) (keeps : KeepsMediumState h.honest h.failed h.failures (medium_in (file_in (package_in old))) (medium_in (file_in (package_in new))))
      (honest_is : h.honest (medium_in (file_in (package_in old))) ≡ g.honest (device_below old))
      (letters : session_case_table new ≡ session_case_table old) (judged : is_sound new ≡ is_sound old) where
    abbrev was : Staged D g
    was = medium_in (file_in (package_in old))

    abbrev now : Staged D g
    now = medium_in (file_in (package_in new))

    stands : (start end : SessionState) → SessionIsAt old start → IsAt (package_in new) end → end.base ≡ start.base → end.sound ≡ start.sound → SessionIsAt new end
    stands start end at place base alike = record {
      place = place;
      based = ap is_some base ∙ at.based ∙ sym based;
      base = λ is B b. published_on counts_now rests_keeps rests_leaves old new B rests keeps.as_failed letters (at.base (sym alike ∙ is) B (sym base ∙ b));
    }

    module _ (start : SessionState) (at : SessionIsAt old start) where
      is_start_sound : start.sound ≡ true
      is_start_sound = at.place.sound ∙ sound

      more : start.failures ≤ h.failures now
      more = (let one = at.place.failures in let two = keeps.counted in omega (arith, one, two))

      base : (B : PackageContent) × (start.base ≡ Some B)
      base = base_of start.base (at.based ∙ some)

      published : IsPublished old base.0
      published = at.base is_start_sound base.0 base.1

      honest : IsTrue (h.honest was)
      honest = subst IsTrue (sym honest_is) published.honest

      -- of the package to which it leads
      of_base : (Holds : PackageContent → Type 0) → (BytesHoldPackage (session_case_table old) published.bytes base.0 → Holds base.0) → (B : PackageContent) → start.base ≡ Some B → PackageCanBeWritten B → Holds B
      of_base Holds each B is fit =
          let same = Some_same (sym base.1 ∙ is) in
          subst Holds same (each (published.found.1 (subst (λ (P : PackageContent). PackageCanBeWritten P) (sym same) fit)))

      -- it has the storages of that package, whatever the texts
      stored : (Q : PackageContent) → BytesHoldPackage (session_case_table old) published.bytes Q → (B : PackageContent) → start.base ≡ Some B → Q.storages ≡ B.storages
      stored Q holds B is =
          let same : base.0 ≡ B = Some_same (sym base.1 ∙ is) in
          subst (λ (P : PackageContent). Q.storages ≡ P.storages) same
          (same_storages (session_case_table old) published.bytes Q base.0 (held_rest (session_case_table old) published.bytes Q holds) published.found.0)

      goes_back : lower.PackageRollsBack (λ m. HasPublished g (device_of m)) (package_in old) (package_in new) → (end : SessionState) × SessionRollsBack start told.done end × SessionIsAt new end
      goes_back back =
          let live = package_live (package_in new) back.live (back.failed ∙ published.live) in
          let opened = back.opened published.usable honest published.bytes published.published in
          let found = some_sound (session_case_table old) published.bytes (package_in new) opened published.usable (judged ∙ sound) in
          let end = record start { held = found.0; failures = h.failures now; phase = running } in (
            end,
            led is_start_sound refl (at.based ∙ some) (of_base (λ B. found.0 ≡ B) (λ holds. same_package (session_case_table old) published.bytes found.0 found.1 base.0 holds))
                (stored found.0 found.1) refl more,
            stands start end at (record { phase = ap phase_of (sym live); held = λ _. found.2; failures = refl; sound = at.place.sound ∙ sym judged }) refl refl,
          )

      -- what is told is a fault, where that package can be written as it is
      fault_told : (e : Error) (end : SessionState) → end.failures ≡ h.failures now → IsJustifiedError h.failures h.failed was now e → lower.IsNoWayBack (λ m. HasPublished g (device_of m)) (package_in old) (true ≡ false) e
          → (B : PackageContent) → start.base ≡ Some B → PackageCanBeWritten B → IsSessionFault start asked.roll_back e end
      fault_told e end last cause refused = of_base (λ B. IsSessionFault start asked.roll_back e end) (λ holds. ⊎_elim
          (λ fault. ⊎_elim (λ memory. inl memory) (λ rest. ⊎_elim
          (λ device. inr (inr (device, λ less. (let first = at.place.failures in let up = cause.device device (omega (arith, first, less)) in omega (arith, first, last, up)))))
          (λ earlier. absurd (both_ways (h.failed was) published.live (cause.earlier earlier))) rest) (surviving e fault))
          (λ rest. ⊎_elim
          (λ wrong. absurd (never_refused (session_case_table old) published.bytes base.0 holds e wrong))
          (λ other. absurd (other.1 (λ _. sound_file (session_case_table old) published.bytes base.0 holds, λ _. sound))) rest)
          (refused.told published.usable honest published.bytes published.published))

      goes_not : (e : Error) → IsJustifiedError h.failures h.failed was now e → lower.IsNoWayBack (λ m. HasPublished g (device_of m)) (package_in old) (true ≡ false) e
          → OnlyReadsPackage (package_in old) (package_in new) ⊎ HasLostAll (λ m. HasPublished g (device_of m)) (file_in (package_in old)) (file_in (package_in new))
          → (end : SessionState) × SessionRollsBack start (told.refused e) end × SessionIsAt new end
      goes_not e cause refused left = ⊎_elim
          (λ stays.
          let here : has_failed_here (allocator_of (mini_of (file_in (package_in new)))) ≡ has_failed_here (allocator_of (mini_of (file_in (package_in old)))) = stays.file.mini.directory.allocator.sectors.failed in
          let same : is_failed new ≡ is_failed old = ap₂ (λ a b. a || b) here (sym keeps.as_failed) in
          let end = record start { failures = h.failures now } in (
            end,
            broken e is_start_sound (at.based ∙ some) refl (fault_told e end refl cause refused) (inl refl) more,
            stands start end at (record {
              phase = at.place.phase ∙ ap phase_of (sym same);
              held = λ run. (keeps_rests (package_in old) (package_in new) stays).holds start.held (at.place.held run);
              failures = refl;
              sound = at.place.sound ∙ sym judged;
            }) refl refl,
          ))
          (λ gone.
          let ended : is_failed new ≡ true = ap (λ b. b || h.failed now) gone.failed in
          let end = record start { failures = h.failures now; phase = failed } in (
            end,
            broken e is_start_sound (at.based ∙ some) refl (fault_told e end refl cause refused) (inr refl) more,
            stands start end at (record { phase = ap phase_of (sym ended); held = λ no. absurd (cc no); failures = refl; sound = at.place.sound ∙ sym judged }) refl refl,
          )) left

    module _ (result : Result (Unit {0}) Error) (back : OnOk result (lower.PackageRollsBack (λ m. HasPublished g (device_of m)) (package_in old) (package_in new)))
        (left : OnErr result (OnlyReadsPackage (package_in old) (package_in new) ⊎ HasLostAll (λ m. HasPublished g (device_of m)) (file_in (package_in old)) (file_in (package_in new))))
        (refused : IfErr result (lower.IsNoWayBack (λ m. HasPublished g (device_of m)) (package_in old) (true ≡ false))) (cause : IfErr result (IsJustifiedError h.failures h.failed was now)) where
      goes_so : (r : Result (Unit {0}) Error) → OnOk r (lower.PackageRollsBack (λ m. HasPublished g (device_of m)) (package_in old) (package_in new))
          → OnErr r (OnlyReadsPackage (package_in old) (package_in new) ⊎ HasLostAll (λ m. HasPublished g (device_of m)) (file_in (package_in old)) (file_in (package_in new)))
          → IfErr r (lower.IsNoWayBack (λ m. HasPublished g (device_of m)) (package_in old) (true ≡ false)) → IfErr r (IsJustifiedError h.failures h.failed was now)
          → (start : SessionState) → SessionIsAt old start → (end : SessionState) × SessionRollsBack start (told_of r) end × SessionIsAt new end
      goes_so (Ok u) back left refused cause start at = goes_back start at back
      goes_so (Err e) back left refused cause start at = goes_not start at e cause refused left

      pub back_follows : RunsCommand asked.roll_back (told_of result) old new
      back_follows = record {
        goes = λ start at. (let on = goes_so result back left refused cause start at in (on.0, rolls refl on.1, on.2));
        letters = letters;
        sound = judged;
        behaves = record {
          kind = told_kind asked.roll_back refl result (told_of result) refl;
          ended = λ _ own. absurd (cc own);
          live = λ live is. both_ways (is_failed old) live
              (second_true (has_failed_here (allocator_of (mini_of (file_in (package_in old))))) (h.failed was) ((told_error result (told_of result) (IsJustifiedError h.failures h.failed was now) Failed refl cause is).earlier refl));
          device = λ is. (told_error result (told_of result) (IsJustifiedError h.failures h.failed was now) Device refl cause is).device refl;
          reading = λ is. absurd (cc is);
          codepage = λ _ page. absurd (cc page);
          unsound = λ _ _ is. absurd (cc is);
          writing = λ _ _ is. absurd (cc is);
          sound = judged;
          counted = keeps.counted;
        };
        still = λ _. still counts_now rests_keeps rests_leaves (session_case_table old) (device_below old) (device_below new) rests;
        survives = λ start at. rw (marks_other start.sound start.held asked.roll_back (told_of result) (phase_of (is_failed new)) refl) (still counts_now rests_keeps rests_leaves (session_case_table old) (device_below old) (device_below new) rests);
      }
