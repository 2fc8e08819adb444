-- How one command goes, whose package lies in its file.
use Rattle.std.proofs.Common.{◌≡◌, ◌⊎◌, ◌≤◌, ◌||◌, ◌∙◌, Bool, ap, false, inl, inr, refl, rules, sym, true, ⊎_elim}
use Rattle.std.proofs.lemmas.Bool.{both_ways}
use Rattle.std.specs.Prelude.{Err, IfErr, Ok, Result}
use Rattle.cfb.specs.Publishing.{medium_in}
use Rattle.cfb.specs.Views.{file_case_table, mini_of}
use Rattle.cfb_fat.specs.Tables.{has_failed_here, IsJustifiedBySectors}
use Rattle.cfb_tree_edits.specs.LiveTreeRules.{IsFaultOrFull}
use Rattle.cfb_medium.specs.Calls.{KeepsMediumState}
use Rattle.cfb_medium.specs.declared.error.Error.{Error}
use Rattle.cfb_medium.specs.declared.error.Error.TheVariants.{Full, InvalidData, InvalidInput}
use Rattle.cfb_medium.specs.declared.medium.ReadMedium.{Ghosts}
use Rattle.cfb_mini.specs.Views.{allocator_of}
use Rattle.cfb_chain_io.specs.ChainEffects.{KeepsFileInvariants}
use Rattle.cfb_tree.specs.Names.{CaseTable}
use Rattle.command_file.specs.Request.{Request, is_changing, is_codepage, is_commit, is_reading, is_writing}
use Rattle.command_file.specs.Request as asked
use Rattle.msi.specs.Changing.{failed_in, KeepsHeld, PackageChanges}
use Rattle.msi.specs.Opened.{file_in, sound_in, PackageHasContent}
use Rattle.msi.specs.declared.package.Package.{Package}
use Rattle.msi_spec.specs.Package.{PackageContent}
use Rattle.msi_stored.specs.Changing.{PackageRule}
use Rattle.installer.proofs.Faults.{fault_of}
use Rattle.installer.specs.SessionStates.{SessionState, CommandStep, IsSessionFault, IsTooMuch, IsUndone, StepAs, base_after, failed, running, fails, stays, steps, takes_room}
use Rattle.installer.specs.Reply.{Reply}
use Rattle.installer.specs.Reply as told
use Rattle.installer.specs.Sessions.{phase_of, IsAt}
use Rattle.installer.specs.Step.{PackageStep, told_of}

pub by_sound : (b : Bool) → (b ≡ true) ⊎ (b ≡ false)
by_sound true = inl refl
by_sound false = inr refl

pub not_ok : {e : Error} → ◌≡◌ {A = Result (Unit {0}) Error} (Ok tt) (Err e) → ⊥
not_ok is = cc

pub err_is : {X : Type 0} (e f : Error) → ◌≡◌ {A = Result X Error} (Err e) (Err f) → e ≡ f
err_is e f is = search (rules, is)

second_false : (a b : Bool) → a || b ≡ false → b ≡ false
second_false true b is = absurd (cc)
second_false false b is = is

both_false : (a b : Bool) → a ≡ false → b ≡ false → a || b ≡ false
both_false a b first second = rw first second

-- no failure at either place
none_failed : (a b c : Bool) → a || c ≡ false → b ≡ false → b || c ≡ false
none_failed true b c is now = absurd (cc)
none_failed false b c is now = rw now is

-- what begins no commit leaves the package to which a roll back leads
pub base_other : (old : SessionState) (request : Request) (reply : Reply) → is_commit request ≡ false → base_after old request reply ≡ old.base
base_other old asked.commit reply other = absurd (cc)
base_other old request reply other = refl

pub no_commit : (request : Request) → is_changing request ≡ true → is_commit request ≡ false
no_commit asked.commit is = absurd (cc)
no_commit request is = refl

pub no_commit_read : (request : Request) → is_reading request ≡ true → is_commit request ≡ false
no_commit_read asked.commit is = absurd (cc)
no_commit_read request is = refl

pub unread : (request : Request) → is_changing request ≡ true → is_reading request ≡ false
unread (asked.select q) is = absurd (cc)
unread asked.tables is = absurd (cc)
unread (asked.columns name) is = absurd (cc)
unread asked.streams is = absurd (cc)
unread (asked.read_stream name) is = absurd (cc)
unread asked.has_signature is = absurd (cc)
unread asked.summary is = absurd (cc)
unread asked.codepage is = absurd (cc)
unread request is = refl

pub unchanging : (request : Request) → is_reading request ≡ true → is_changing request ≡ false
unchanging request is = rw is refl

-- what reads nothing doesn't ask for the code page
pub unread_codepage : (request : Request) → is_reading request ≡ false → is_codepage request ≡ false
unread_codepage asked.codepage is = absurd (cc)
unread_codepage request is = refl

-- neither what changes nor what reads writes
pub unwritten : (request : Request) → is_changing request ≡ true → is_writing request ≡ false
unwritten asked.flush is = absurd (cc)
unwritten asked.commit is = absurd (cc)
unwritten request is = refl

pub unwritten_read : (request : Request) → is_reading request ≡ true → is_writing request ≡ false
unwritten_read asked.flush is = absurd (cc)
unwritten_read asked.commit is = absurd (cc)
unwritten_read request is = refl

pub step_refused : (letters : CaseTable) (P : PackageContent) (request : Request) → is_changing request ≡ true → StepAs false letters P request (told.refused InvalidData) P
step_refused letters P request changing = rw changing (refl, refl)

-- an answer is the step's, or bytes are too many
abbrev pub StepOr : CaseTable → PackageContent → Request → Result (Unit {0}) Error → PackageContent → Type 0
StepOr letters P request answer Q = PackageStep letters P request (told_of answer) Q ⊎ ((answer ≡ Err InvalidInput) × IsTooMuch P request)

module _ {F : Type 0} {g : Ghosts F} where
  -- it goes somewhere
  abbrev pub Leads : Package F g → CaseTable → SessionState → Request → Reply → Type 0
  Leads new letters start request reply = (end : SessionState) × CommandStep letters start request reply end × IsAt new end

  -- the medium of a package that has not failed has not, and the other way
  pub medium_live : (it : Package F g) → failed_in it ≡ false → g.failed (medium_in (file_in it)) ≡ false
  medium_live it live = second_false (has_failed_here (allocator_of (mini_of (file_in it)))) (g.failed (medium_in (file_in it))) live

  pub package_live : (it : Package F g) → has_failed_here (allocator_of (mini_of (file_in it))) ≡ false → g.failed (medium_in (file_in it)) ≡ false → failed_in it ≡ false
  package_live it here medium = both_false (has_failed_here (allocator_of (mini_of (file_in it)))) (g.failed (medium_in (file_in it))) here medium

  -- what no call but a commit changes
  pub record Moves (old new : Package F g) : Type 0 where
    pub counted : g.failures (medium_in (file_in old)) ≤ g.failures (medium_in (file_in new))
    pub as_failed : g.failed (medium_in (file_in old)) ≡ g.failed (medium_in (file_in new))
    pub sound : sound_in new ≡ sound_in old

  -- where it lives yet it has not failed
  pub live_yet : (old new : Package F g) → Moves old new → failed_in old ≡ false → has_failed_here (allocator_of (mini_of (file_in new))) ≡ false → failed_in new ≡ false
  live_yet old new moves live here =
      none_failed (has_failed_here (allocator_of (mini_of (file_in old)))) (has_failed_here (allocator_of (mini_of (file_in new)))) (g.failed (medium_in (file_in new))) (rw (sym moves.as_failed) live) here

module _ {F : Type 0} {g : Ghosts F} (refl_continues : (m : F) → g.continues m m) (continues_keeps : (a b : F) → g.continues a b → KeepsMediumState g.honest g.failed g.failures a b) where
  pub moves_on : (old new : Package F g) → KeepsFileInvariants (allocator_of (mini_of (file_in old))) (allocator_of (mini_of (file_in new))) → sound_in new ≡ sound_in old → Moves old new
  moves_on old new on sound =
      let keeps = continues_keeps (medium_in (file_in old)) (medium_in (file_in new)) (on.continues (medium_in (file_in old)) (refl_continues (medium_in (file_in old)))) in
      record { counted = keeps.counted; as_failed = keeps.as_failed; sound = sound }

-- a call of a package that has not failed, by whose place in its course it begins
module _ {F : Type 0} {g : Ghosts F} (old new : Package F g) (start : SessionState) (at : IsAt old start) (live : failed_in old ≡ false)
    (counted : g.failures (medium_in (file_in old)) ≤ g.failures (medium_in (file_in new))) (sound : sound_in new ≡ sound_in old) where
  abbrev pub letters : CaseTable
  letters = file_case_table (file_in old)

  pub was : start.phase ≡ running
  was = at.phase ∙ ap phase_of live

  pub held_here : PackageHasContent old start.held
  held_here = at.held was

  pub more : start.failures ≤ g.failures (medium_in (file_in new))
  more = rw at.failures counted

  -- the course after a call that leaves another package
  abbrev pub with_held : PackageContent → SessionState
  with_held P = record start { held = P; failures = g.failures (medium_in (file_in new)) }

  pub held_at : (P : PackageContent) → failed_in new ≡ false → PackageHasContent new P → IsAt new (with_held P)
  held_at P now held = record { phase = was ∙ ap phase_of (sym now); held = λ _. held; failures = refl; sound = at.sound ∙ sym sound }

  -- it came to nothing, and nothing is changed; what leads back stays
  pub kept_based : (request : Request) (e : Error) → is_codepage request ≡ false → IsUndone start request e (with_held start.held) → failed_in new ≡ false → PackageHasContent new start.held
      → (end : SessionState) × CommandStep letters start request (told.refused e) end × IsAt new end × (end.base ≡ start.base) × (end.sound ≡ start.sound)
  kept_based request e other is now held = (with_held start.held, stays e was refl is other refl more, held_at start.held now held, refl, refl)

  -- there was a fault: nothing is changed, or it has failed; what leads back stays
  pub undone_based : (request : Request) (e : Error) → is_reading request ≡ false → ((end : SessionState) → end.failures ≡ g.failures (medium_in (file_in new)) → IsSessionFault start request e end)
      → (failed_in new ≡ true) ⊎ KeepsHeld old new → (end : SessionState) × CommandStep letters start request (told.refused e) end × IsAt new end × (end.base ≡ start.base) × (end.sound ≡ start.sound)
  undone_based request e unread is kept = ⊎_elim
      (λ now. (
        record start { failures = g.failures (medium_in (file_in new)); phase = failed },
        fails e was refl (is (record start { failures = g.failures (medium_in (file_in new)); phase = failed }) refl) unread refl (inl refl) more,
        record { phase = ap phase_of (sym now); held = λ no. absurd (cc); failures = refl; sound = at.sound ∙ sym sound },
        refl,
        refl,
      ))
      (λ now. (
        with_held start.held,
        stays e was refl (inl (is (with_held start.held) refl)) (unread_codepage request unread) refl more,
        held_at start.held now (⊎_elim (λ failed. absurd (both_ways (failed_in new) now failed)) (λ keeps. keeps.holds start.held held_here) kept),
        refl,
        refl,
      )) (by_sound (failed_in new))

  pub undone : (request : Request) (e : Error) → is_reading request ≡ false → ((end : SessionState) → end.failures ≡ g.failures (medium_in (file_in new)) → IsSessionFault start request e end)
      → (failed_in new ≡ true) ⊎ KeepsHeld old new → Leads new letters start request (told.refused e)
  undone request e unread is kept = (let went = undone_based request e unread is kept in (went.0, went.1, went.2))

  -- it took a step and has not failed
  pub stepped : (request : Request) (reply : Reply) (P : PackageContent) → is_commit request ≡ false → StepAs start.sound letters start.held request reply P → failed_in new ≡ false → PackageHasContent new P
      → Leads new letters start request reply
  stepped request reply P other step now held =
      (with_held P, steps was step (sym (base_other start request reply other)) was refl more, held_at P now held)

  -- it met a fault, and the package stays
  pub lost : (request : Request) (e : Error) → is_codepage request ≡ false → IsUndone start request e (with_held start.held) → failed_in new ≡ false → PackageHasContent new start.held
      → Leads new letters start request (told.refused e)
  lost request e other is now held = (with_held start.held, stays e was refl is other refl more, held_at start.held now held)

-- the step of a sound package, or of any where the command reads
pub step_of_sound : (letters : CaseTable) (sound : Bool) (P Q : PackageContent) (request : Request) (reply : Reply) → sound ≡ true → PackageStep letters P request reply Q → StepAs sound letters P request reply Q
step_of_sound letters sound P Q request reply is step = rw is step

pub step_of_reading : (letters : CaseTable) (sound : Bool) (P Q : PackageContent) (request : Request) (reply : Reply) → is_changing request ≡ false → PackageStep letters P request reply Q → StepAs sound letters P request reply Q
step_of_reading letters true P Q request reply reading step = step
step_of_reading letters false P Q request reply reading step = rw reading step

module _ {F : Type 0} {g : Ghosts F} (refl_continues : (m : F) → g.continues m m) (old new : Package F g) (start : SessionState) (at : IsAt old start) (live : failed_in old ≡ false) (moves : Moves old new) where
  -- a fault
  pub faulted : (request : Request) (e : Error) → is_reading request ≡ false → (e ≡ Full → takes_room request ≡ true) → IsJustifiedBySectors (allocator_of (mini_of (file_in old))) (allocator_of (mini_of (file_in new))) e → IsFaultOrFull e
      → (failed_in new ≡ true) ⊎ KeepsHeld old new → Leads new (file_case_table (file_in old)) start request (told.refused e)
  faulted request e unread room cause fault kept =
      undone old new start at live moves.counted moves.sound request e unread (λ end last. fault_of refl_continues old new start end request e room live at.failures last cause fault) kept

  -- the package that was held is held, and nothing has failed
  kept_live : KeepsHeld old new → (failed_in new ≡ false) × PackageHasContent new start.held
  kept_live keeps =
      let held = keeps.holds start.held (held_here old new start at live moves.counted moves.sound) in
      (live_yet old new moves live held.file.live, held)

  -- a step by which the package stays
  pub goes_told : (request : Request) (reply : Reply) → is_commit request ≡ false → KeepsHeld old new → StepAs start.sound (file_case_table (file_in old)) start.held request reply start.held
      → Leads new (file_case_table (file_in old)) start request reply
  goes_told request reply other keeps step = let kept = kept_live keeps in stepped old new start at live moves.counted moves.sound request reply start.held other step kept.0 kept.1

  -- it meets a fault, and the package stays
  pub goes_lost : (request : Request) (e : Error) → KeepsHeld old new → is_codepage request ≡ false
      → IsUndone start request e (record start { held = start.held; failures = g.failures (medium_in (file_in new)) }) → Leads new (file_case_table (file_in old)) start request (told.refused e)
  goes_lost request e keeps other is = let kept = kept_live keeps in lost old new start at live moves.counted moves.sound request e other is kept.0 kept.1

  module _ (rule : PackageRule) (request : Request) (changing : is_changing request ≡ true)
      (step : (P Q : PackageContent) (answer : Result (Unit {0}) Error) → rule P Q answer → StepOr (file_case_table (file_in old)) P request answer Q) where
    refused_stays : (e : Error) → start.sound ≡ true → KeepsHeld old new → StepOr (file_case_table (file_in old)) start.held request (Err e) start.held → Leads new (file_case_table (file_in old)) start request (told.refused e)
    refused_stays e sound keeps is = ⊎_elim
        (λ own. goes_told request (told.refused e) (no_commit request changing) keeps (step_of_sound (file_case_table (file_in old)) start.sound start.held start.held request (told.refused e) sound own))
        (λ much. goes_lost request e keeps (unread_codepage request (unread request changing)) (inr (err_is {X = Unit {0}} e InvalidInput much.0, much.1))) is

    -- a change of a sound package
    goes_sound : (result : Result (Unit {0}) Error) → PackageChanges rule result old new → IfErr result (IsJustifiedBySectors (allocator_of (mini_of (file_in old))) (allocator_of (mini_of (file_in new))))
        → IfErr result (λ e. e ≡ Full → takes_room request ≡ true) → start.sound ≡ true → Leads new (file_case_table (file_in old)) start request (told_of result)
    goes_sound (Ok u) changes cause room sound =
        let made = changes.done start.held (held_here old new start at live moves.counted moves.sound) in
        let own : PackageStep (file_case_table (file_in old)) start.held request told.done made.0 = ⊎_elim (λ is. is) (λ much. absurd (not_ok much.0)) (step start.held made.0 (Ok tt) made.1) in
        stepped old new start at live moves.counted moves.sound request told.done made.0 (no_commit request changing)
        (step_of_sound (file_case_table (file_in old)) start.sound start.held made.0 request told.done sound own) (live_yet old new moves live made.2.file.live) made.2
    goes_sound (Err e) changes cause room sound = ⊎_elim
        (λ fault. faulted request e (unread request changing) room cause fault changes.rests)
        (λ rule. refused_stays e sound rule.1 (step start.held start.held (Err e) rule.0))
        (changes.refused start.held (held_here old new start at live moves.counted moves.sound) (sym at.sound ∙ sound))

    -- of another
    goes_unsound : (result : Result (Unit {0}) Error) → PackageChanges rule result old new → start.sound ≡ false → Leads new (file_case_table (file_in old)) start request (told_of result)
    goes_unsound (Ok u) changes unsound = absurd (not_ok (changes.unsound live (sym at.sound ∙ unsound)).0)
    goes_unsound (Err e) changes unsound =
        let both = changes.unsound live (sym at.sound ∙ unsound) in
        let is : e ≡ InvalidData = err_is {X = Unit {0}} e InvalidData both.0 in
        goes_told request (told.refused e) (no_commit request changing) both.1 (rw unsound (rw is (step_refused (file_case_table (file_in old)) start.held request changing)))

    pub goes_changes : (result : Result (Unit {0}) Error) → PackageChanges rule result old new → IfErr result (IsJustifiedBySectors (allocator_of (mini_of (file_in old))) (allocator_of (mini_of (file_in new))))
        → IfErr result (λ e. e ≡ Full → takes_room request ≡ true) → Leads new (file_case_table (file_in old)) start request (told_of result)
    goes_changes result changes cause room = ⊎_elim (λ sound. goes_sound result changes cause room sound) (λ unsound. goes_unsound result changes unsound) (by_sound start.sound)
