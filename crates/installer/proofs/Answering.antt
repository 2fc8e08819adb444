-- What the commands of a session do that publish nothing.
use Rattle.std.proofs.Common.{◌≡◌, ◌⊎◌, ◌≤◌, ◌||◌, ◌∙◌, Bool, ap, ap₂, arith, false, inl, inr, refl, rules, subst, sym, true, ⊎_elim}
use Rattle.std.proofs.lemmas.Bool.{both_ways}
use Rattle.std.proofs.lemmas.Result.{IfErr-weaker}
use Rattle.std.specs.Prelude.{Err, IfErr, Ok, Result, not}
use Rattle.cfb.specs.Publishing.{medium_in}
use Rattle.cfb.specs.Views.{mini_of}
use Rattle.cfb.specs.declared.compound_file.CompoundFile.{CompoundFile}
use Rattle.cfb_fat.specs.Keeping.{own_cause, rests_keep}
use Rattle.cfb_fat.specs.Tables.{has_failed_here, IsJustifiedBySectors}
use Rattle.cfb_fat.specs.declared.allocator.Allocator.{Allocator}
use Rattle.cfb_medium.specs.Calls.{IsFaultOrInvalidInputIf, KeepsMediumState}
use Rattle.cfb_medium.specs.declared.error.Error.{Error}
use Rattle.cfb_medium.specs.declared.error.Error.TheVariants.{Device, Failed, Full, InvalidData, InvalidInput, Memory, NotFound}
use Rattle.cfb_medium.specs.declared.medium.ReadMedium.{Ghosts}
use Rattle.cfb_mini.specs.Views.{allocator_of}
use Rattle.cfb_chain_io.specs.ChainEffects.{KeepsFileInvariants}
use Rattle.command_file.specs.Request as asked
use Rattle.command_file.specs.Request.{Request, is_changing, is_codepage, is_reading, is_writing}
use Rattle.msi.specs.Changing.{permission, IsRemovalError, KeepsHeld, PackageChanges, PackageWrites}
use Rattle.msi.specs.Opened.{file_in, sound_in, PackageHasContent, OnlyReadsPackage}
use Rattle.msi.specs.declared.package.Package.{Package}
use Rattle.msi_spec.specs.Package.{PackageContent}
use Rattle.msi_stored.proofs.StoredLaws.{file_refl}
use Rattle.msi_stored.specs.Changing.{PackageRule}
use Rattle.installer.proofs.Faults.{own_fault_of}
use Rattle.installer.proofs.Going.{err_is, goes_changes, goes_lost, goes_told, moves_on, no_commit, no_commit_read, not_ok, step_of_reading, step_refused, unchanging, unread, unwritten, unwritten_read, Moves, StepOr}
use Rattle.msi_copies.proofs.Resting.{keeps_rests, rests_on}
use Rattle.installer.proofs.Writing.{goes_writes}
use Rattle.installer.specs.Behaviour.{BehavesOnce, is_answer_to}
use Rattle.installer.specs.SessionStates.{SessionState, takes_room}
use Rattle.installer.specs.CommandRuns.{RunsWithoutPublishing}
use Rattle.installer.specs.Reply.{Reply}
use Rattle.installer.specs.Reply as told
use Rattle.installer.specs.Sessions.{condition_of, has_base, is_failed, is_sound, package_in, phase_of, IsAt}
use Rattle.installer.specs.Sessions.{session_case_table as session_letters}
use Rattle.installer.specs.Step.{Reads, PackageStep, told_of}
use Rattle.installer.specs.declared.session.SessionOver.{SessionOver}
use Rattle.msi_texts.specs.Results.{◌>>=◌}

-- the answer of a definition, and its refusal, as what is told
pub reads_ok : {B : Type 0} (expected : Result B Error) (b : B) (tell : B → Reply) (P : PackageContent) (reply : Reply) → expected ≡ Ok b → reply ≡ tell b → Reads (expected >>= λ x. Ok (tell x)) P P reply
reads_ok expected b tell P reply is same = rw is (refl, same)

pub reads_err : {B : Type 0} (expected : Result B Error) (e : Error) (tell : B → Reply) (P : PackageContent) → expected ≡ Err e → Reads (expected >>= λ x. Ok (tell x)) P P (told.refused e)
reads_err expected e tell P is = rw is (refl, refl)

pub stays_on : {F : Type 0} {g : Ghosts F} (it : Allocator F g) → KeepsFileInvariants it it
stays_on it = record { honest = refl; continues = λ start from. from; version = refl; live = λ is. is; orderly = λ _. refl; told = λ _ _ _ is. is; ends = λ live honest orderly ends. ends }

-- an error that comes neither from a device, nor from an earlier fault, nor from want of numbers
pub record IsOwn (e : Error) : Type 0 where
  pub device : e ≡ Device → ⊥
  pub earlier : e ≡ Failed → ⊥
  pub full : e ≡ Full → ⊥

pub data_own : (e : Error) → e ≡ InvalidData → IsOwn e
data_own e is = rw is (record { device = λ no. absurd (cc); earlier = λ no. absurd (cc); full = λ no. absurd (cc) })

pub memory_own : (e : Error) → e ≡ Memory → IsOwn e
memory_own e is = rw is (record { device = λ no. absurd (cc); earlier = λ no. absurd (cc); full = λ no. absurd (cc) })

pub refusal_own : (e : Error) → (e ≡ NotFound) ⊎ (e ≡ InvalidInput) → IsOwn e
refusal_own e (inl is) = rw is (record { device = λ no. absurd (cc); earlier = λ no. absurd (cc); full = λ no. absurd (cc) })
refusal_own e (inr is) = rw is (record { device = λ no. absurd (cc); earlier = λ no. absurd (cc); full = λ no. absurd (cc) })

-- nor does the refusal of what removes
pub removal_fits : (e : Error) → IsRemovalError e → e ≡ Full → ⊥
removal_fits e (inl fault) full = subst (IsFaultOrInvalidInputIf ⊥) full fault
removal_fits e (inr (inl is)) full = let never : NotFound ≡ Full = sym is ∙ full in absurd (cc)
removal_fits e (inr (inr (inl is))) full = let never : InvalidInput ≡ Full = sym is ∙ full in absurd (cc)
removal_fits e (inr (inr (inr is))) full = let never : InvalidData ≡ Full = sym is ∙ full in absurd (cc)

-- what may need numbers may be told that some are missing
pub may_fill : {A : Type 0} (result : Result (Unit {0}) Error) → A → IfErr result (λ e. e ≡ Full → A)
may_fill (Ok u) is = tt
may_fill (Err e) is = λ _. is

-- such an error has its cause
pub cause_own : {F : Type 0} {g : Ghosts F} (old new : Package F g) (e : Error) → IsOwn e → IsJustifiedBySectors (allocator_of (mini_of (file_in old))) (allocator_of (mini_of (file_in new))) e
cause_own old new e own = own_cause (allocator_of (mini_of (file_in old))) (allocator_of (mini_of (file_in new))) e own.device (λ failed. absurd (own.earlier failed))

-- such is the refusal of a change that isn't permitted, unless there was a fault
pub permission_own : (failed sound : Bool) (r : Result (Unit {0}) Error) → failed ≡ false → r ≡ permission failed sound → IfErr r IsOwn
permission_own failed sound (Ok u) live is = tt
permission_own failed true (Err e) live is = absurd (not_ok (sym (is ∙ ap (λ f. permission f true) live)))
permission_own failed false (Err e) live is = data_own e (err_is {X = Unit {0}} e InvalidData (is ∙ ap (λ f. permission f false) live))

-- a package that isn't touched
pub rests_itself : {F : Type 0} {g : Ghosts F} (it : Package F g) → OnlyReadsPackage it it
rests_itself it = record { file = file_refl (file_in it); tables = refl; kind = refl; pool = refl; summary = refl; sound = refl; written = refl }

same_refusal : (e f : Error) → told.refused e ≡ told.refused f → e ≡ f
same_refusal e f is = search (rules, is)

-- the error that is told is the call's
pub told_error : (result : Result (Unit {0}) Error) (reply : Reply) (P : Error → Type 0) (e : Error) → reply ≡ told_of result → IfErr result P → reply ≡ told.refused e → P e
told_error (Ok u) reply P e is each refused = let never : told.done ≡ told.refused e = sym is ∙ refused in absurd (cc)
told_error (Err own) reply P e is each refused = let both : told.refused own ≡ told.refused e = sym is ∙ refused in subst P (same_refusal own e both) each

-- that it was done, or why not, answers what reads nothing
pub told_kind : (request : Request) → is_reading request ≡ false → (result : Result (Unit {0}) Error) (reply : Reply) → reply ≡ told_of result → is_answer_to request reply ≡ true
told_kind request unread (Ok u) reply is = ap (is_answer_to request) is ∙ ap not unread
told_kind request unread (Err e) reply is = ap (is_answer_to request) is

-- an error is told
abbrev pub is_refused : Reply → Bool
is_refused (told.refused e) = true
is_refused reply = false

no_refusal : (reply : Reply) (e : Error) → is_refused reply ≡ false → reply ≡ told.refused e → ⊥
no_refusal reply e other is = both_ways (is_refused reply) other (ap is_refused is)

no_codepage : (request : Request) → is_changing request ≡ true → is_codepage request ≡ false
no_codepage asked.codepage is = absurd (cc)
no_codepage request is = refl

-- how one behaves after a fault
pub behaves_ended : {F : Type 0} {g : Ghosts F} (it : SessionOver F g) (request : Request) → is_failed it ≡ true → BehavesOnce (condition_of it) request (told.refused Failed) (condition_of it)
behaves_ended it request failed = record {
  kind = refl;
  ended = λ _ _. (refl, refl);
  live = λ live _. both_ways (is_failed it) live failed;
  device = λ is. absurd (cc);
  reading = λ _. refl;
  codepage = λ live. absurd (both_ways (is_failed it) live failed);
  unsound = λ live. absurd (both_ways (is_failed it) live failed);
  writing = λ live. absurd (both_ways (is_failed it) live failed);
  sound = refl;
  counted = omega arith;
}

-- how a command behaves before a fault
pub behaves_live : {F : Type 0} {g : Ghosts F} (refl_continues : (m : F) → g.continues m m) (old new : SessionOver F g) → is_failed old ≡ false → (request : Request) (reply : Reply)
    → g.failures (medium_in (file_in (package_in old))) ≤ g.failures (medium_in (file_in (package_in new))) → sound_in (package_in new) ≡ sound_in (package_in old)
    → ((e : Error) → reply ≡ told.refused e → IsJustifiedBySectors (allocator_of (mini_of (file_in (package_in old)))) (allocator_of (mini_of (file_in (package_in new)))) e)
    → ((e : Error) → reply ≡ told.refused e → is_codepage request ≡ false) → (is_reading request ≡ true → is_failed new ≡ false)
    → (sound_in (package_in old) ≡ false → is_changing request ≡ true → reply ≡ told.refused InvalidData)
    → (sound_in (package_in old) ≡ false → is_writing request ≡ true → reply ≡ told.done) → is_answer_to request reply ≡ true
    → BehavesOnce (condition_of old) request reply (condition_of new)
behaves_live refl_continues old new live request reply counted sound caused other reading unsound writing kind =
    let start = medium_in (file_in (package_in old)) in
    record {
      kind = kind;
      ended = λ failed _. absurd (both_ways (is_failed old) live failed);
      live = λ _ is. both_ways (is_failed old) live ((caused Failed is start (refl_continues start)).earlier refl);
      device = λ is. (caused Device is start (refl_continues start)).device refl;
      reading = λ is. reading is ∙ sym live;
      codepage = λ _ page e is. both_ways (is_codepage request) (other e is) page;
      unsound = λ _. unsound;
      writing = λ _. writing;
      sound = sound;
      counted = counted;
    }

module _ {F : Type 0} {g : Ghosts F} (refl_continues : (m : F) → g.continues m m) (continues_keeps : (a b : F) → g.continues a b → KeepsMediumState g.honest g.failed g.failures a b)
    (old new : SessionOver F g) (live : is_failed old ≡ false) (based : has_base new ≡ has_base old) where
  -- a change
  pub answers_changes : (rule : PackageRule) (request : Request) (reply : Reply) (result : Result (Unit {0}) Error) → is_changing request ≡ true
      → ((P Q : PackageContent) (answer : Result (Unit {0}) Error) → rule P Q answer → StepOr (session_letters old) P request answer Q)
      → PackageChanges rule result (package_in old) (package_in new)
      → KeepsFileInvariants (allocator_of (mini_of (file_in (package_in old)))) (allocator_of (mini_of (file_in (package_in new))))
      → IfErr result (IsJustifiedBySectors (allocator_of (mini_of (file_in (package_in old)))) (allocator_of (mini_of (file_in (package_in new)))))
      → IfErr result (λ e. e ≡ Full → takes_room request ≡ true) → reply ≡ told_of result → RunsWithoutPublishing request reply old new
  answers_changes rule request reply result changing step changes on cause room is = record {
    by_rule = record {
      goes = λ start at. rw is (
          goes_changes refl_continues (package_in old) (package_in new) start at live (moves_on refl_continues continues_keeps (package_in old) (package_in new) on changes.seen.1)
          rule request changing step result changes cause room
          );
      letters = changes.seen.0;
      sound = changes.seen.1;
    };
    behaves = behaves_live refl_continues old new live request reply (moves_on refl_continues continues_keeps (package_in old) (package_in new) on changes.seen.1).counted changes.seen.1
        (λ e told. told_error result reply (IsJustifiedBySectors (allocator_of (mini_of (file_in (package_in old)))) (allocator_of (mini_of (file_in (package_in new))))) e is cause told)
        (λ e told. no_codepage request changing) (λ reads. absurd (both_ways (is_reading request) (unread request changing) reads))
        (λ unsound _. is ∙ ap told_of (changes.unsound live unsound).0) (λ _ writes. absurd (both_ways (is_writing request) (unwritten request changing) writes)) (told_kind request (unread request changing) result reply is);
    based = based;
    quiet = on;
  }

  -- a change in memory alone
  pub answers_in_memory : (rule : PackageRule) (request : Request) (reply : Reply) (result : Result (Unit {0}) Error) → is_changing request ≡ true
      → ((P Q : PackageContent) (answer : Result (Unit {0}) Error) → rule P Q answer → StepOr (session_letters old) P request answer Q)
      → PackageChanges rule result (package_in old) (package_in new) → file_in (package_in new) ≡ file_in (package_in old) → IfErr result IsOwn → reply ≡ told_of result → RunsWithoutPublishing request reply old new
  answers_in_memory rule request reply result changing step changes same own is =
      let before = allocator_of (mini_of (file_in (package_in old))) in
      answers_changes rule request reply result changing step changes (subst (λ (f : CompoundFile F g). KeepsFileInvariants before (allocator_of (mini_of f))) (sym same) (stays_on before))
      (IfErr-weaker result IsOwn (IsJustifiedBySectors before (allocator_of (mini_of (file_in (package_in new))))) (λ e owns. own_cause before (allocator_of (mini_of (file_in (package_in new)))) e owns.device (λ failed. absurd (owns.earlier failed))) own)
      (IfErr-weaker result IsOwn (λ e. e ≡ Full → takes_room request ≡ true) (λ e owns full. absurd (owns.full full)) own) is

  -- a flush
  pub answers_writes : (reply : Reply) (result : Result (Unit {0}) Error) → PackageWrites result (package_in old) (package_in new)
      → KeepsFileInvariants (allocator_of (mini_of (file_in (package_in old)))) (allocator_of (mini_of (file_in (package_in new))))
      → IfErr result (IsJustifiedBySectors (allocator_of (mini_of (file_in (package_in old)))) (allocator_of (mini_of (file_in (package_in new)))))
      → reply ≡ told_of result → RunsWithoutPublishing asked.flush reply old new
  answers_writes reply result writes on cause is = record {
    by_rule = record {
      goes = λ start at. rw is (
          goes_writes refl_continues (package_in old) (package_in new) start at live result (moves_on refl_continues continues_keeps (package_in old) (package_in new) on writes.seen.1) writes cause
          );
      letters = writes.seen.0;
      sound = writes.seen.1;
    };
    behaves = behaves_live refl_continues old new live asked.flush reply (moves_on refl_continues continues_keeps (package_in old) (package_in new) on writes.seen.1).counted writes.seen.1
        (λ e told. told_error result reply (IsJustifiedBySectors (allocator_of (mini_of (file_in (package_in old)))) (allocator_of (mini_of (file_in (package_in new))))) e is cause told)
        (λ e told. refl) (λ reads. absurd (cc)) (λ unsound changes. absurd (cc)) (λ unsound _. is ∙ ap told_of (writes.unsound live unsound).0) (told_kind asked.flush refl result reply is);
    based = based;
    quiet = on;
  }

  module _ (rests : OnlyReadsPackage (package_in old) (package_in new)) where
    on : KeepsFileInvariants (allocator_of (mini_of (file_in (package_in old)))) (allocator_of (mini_of (file_in (package_in new))))
    on = rests_on (package_in old) (package_in new) rests

    moves : Moves (package_in old) (package_in new)
    moves = moves_on refl_continues continues_keeps (package_in old) (package_in new) on rests.sound

    keeps : KeepsHeld (package_in old) (package_in new)
    keeps = keeps_rests (package_in old) (package_in new) rests

    -- no fault has ended it
    rested : is_failed new ≡ false
    rested =
        let here : has_failed_here (allocator_of (mini_of (file_in (package_in new)))) ≡ has_failed_here (allocator_of (mini_of (file_in (package_in old)))) =
        (rests_keep (allocator_of (mini_of (file_in (package_in old)))) (allocator_of (mini_of (file_in (package_in new)))) rests.file.mini.directory.allocator).1 in
        ap₂ (λ a b. a || b) here (sym moves.as_failed) ∙ live

    behaves_reading : (request : Request) (reply : Reply) → is_reading request ≡ true
        → ((e : Error) → reply ≡ told.refused e → IsJustifiedBySectors (allocator_of (mini_of (file_in (package_in old)))) (allocator_of (mini_of (file_in (package_in new)))) e)
        → ((e : Error) → reply ≡ told.refused e → is_codepage request ≡ false) → is_answer_to request reply ≡ true → BehavesOnce (condition_of old) request reply (condition_of new)
    behaves_reading request reply reading caused other kind =
        behaves_live refl_continues old new live request reply moves.counted rests.sound caused other (λ _. rested)
        (λ _ changing. absurd (both_ways (is_changing request) (unchanging request reading) changing)) (λ _ writes. absurd (both_ways (is_writing request) (unwritten_read request reading) writes)) kind

    held_at : (start : SessionState) → IsAt (package_in old) start → PackageHasContent (package_in old) start.held
    held_at start at = at.held (at.phase ∙ ap phase_of live)

    -- a call that reads, whose answer is that of the package that is held
    pub answers_told : (request : Request) (reply : Reply) → is_reading request ≡ true → is_refused reply ≡ false → is_answer_to request reply ≡ true
        → ((P : PackageContent) → PackageHasContent (package_in old) P → PackageStep (session_letters old) P request reply P) → RunsWithoutPublishing request reply old new
    answers_told request reply reading other kind step = record {
      by_rule = record {
        goes = λ start at. goes_told refl_continues (package_in old) (package_in new) start at live moves request reply (no_commit_read request reading) keeps
            (step_of_reading (session_letters old) start.sound start.held start.held request reply (unchanging request reading) (step start.held (held_at start at)));
        letters = rests.file.letters;
        sound = rests.sound;
      };
      behaves = behaves_reading request reply reading (λ e is. absurd (no_refusal reply e other is)) (λ e is. absurd (no_refusal reply e other is)) kind;
      based = based;
      quiet = on;
    }

    -- it is refused as the package that is held refuses it, or by a fault with a cause
    pub answers_refused : (request : Request) (e : Error) → is_reading request ≡ true → is_codepage request ≡ false
        → IsJustifiedBySectors (allocator_of (mini_of (file_in (package_in old)))) (allocator_of (mini_of (file_in (package_in new)))) e
        → ((P : PackageContent) → PackageHasContent (package_in old) P → IsFaultOrInvalidInputIf ⊥ e ⊎ PackageStep (session_letters old) P request (told.refused e) P)
        → RunsWithoutPublishing request (told.refused e) old new
    answers_refused request e reading other cause is = record {
      by_rule = record {
        goes = λ start at. ⊎_elim
            (λ fault. goes_lost refl_continues (package_in old) (package_in new) start at live moves request e keeps other
            (inl (own_fault_of refl_continues (package_in old) (package_in new) start (record start { held = start.held; failures = g.failures (medium_in (file_in (package_in new))) }) request e live at.failures refl cause fault)))
            (λ step. goes_told refl_continues (package_in old) (package_in new) start at live moves request (told.refused e) (no_commit_read request reading) keeps
            (step_of_reading (session_letters old) start.sound start.held start.held request (told.refused e) (unchanging request reading) step)) (is start.held (held_at start at));
        letters = rests.file.letters;
        sound = rests.sound;
      };
      behaves = behaves_reading request (told.refused e) reading
          (λ f is. subst (IsJustifiedBySectors (allocator_of (mini_of (file_in (package_in old)))) (allocator_of (mini_of (file_in (package_in new))))) (same_refusal e f is) cause) (λ f is. other) refl;
      based = based;
      quiet = on;
    }

    -- there is no memory for the answer of what reads, or for a change of a sound package
    pub answers_memory : (request : Request) (e : Error) → is_codepage request ≡ false → e ≡ Memory → (is_sound old ≡ false → is_reading request ≡ true) → RunsWithoutPublishing request (told.refused e) old new
    answers_memory request e other is reads = record {
      by_rule = record {
        goes = λ start at. goes_lost refl_continues (package_in old) (package_in new) start at live moves request e keeps other (inl (inl is));
        letters = rests.file.letters;
        sound = rests.sound;
      };
      behaves = behaves_live refl_continues old new live request (told.refused e) moves.counted rests.sound
          (λ f told. cause_own (package_in old) (package_in new) f (memory_own f (sym (same_refusal e f told) ∙ is))) (λ f told. other) (λ _. rested)
          (λ unsound changes. absurd (both_ways (is_changing request) (unchanging request (reads unsound)) changes))
          (λ unsound writes. absurd (both_ways (is_writing request) (unwritten_read request (reads unsound)) writes)) refl;
      based = based;
      quiet = on;
    }

    -- a change of a package that isn't sound
    pub answers_unsound : (request : Request) → is_changing request ≡ true → is_sound old ≡ false → RunsWithoutPublishing request (told.refused InvalidData) old new
    answers_unsound request changing unsound = record {
      by_rule = record {
        goes = λ start at. goes_told refl_continues (package_in old) (package_in new) start at live moves request (told.refused InvalidData) (no_commit request changing) keeps
            (rw (at.sound ∙ unsound) (step_refused (session_letters old) start.held request changing));
        letters = rests.file.letters;
        sound = rests.sound;
      };
      behaves = behaves_live refl_continues old new live request (told.refused InvalidData) moves.counted rests.sound
          (λ f told. cause_own (package_in old) (package_in new) f (data_own f (sym (same_refusal InvalidData f told)))) (λ f told. no_codepage request changing) (λ _. rested)
          (λ _ _. refl) (λ _ writes. absurd (both_ways (is_writing request) (unwritten request changing) writes)) refl;
      based = based;
      quiet = on;
    }
