-- How one command of a session goes, over a device.
use Rattle.std.proofs.Common.{◌≡◌, ◌⊎◌, ◌≤◌, ◌∷◌, ◌∙◌, ℕ, Bool, List, [], Some, ap, false, inl, inr, refl, subst, sym, true, ⊎_elim}
use Rattle.std.proofs.lemmas.Bool.{both_ways}
use Rattle.std.specs.Prelude.{Err, IfErr, IsTrue, Ok, OnErr, OnOk, Option, Result, is_some}
use Rattle.cfb.specs.Publishing.{medium_in}
use Rattle.cfb.specs.Views as file
use Rattle.cfb.specs.Views.{mini_of}
use Rattle.cfb_fat.specs.Tables.{IsJustifiedBySectors}
use Rattle.cfb_medium.specs.Crashes.{CrashLeavesOnly}
use Rattle.cfb_medium.specs.declared.error.Error.{Error}
use Rattle.cfb_medium.specs.declared.error.Error.TheVariants.{AlreadyExists, Device, Failed, Full, InvalidData, InvalidInput, Memory, NotFound, UnexpectedEof}
use Rattle.cfb_medium.specs.declared.medium.ReadMedium.{Ghosts}
use Rattle.cfb_mini.specs.Views.{allocator_of}
use Rattle.cfb_tree.specs.Names.{CaseTable}
use Rattle.command_file.specs.Request.{Request, is_commit, is_roll_back}
use Rattle.command_file.specs.Request as asked
use Rattle.msi.specs.Changing.{failed_in}
use Rattle.msi.specs.Committing.{HoldWhatWasHeld, BytesKeepPackage, PackageCommits}
use Rattle.msi.specs.Opened.{file_in, sound_in, PackageHasContent}
use Rattle.msi.specs.declared.package.Package.{Package}
use Rattle.msi_spec.specs.Opening.{keeps_encoded_names}
use Rattle.msi_spec.specs.Package.{PackageContent}
use Rattle.staged.specs.Device.{DeviceRests}
use Rattle.staged.specs.Files.{Files}
use Rattle.staged.specs.Log.{logged, recovered}
use Rattle.staged.specs.Committed.{HasPublished}
use Rattle.staged.specs.Staged.{device_of}
use Rattle.staged.specs.declared.device.Device as device
use Rattle.staged.specs.declared.staged.Staged.{Staged}
use Rattle.installer.proofs.Answering.{behaves_ended}
use Rattle.installer.proofs.Going.{base_other}
use Rattle.installer.proofs.Stopping.{survives_commit, survives_rest}
use Rattle.installer.specs.SessionStates.{fails, marks_as, refuses, rolls, stays, steps, SessionState, CommandStep, KeepsBase, Phase}
use Rattle.installer.specs.SessionStates as phase
use Rattle.installer.specs.CommandRuns.{RunsWithoutPublishing, RunsCommand}
use Rattle.installer.specs.Reply.{Reply}
use Rattle.installer.specs.Reply as told
use Rattle.installer.specs.Sessions.{device_below, is_failed, session_case_table, package_in, phase_of, IsPublished}
use Rattle.installer.specs.Step.{told_of}
use Rattle.installer.specs.CrashSurvival.{gives, given_since, IsRecovered, IsGiven, SurvivesCrash}
use Rattle.installer.specs.declared.session.SessionOver.{SessionOver}

pub marks_other : (b : Bool) (held : PackageContent) (request : Request) (reply : Reply) (left : Phase) → is_commit request ≡ false → marks_as b held request reply left ≡ []
marks_other false held request reply left other = refl
marks_other true held asked.commit reply left other = absurd (cc)
marks_other true held request reply left other = refl

pub marks_none : (b : Bool) (held : PackageContent) (request : Request) (left : Phase) → marks_as b held request (told.refused Failed) left ≡ []
marks_none false held request left = refl
marks_none true held asked.commit left = refl
marks_none true held request left = refl

-- one that is refused where the session goes on
marks_unbegun : (held : PackageContent) (e : Error) → marks_as true held asked.commit (told.refused e) phase.running ≡ []
marks_unbegun held Failed = refl
marks_unbegun held InvalidInput = refl
marks_unbegun held Memory = refl
marks_unbegun held Device = refl
marks_unbegun held Full = refl
marks_unbegun held InvalidData = refl
marks_unbegun held NotFound = refl
marks_unbegun held AlreadyExists = refl
marks_unbegun held UnexpectedEof = refl

pub marks_refused : (held : PackageContent) (e : Error) → (e ≡ Failed → ⊥) → marks_as true held asked.commit (told.refused e) phase.failed ≡ record { held = held; done = false } ∷ []
marks_refused held Failed other = absurd (other refl)
marks_refused held InvalidInput other = refl
marks_refused held Memory other = refl
marks_refused held Device other = refl
marks_refused held Full other = refl
marks_refused held InvalidData other = refl
marks_refused held NotFound other = refl
marks_refused held AlreadyExists other = refl
marks_refused held UnexpectedEof other = refl

-- what was published, as what a recovery gives
pub published_at : {D : Type 0} (g : device.Ghosts D) (result : Result (Unit {0}) Error) (d : D) (Found : List ℕ → Type 0) → OnOk result ((bytes : List ℕ) × HasPublished g d bytes × Found bytes)
    → OnOk result ((bytes : List ℕ) × ((left : Files) → g.crash_may_leave d left → recovered left ≡ Some bytes) × Found bytes)
published_at g (Ok u) d Found p = (p.0, p.1.left, p.2)
published_at g (Err e) d Found p = tt

base_kept : (start end : SessionState) (request : Request) (e : Error) → is_commit request ≡ false → KeepsBase start request e end → end.base ≡ start.base
base_kept start end request e other (inl kept) = kept
base_kept start end request e other (inr cut) = absurd (both_ways (is_commit request) other cut.0)

-- what is no commit and no roll back leaves the package to which one leads
pub kept_quiet : (letters : CaseTable) (start end : SessionState) (request : Request) (reply : Reply) → is_commit request ≡ false → is_roll_back request ≡ false → CommandStep letters start request reply end
    → (end.base ≡ start.base) × (end.sound ≡ start.sound)
kept_quiet letters start end request reply other unrolled (steps run step base yet sound counted) = (base ∙ base_other start request reply other, sound)
kept_quiet letters start end request reply other unrolled (stays e run is undone page same counted) = (ap (λ (c : SessionState). c.base) same, ap (λ (c : SessionState). c.sound) same)
kept_quiet letters start end request reply other unrolled (fails e run is undone unread same base counted) = (base_kept start end request e other base, ap (λ (c : SessionState). c.sound) same)
kept_quiet letters start end request reply other unrolled (refuses run own is same) = (ap (λ (c : SessionState). c.base) same, ap (λ (c : SessionState). c.sound) same)
kept_quiet letters start end request reply other unrolled (rolls back goes) = absurd (both_ways (is_roll_back request) unrolled back)

module _ {D : Type 0} {g : device.Ghosts D}
    (counts_now : (d : D) (t : ℕ) (left : Files) → t ≤ g.moment d → g.crash_may_leave d left → g.crash_left_since d t left)
    (rests_keeps : (a b : D) → g.rests a b → DeviceRests g.honest g.content g.writes g.failures a b) (rests_leaves : (a b : D) → g.rests a b → CrashLeavesOnly g.moment g.crash_left_since a b (g.crash_may_leave a)) where
  -- what was published is so after reads
  pub published_yet : (a b : D) (bytes : List ℕ) → g.rests a b → IsTrue (g.honest a) → HasPublished g a bytes → HasPublished g b bytes
  published_yet a b bytes rests honest published =
      let same = (rests_keeps a b rests).same honest in
      let leaves = rests_leaves a b rests in
      record {
        home = ap (λ (files : Files). files.home) same ∙ published.home;
        closed = ap (λ (files : Files). logged files) same ∙ published.closed;
        left = λ left now. published.left left (leaves.each left (counts_now b (g.moment a) left leaves.later now));
      }

  -- a call that is no commit leaves nothing more
  pub still : (letters : CaseTable) (a b : D) → g.rests a b → SurvivesCrash letters g a b []
  still letters a b r =
      let keeps = rests_keeps a b r in
      survives_rest letters g counts_now a b (sym keeps.as_honest) keeps.counted (rests_leaves a b r)

module _ {D : Type 0} {g : device.Ghosts D} {h : Ghosts (Staged D g)}
    (counts_now : (d : D) (t : ℕ) (left : Files) → t ≤ g.moment d → g.crash_may_leave d left → g.crash_left_since d t left)
    (rests_keeps : (a b : D) → g.rests a b → DeviceRests g.honest g.content g.writes g.failures a b) (rests_leaves : (a b : D) → g.rests a b → CrashLeavesOnly g.moment g.crash_left_since a b (g.crash_may_leave a)) where
  pub published_on : (old new : SessionOver (Staged D g) h) (B : PackageContent) → g.rests (device_below old) (device_below new)
      → h.failed (medium_in (file_in (package_in old))) ≡ h.failed (medium_in (file_in (package_in new))) → session_case_table new ≡ session_case_table old → IsPublished old B → IsPublished new B
  published_on old new B rests failed letters was = record {
    live = sym failed ∙ was.live;
    honest = subst IsTrue (rests_keeps (device_below old) (device_below new) rests).as_honest was.honest;
    usable = ap keeps_encoded_names letters ∙ was.usable;
    bytes = was.bytes;
    published = published_yet counts_now rests_keeps rests_leaves (device_below old) (device_below new) was.bytes rests was.honest was.published;
    found = subst (λ l. BytesKeepPackage l was.bytes B) (sym letters) was.found;
  }

  module _ (refl_continues : (m : Staged D g) → h.continues m m) (rests : (a b : Staged D g) → h.continues a b → g.rests (device_of a) (device_of b)) (failed : (a b : Staged D g) → h.continues a b → h.failed a ≡ h.failed b) where
    pub follows_quietly : (request : Request) (reply : Reply) (old new : SessionOver (Staged D g) h) → is_commit request ≡ false → is_roll_back request ≡ false → RunsWithoutPublishing request reply old new → RunsCommand request reply old new
    follows_quietly request reply old new other unrolled answers =
        let on = answers.quiet.continues (medium_in (file_in (package_in old))) (refl_continues (medium_in (file_in (package_in old)))) in
        let rested = rests (medium_in (file_in (package_in old))) (medium_in (file_in (package_in new))) on in
        record {
          goes = λ start at.
              let there = answers.by_rule.goes start at.place in
              let kept = kept_quiet (session_case_table old) start there.0 request reply other unrolled there.1 in (
                there.0,
                there.1,
                record {
                  place = there.2;
                  based = ap is_some kept.0 ∙ at.based ∙ sym answers.based;
                  base = λ sound B is. published_on old new B rested (failed (medium_in (file_in (package_in old))) (medium_in (file_in (package_in new))) on) answers.by_rule.letters
                      (at.base (sym kept.1 ∙ sound) B (sym kept.0 ∙ is));
                },
              );
          letters = answers.by_rule.letters;
          sound = answers.by_rule.sound;
          behaves = answers.behaves;
          still = λ unsound. still counts_now rests_keeps rests_leaves (session_case_table old) (device_below old) (device_below new) rested;
          survives = λ start at. rw (marks_other start.sound start.held request reply (phase_of (is_failed new)) other) (still counts_now rests_keeps rests_leaves (session_case_table old) (device_below old) (device_below new) rested);
        }

-- a command after a fault
pub failed_follows : {D : Type 0} {g : device.Ghosts D} {h : Ghosts (Staged D g)} (it : SessionOver (Staged D g) h) (request : Request) → SurvivesCrash (session_case_table it) g (device_below it) (device_below it) [] → is_failed it ≡ true
    → is_roll_back request ≡ false → RunsCommand request (told.refused Failed) it it
failed_follows it request stay failed own = record {
  goes = λ start at. (start, refuses (at.place.phase ∙ ap phase_of failed) own refl refl, at);
  letters = refl;
  sound = refl;
  behaves = behaves_ended it request failed;
  still = λ _. stay;
  survives = λ start at. rw (marks_none start.sound start.held request (phase_of (is_failed it))) stay;
}

module _ {D : Type 0} {g : device.Ghosts D} (counts_now : (d : D) (t : ℕ) (left : Files) → t ≤ g.moment d → g.crash_may_leave d left → g.crash_left_since d t left) where
  -- what a commit leaves: what might have been left before, or bytes that are found of its package
  pub commit_survives : (letters : CaseTable) (a b : D) (P : PackageContent) (result : Result (Unit {0}) Error) → g.honest b ≡ g.honest a → g.failures a ≤ g.failures b
      → (IsTrue (g.honest a) → CrashLeavesOnly g.moment (given_since g) a b (λ given. gives g a given ⊎ IsGiven (λ bytes. IsRecovered letters bytes P) given))
      → OnOk result ((bytes : List ℕ) × ((left : Files) → g.crash_may_leave b left → recovered left ≡ Some bytes) × IsRecovered letters bytes P)
      → IfErr result (λ e. e ≡ Failed → ⊥) → (left : Phase) → OnErr result (left ≡ phase.running → SurvivesCrash letters g a b [])
      → SurvivesCrash letters g a b (marks_as true P asked.commit (told_of result) left)
  commit_survives letters a b P (Ok u) honest counted leaves published other left unbegun =
      survives_commit letters g counts_now a b (record { held = P; done = true }) honest counted leaves (inr (λ _ left now. (published.0, published.1 left now, published.2)))
  commit_survives letters a b P (Err e) honest counted leaves published other phase.running unbegun = rw (marks_unbegun P e) (unbegun refl)
  commit_survives letters a b P (Err e) honest counted leaves published other phase.failed unbegun =
      rw (marks_refused P e other) (survives_commit letters g counts_now a b (record { held = P; done = false }) honest counted leaves (inl refl))

-- ---- commits

-- `Failed` is told only after a fault
pub not_failed_error : {F : Type 0} {g : Ghosts F} (refl_continues : (m : F) → g.continues m m) (old new : Package F g) (r : Result (Unit {0}) Error) → failed_in old ≡ false
    → IfErr r (IsJustifiedBySectors (allocator_of (mini_of (file_in old))) (allocator_of (mini_of (file_in new)))) → IfErr r (λ e. e ≡ Failed → ⊥)
not_failed_error refl_continues old new (Ok u) live cause = tt
not_failed_error refl_continues old new (Err e) live cause = λ is. both_ways (failed_in old) live ((cause (medium_in (file_in old)) (refl_continues (medium_in (file_in old)))).earlier is)

-- bytes that are found of a package that was held, where they were published
pub published_found : {F : Type 0} {g : Ghosts F} (has_published : F → List ℕ → Type 0) (old new : Package F g) (r : Result (Unit {0}) Error) → PackageCommits has_published r old new
    → OnOk r ((P : PackageContent) → PackageHasContent old P → IsTrue (sound_in old) → (bytes : List ℕ) × has_published (medium_in (file_in new)) bytes × IsRecovered (file.file_case_table (file_in old)) bytes P)
published_found has_published old new (Ok u) commits = λ P h sound.
    let done = commits.done P h sound in
    (done.bytes, done.published, subst (λ l. BytesKeepPackage l done.bytes P) commits.seen.0 done.found)
published_found has_published old new (Err e) commits = tt

pub published_of : {F : Type 0} {g : Ghosts F} (has_published : F → List ℕ → Type 0) (old new : Package F g) (r : Result (Unit {0}) Error) → PackageCommits has_published r old new → (P : PackageContent) → PackageHasContent old P
    → IsTrue (sound_in old) → OnOk r ((bytes : List ℕ) × has_published (medium_in (file_in new)) bytes × IsRecovered (file.file_case_table (file_in old)) bytes P)
published_of has_published old new (Ok u) commits P h sound = published_found has_published old new (Ok u) commits P h sound
published_of has_published old new (Err e) commits P h sound = tt

-- what is left is what might have been left, or is found of the package that was held
pub left_found : {F : Type 0} {g : Ghosts F} {Before : Type 0} (old : Package F g) (P : PackageContent) → PackageHasContent old P → IsTrue (sound_in old) → (given : Option (List ℕ))
    → Before ⊎ ((bytes : List ℕ) × (given ≡ Some bytes) × HoldWhatWasHeld old bytes) → Before ⊎ IsGiven (λ bytes. IsRecovered (file.file_case_table (file_in old)) bytes P) given
left_found old P h sound given either = ⊎_elim (λ before. inl before) (λ new. inr (new.0, new.1, new.2 P h sound)) either
