-- What a recovery gives of commits of packages whose texts fit.
use Rattle.std.proofs.Common.{◌≡◌, ◌⊎◌, ◌++◌, ℕ, Bool, true, false, List, [], ◌∷◌, IsTrue, inl, inr, ⊎_elim, refl, subst, sym}
use Rattle.cfb_medium.specs.declared.error.Error.TheVariants.{Failed}
use Rattle.cfb_tree.specs.Names.{CaseTable}
use Rattle.command_file.specs.Request.{Request}
use Rattle.command_file.specs.Request as asked
use Rattle.installer.proofs.Following.{marks_none, marks_other}
use Rattle.installer.specs.CrashSurvival.{AllGive, AnyList, IsRecovered, MayBeRecovered, SurvivesCrash, gives, listed}
use Rattle.installer.specs.Reply.{Reply}
use Rattle.installer.specs.Reply as told
use Rattle.installer.specs.SessionStates.{BegunCommit, CommandStep, Phase, SessionState, failed, fails, marks_as, marks_of, refuses, rolls, running, stays, steps}
use Rattle.installer.specs.Undisturbed.{AreFit}
use Rattle.installer_runs.specs.Runs.{CommitsFit, MayHold, RunsFit}
use Rattle.msi.specs.Changing.{PackageCanBeWritten}
use Rattle.msi.specs.Committing.{BytesHoldPackage}
use Rattle.msi_spec.specs.Package.{PackageContent}
use Rattle.staged.specs.declared.device.Device.{Ghosts}

fit_both : (first second : List BegunCommit) → AreFit first → AreFit second → AreFit (first ++ second)
fit_both [] second one two = two
fit_both (m ∷ marks) second one two = (one.0, fit_both marks second one.1 two)

-- the commit that a request begins is one of a package that fits, where that is asked of it
fit_as : (sound : Bool) (held : PackageContent) (reply : Reply) (left : Phase) → (sound ≡ true → PackageCanBeWritten held) → AreFit (marks_as sound held asked.commit reply left)
fit_as false held reply left fit = tt
fit_as true held told.done left fit = (fit refl, tt)
fit_as true held (told.refused Failed) left fit = tt
fit_as true held reply running fit = tt
fit_as true held reply failed fit = (fit refl, tt)

live_or_refused : (letters : CaseTable) (old new : SessionState) (reply : Reply) → CommandStep letters old asked.commit reply new → (old.phase ≡ running) ⊎ (reply ≡ told.refused Failed)
live_or_refused letters old new reply (steps run step base yet sound counted) = inl run
live_or_refused letters old new reply (stays e run is undone page same counted) = inl run
live_or_refused letters old new reply (fails e run is undone unread same base counted) = inl run
live_or_refused letters old new reply (refuses run other is same) = inr is
live_or_refused letters old new reply (rolls back goes) = absurd (cc back)

step_fit : (letters : CaseTable) (old new : SessionState) (request : Request) (reply : Reply) → CommandStep letters old request reply new → CommitsFit old request → AreFit (marks_of old request reply new.phase)
step_fit letters old new asked.commit reply step fit =
    ⊎_elim (λ run. fit_as old.sound old.held reply new.phase (λ sound. fit refl run sound))
    (λ is. subst (λ (r : Reply). AreFit (marks_as old.sound old.held asked.commit r new.phase)) (sym is) (subst (λ (ms : List BegunCommit). AreFit ms) (sym (marks_none old.sound old.held asked.commit new.phase)) tt))
    (live_or_refused letters old new reply step)
step_fit letters old new request reply step fit = subst (λ (ms : List BegunCommit). AreFit ms) (sym (marks_other old.sound old.held request reply new.phase refl)) tt

-- so is each that a run begins
pub fit_marks : (letters : CaseTable) (start end : SessionState) (requests : List Request) (replies : List Reply) (marks : List BegunCommit) → RunsFit letters start requests replies marks end → AreFit marks
fit_marks letters start end [] [] marks runs = subst (λ (ms : List BegunCommit). AreFit ms) (sym runs.0) tt
fit_marks letters start end (r ∷ rs) (p ∷ ps) marks runs =
    ⊎_elim (λ kept. fit_marks letters start end rs ps marks kept.1)
    (λ on. subst (λ (ms : List BegunCommit). AreFit ms) (sym on.5) (fit_both (marks_of start r p on.0.phase) on.1 (step_fit letters start on.0 r p on.2 on.3) (fit_marks letters on.0 end rs ps on.1 on.4))) runs
fit_marks letters start end [] (p ∷ ps) marks runs = absurd runs
fit_marks letters start end (r ∷ rs) [] marks runs = absurd runs

may_hold : (letters : CaseTable) (marks : List BegunCommit) (lists held : List ℕ → Type 0) → ((bytes : List ℕ) → lists bytes → held bytes) → AreFit marks → (bytes : List ℕ) → MayBeRecovered letters lists marks bytes → MayHold letters held marks bytes
may_hold letters [] lists held within fit bytes is = within bytes is
may_hold letters (m ∷ marks) lists held within fit bytes is =
    may_hold letters marks (λ b. IsRecovered letters b m.held ⊎ ((m.done ≡ false) × lists b)) (λ b. BytesHoldPackage letters b m.held ⊎ ((m.done ≡ false) × held b))
    (λ b either. ⊎_elim (λ found. inl (found.1 fit.0)) (λ before. inr (before.0, within b before.1)) either) fit.1 bytes is

-- what a recovery gives then
pub held_then : {D : Type 0} (g : Ghosts D) (letters : CaseTable) (old new : D) (marks : List BegunCommit) → AreFit marks → SurvivesCrash letters g old new marks
    → IsTrue (g.honest old) → AllGive AnyList (gives g old) → AllGive (MayHold letters (listed g old) marks) (gives g new)
held_then g letters old new marks fit survives honest all given now =
    let found = survives.at_return honest all given now in
    (found.0, found.1, may_hold letters marks (listed g old) (listed g old) (λ bytes is. is) fit found.0 found.2)
