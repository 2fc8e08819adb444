-- A slice that is passed on, or kept back.
use Rattle.std.proofs.Common.{◌≡◌, ◌∙◌, ◌++◌, ◌||◌, Bool, true, false, List, [], ◌∷◌, inl, inr, ⊎_elim, refl, subst, sym, ap}
use Rattle.std.proofs.lemmas.List.{append-nil}
use Rattle.cfb_medium.specs.declared.error.Error.TheVariants.{InvalidInput}
use Rattle.cfb_medium.specs.declared.medium.ReadMedium as medium
use Rattle.command_file.specs.Request.{Request, is_commit}
use Rattle.command_file.specs.Request as asked
use Rattle.installer.specs.CommandRuns.{FollowAll}
use Rattle.installer.specs.FirstRefusal.{LastIsRefused, RunsToRefusal}
use Rattle.installer.specs.Reply.{Reply}
use Rattle.installer.specs.Reply as told
use Rattle.installer.specs.declared.session.SessionOver.{SessionOver}
use Rattle.installer_runs.proofs.Fitting.{passed_on}
use Rattle.installer_runs.proofs.Parting.{first_of_both, second_of_both}
use Rattle.installer_runs.specs.Runs.{GoesFit, GoesUntil, IsSlice, LeavesBehind, LetsPass, has_commit}
use Rattle.installer_runs.specs.declared.running.Until.{Until}
use Rattle.installer_runs.specs.declared.running.Until.TheVariants.{End, Refusal}
use Rattle.staged.specs.declared.device.Device.{Ghosts}
use Rattle.staged.specs.declared.staged.Staged.{Staged}

front_without : (ran rest : List Request) → has_commit (ran ++ rest) ≡ false → has_commit ran ≡ false
front_without [] rest none = refl
front_without (r ∷ rs) rest none =
    let own : is_commit r ≡ false = first_of_both (is_commit r) (has_commit (rs ++ rest)) none in
    let more = front_without rs rest (second_of_both (is_commit r) (has_commit (rs ++ rest)) none) in
    rw own more

front_alone : (ran rest : List Request) → ran ++ rest ≡ asked.commit ∷ [] → IsSlice ran
front_alone [] rest is = inr refl
front_alone (r ∷ []) rest is = inl (first_is r rest is)
  where
    first_is : (r : Request) (rest : List Request) → r ∷ rest ≡ asked.commit ∷ [] → r ∷ [] ≡ asked.commit ∷ []
    first_is r rest is = let same : r ≡ asked.commit = cc is in ap (λ (x : Request). x ∷ []) same
front_alone (r ∷ s ∷ rs) rest is = absurd (cc is)

-- the first of a slice are one
front_slice : (requests ran rest : List Request) → requests ≡ ran ++ rest → IsSlice requests → IsSlice ran
front_slice requests ran rest parts slice =
    ⊎_elim (λ alone. front_alone ran rest (sym parts ∙ alone)) (λ none. inr (front_without ran rest (subst (λ (l : List Request). has_commit l ≡ false) parts none))) slice

-- where they are a commit alone, so is the slice
whole_alone : (requests ran rest : List Request) → requests ≡ ran ++ rest → IsSlice requests → ran ≡ asked.commit ∷ [] → requests ≡ asked.commit ∷ []
whole_alone requests ran rest parts slice is =
    let begins : requests ≡ asked.commit ∷ rest = parts ∙ ap (λ (l : List Request). l ++ rest) is in
    ⊎_elim (λ alone. alone) (λ none. absurd (let never : has_commit (asked.commit ∷ rest) ≡ false = subst (λ (l : List Request). has_commit l ≡ false) begins none in cc never)) slice

module _ {D : Type 0} {g : Ghosts D} {h : medium.Ghosts (Staged D g)} where
  pub to_end : (requests : List Request) (replies : List Reply) (old new : SessionOver (Staged D g) h) → IsSlice requests → (requests ≡ asked.commit ∷ [] → LetsPass old) → FollowAll requests replies old new → GoesUntil End requests replies old new
  to_end requests replies old new slice lets follow =
      record { ran = requests; rest = []; parts = sym (append-nil requests); follow = passed_on requests replies old new slice lets follow; stops = refl }

  pub to_refusal : (requests : List Request) (replies : List Reply) (old new : SessionOver (Staged D g) h) → IsSlice requests → (requests ≡ asked.commit ∷ [] → LetsPass old) → RunsToRefusal requests replies old new
      → GoesUntil Refusal requests replies old new
  to_refusal requests replies old new slice lets runs = record {
    ran = runs.ran;
    rest = runs.rest;
    parts = runs.parts;
    follow = passed_on runs.ran replies old new (front_slice requests runs.ran runs.rest runs.parts slice) (λ is. lets (whole_alone requests runs.ran runs.rest runs.parts slice is)) runs.follow;
    stops = runs.stops;
  }

  pub kept_until : (until : Until) (requests : List Request) (replies : List Reply) (it : SessionOver (Staged D g) h) → requests ≡ asked.commit ∷ [] → replies ≡ told.refused InvalidInput ∷ []
      → GoesFit (asked.commit ∷ []) (told.refused InvalidInput ∷ []) it it → GoesUntil until requests replies it it
  kept_until until requests replies it alone is kept = record {
    ran = requests;
    rest = [];
    parts = sym (append-nil requests);
    follow = subst (λ (rs : List Request). GoesFit rs replies it it) (sym alone) (subst (λ (ps : List Reply). GoesFit (asked.commit ∷ []) ps it it) (sym is) kept);
    stops = left until;
  }
    where
      last : LastIsRefused replies
      last = record { before = []; error = InvalidInput; last = is; others = refl }

      left : (until : Until) → LeavesBehind until [] replies
      left End = refl
      left Refusal = inr last
