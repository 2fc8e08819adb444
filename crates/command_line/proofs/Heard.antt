-- What was heard, in one slice or in several.
use Rattle.std.proofs.Common.{◌≡◌, ◌⊎◌, ◌++◌, ◌∙◌, Bool, true, false, List, [], ◌∷◌, Option, Some, None, Ok, Err, Result, IfOk, ap, append_assoc, append-nil, cond, inl, inr, not, arith, refl, subst, sym}
use Rattle.std.specs.Prelude.{find}
use Rattle.command_file.specs.Request.{Request}
use Rattle.command_line.specs.Runs.{EndsAs, HasRun, refusal_told, status_in}
use Rattle.command_line.specs.declared.commands.Ending.{Ending}
use Rattle.command_line.specs.declared.commands.Ending.TheVariants.{Done, Refused}
use Rattle.installer.specs.Reply.{Reply}
use Rattle.installer.specs.Reply as told
use Rattle.installer_runs.specs.Faults.{is_by_rule, is_fault, is_for_a_fault}
use Rattle.installer_runs.specs.Runs.{HearsSlices, StopsAs, joined}
use Rattle.installer_runs.specs.declared.running.Ending as session
use Rattle.installer_runs.specs.declared.running.Ending.TheVariants as ended
use Rattle.installer_runs.specs.declared.running.Until.{Until}
use Rattle.package_files.specs.declared.failures.Failure.{Failure}
use Rattle.installer_runs.specs.Tallies.{HasHeard}
use Rattle.installer_runs.specs.declared.tally.Tally.{Tally}

-- nothing more
pub nothing_more : (t : Tally) (before : List Reply) → HasHeard t before → HasHeard t (before ++ [])
nothing_more t before h = subst (HasHeard t) (sym (append-nil before)) h

-- slice by slice
pub heard_all : {L : Type 0} (tally : L → Tally) (slices : List (List Reply)) (first last : L) (before : List Reply)
    → HearsSlices (λ old replies new. (b : List Reply) → HasHeard (tally old) b → HasHeard (tally new) (b ++ replies)) slices first last
    → HasHeard (tally first) before → HasHeard (tally last) (before ++ joined slices)
heard_all tally [] first last before is h = subst (λ l. HasHeard (tally l) (before ++ [])) (sym is) (nothing_more (tally first) before h)
heard_all tally (slice ∷ slices) first last before (mid, one, rest) h =
    subst (HasHeard (tally last)) (append_assoc before slice (joined slices)) (heard_all tally slices mid last (before ++ slice) rest (one before h))

first_isnt : {A : Type 0} (z : Bool) (x : A) (rest : Option A) → cond z (Some x) rest ≡ None → (z ≡ false) × (rest ≡ None)
first_isnt true x rest is = absurd (cc is)
first_isnt false x rest is = (refl, is)

-- of some items of which a test takes none it doesn't take the last
last_isnt : {A : Type 0} (test : A → Bool) (xs : List A) (x : A) → find test (xs ++ x ∷ []) ≡ None → test x ≡ false
last_isnt test [] x is = (first_isnt (test x) x None is).0
last_isnt test (y ∷ ys) x is = last_isnt test ys x (first_isnt (test y) y (find test (ys ++ x ∷ [])) is).1

both : (z : Bool) → z ≡ false → not z ≡ false → ⊥
both true is other = absurd (cc is)
both false is other = absurd (cc other)

-- where all is done no run was stopped
pub all_ran : (until : Until) (how : session.Ending) (replies : List Reply) (rest : List Request) (ending : Ending) → (how ≡ ended.Whole) ⊎ (how ≡ ended.Stopped) → (how ≡ ended.Whole → rest ≡ [])
    → StopsAs until how replies → EndsAs ending replies → ending ≡ Done → rest ≡ []
all_ran until how replies rest ending (inl is) whole stops ends done = whole is
all_ran until how replies rest ending (inr is) whole stops ends done =
    let last = (stops.stopped is).1 in
    let none : find is_by_rule replies ≡ None = sym ends.by_rule ∙ ap refusal_told done in
    let by_rule = last_isnt is_by_rule last.before (told.refused last.error) (ap (find is_by_rule) (sym last.last) ∙ none) in
    let for_a_fault = last_isnt is_for_a_fault last.before (told.refused last.error) (ap (find is_for_a_fault) (sym last.last) ∙ ends.for_a_fault) in
    absurd (both (is_fault last.error) for_a_fault by_rule)

-- a word whose status is 0 has done all
pub done_of : (how : Result Ending Failure) (requests : List Request) → IfOk how (HasRun requests) → status_in how ≡ 0 → HasRun requests Done
done_of (Ok Done) requests h is = h
done_of (Ok (Refused e place)) requests h is = absurd (omega (arith, is))
done_of (Err failure) requests h is = absurd (omega (arith, is))
