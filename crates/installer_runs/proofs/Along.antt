-- How a session goes along slices of commands.
use Rattle.std.proofs.Common.{◌≡◌, ◌∙◌, ◌+◌, ◌-◌, ◌<◌, ◌≤◌, ℕ, zero, suc, Bool, true, false, List, [], ◌∷◌, ◌++◌, length, map, take, drop, inl, inr, refl, sym, ap, subst, arith, append_assoc, take-add, ⊎_elim}
use Rattle.std.proofs.lemmas.Bool.{both_ways}
use Rattle.std.proofs.lemmas.List.{append-nil, map-append}
use Rattle.cfb_medium.specs.declared.error.Error.{Error}
use Rattle.cfb_medium.specs.declared.medium.ReadMedium as medium
use Rattle.command_file.specs.Request.{Request}
use Rattle.installer.proofs.FirstRefused.{any_of_last, last_behind, none_of_both}
use Rattle.installer.proofs.Running.{parts_make}
use Rattle.installer.specs.CrashSurvival.{SurvivesCrash}
use Rattle.installer.specs.FirstRefusal.{LastIsRefused, any_refusal}
use Rattle.installer.specs.Reply.{Reply}
use Rattle.installer.specs.Sessions.{device_below, session_case_table}
use Rattle.installer.specs.declared.session.SessionOver.{SessionOver}
use Rattle.installer_runs.proofs.Fitting.{fit_none, goes_fit_then}
use Rattle.installer_runs.proofs.Hearing.{heard_none, heard_one, heard_still, heard_then}
use Rattle.installer_runs.specs.Runs.{GoesAlong, GoesFit, GoesUntil, Heard, LeavesBehind, ends_behind}
use Rattle.installer_runs.specs.declared.listener.Listener as listener
use Rattle.installer_runs.specs.declared.running.Ending.{Ending}
use Rattle.installer_runs.specs.declared.running.Ending.TheVariants.{Stopped, Unopened, Whole}
use Rattle.installer_runs.specs.declared.running.Until.{Until}
use Rattle.installer_runs.specs.declared.running.Until.TheVariants.{End, Refusal}
use Rattle.staged.specs.declared.device.Device.{Ghosts}
use Rattle.staged.specs.declared.staged.Staged.{Staged}

dropped_all : {X : Type 0} (n : ℕ) (xs : List X) → length xs ≤ n → drop n xs ≡ []
dropped_all zero [] few = refl
dropped_all (suc n) [] few = refl
dropped_all zero (x ∷ xs) few = absurd (omega (arith, few))
dropped_all (suc n) (x ∷ xs) few = dropped_all n xs (omega (arith, few))

-- a run that isn't over has run its slice whole, without a refusal where it would have ended by one
goes_on : (until : Until) (rest : List Request) (told : List Reply) → ends_behind until told ≡ false → LeavesBehind until rest told → (rest ≡ []) × (until ≡ Refusal → any_refusal told ≡ false)
goes_on End rest told on left = (left, λ is. absurd (cc is))
goes_on Refusal rest told on left =
    (⊎_elim (λ all. all.0) (λ last. absurd (both_ways (any_refusal told) on (ap any_refusal last.last ∙ any_of_last last.before last.error))) left, λ _. on)

-- one that is over ends by a refusal
is_over : (until : Until) (rest : List Request) (told : List Reply) → ends_behind until told ≡ true → LeavesBehind until rest told → (until ≡ Refusal) × LastIsRefused told
is_over End rest told over left = absurd (cc over)
is_over Refusal rest told over left = (refl, ⊎_elim (λ all. absurd (both_ways (any_refusal told) all.1 over)) (λ last. last) left)

module _ {D : Type 0} {g : Ghosts D} {h : medium.Ghosts (Staged D g)} {C : Type 0} (f : C → Request) {L : Type 0} (k : listener.Ghosts L) (until : Until) where
  -- so many of the commands were followed, and heard
  pub record Followed (commands : List C) (count : ℕ) (old new : SessionOver (Staged D g) h) (first last : L) : Type 0 where
    pub within : count ≤ length commands
    pub replies : List Reply
    pub heard : Heard k.hears replies first last
    pub quiet : until ≡ Refusal → any_refusal replies ≡ false
    pub follow : GoesFit (map f (take count commands)) replies old new

  pub followed_none : (commands : List C) (it : SessionOver (Staged D g) h) (l : L) → SurvivesCrash (session_case_table it) g (device_below it) (device_below it) [] → Followed commands 0 it it l l
  followed_none commands it l stay = record { within = omega arith; replies = []; heard = heard_none k.hears l; quiet = λ _. refl; follow = fit_none it stay }

  module _ (commands slice : List C) (n m : ℕ) (more : n < m) (within : m ≤ length commands) (is : slice ≡ take (m - n) (drop n commands)) (told : List Reply) (old mid new : SessionOver (Staged D g) h) (first held kept last : L)
      (before : Followed commands n old mid first held) (then : GoesUntil until (map f slice) told mid new) (yet : Heard k.hears [] held kept) (hears : k.hears kept told last) where
    heard_all : Heard k.hears (before.replies ++ told) first last
    heard_all = heard_then k.hears before.replies told first kept last (heard_still k.hears before.replies first held kept before.heard yet) (heard_one k.hears told kept last hears)

    -- a slice behind them
    pub followed_more : ends_behind until told ≡ false → Followed commands m old new first last
    followed_more on =
        let goes = goes_on until then.rest told on then.stops in
        let whole : map f slice ≡ then.ran = then.parts ∙ ap (λ (l : List Request). then.ran ++ l) goes.0 ∙ append-nil then.ran in
        let sum : n + (m - n) ≡ m = omega (arith, more) in
        let both : take n commands ++ slice ≡ take m commands = ap (λ (s : List C). take n commands ++ s) is ∙ sym (take-add n (m - n) commands) ∙ ap (λ (k : ℕ). take k commands) sum in
        let requests : map f (take n commands) ++ then.ran ≡ map f (take m commands) = ap (λ (l : List Request). map f (take n commands) ++ l) (sym whole) ∙ sym (map-append f (take n commands) slice) ∙ ap (map f) both in
        record {
          within = within;
          replies = before.replies ++ told;
          heard = heard_all;
          quiet = λ u. none_of_both before.replies told (before.quiet u) (goes.1 u);
          follow = subst (λ (r : List Request). GoesFit r (before.replies ++ told) old new) requests (goes_fit_then (map f (take n commands)) then.ran before.replies told old mid new before.follow then.follow);
        }

    -- a slice in which the run ends
    pub followed_last : ends_behind until told ≡ true → GoesAlong k until (map f commands) Stopped old new first last
    followed_last over =
        let ends = is_over until then.rest told over then.stops in
        let left = drop (m - n) (drop n commands) in
        let behind : drop n commands ≡ slice ++ left = sym (parts_make (m - n) (drop n commands)) ∙ ap (λ (l : List C). l ++ left) (sym is) in
        let all : map f commands ≡ map f (take n commands) ++ (map f slice ++ map f left) =
        ap (map f) (sym (parts_make n commands)) ∙ map-append f (take n commands) (drop n commands) ∙ ap (λ (l : List C). map f (take n commands) ++ map f l) behind ∙ ap (λ (l : List Request). map f (take n commands) ++ l) (map-append f slice left) in
        record {
          ran = map f (take n commands) ++ then.ran;
          rest = then.rest ++ map f left;
          parts = all ∙ ap (λ (l : List Request). map f (take n commands) ++ (l ++ map f left)) then.parts
              ∙ ap (λ (l : List Request). map f (take n commands) ++ l) (append_assoc then.ran then.rest (map f left)) ∙ sym (append_assoc (map f (take n commands)) then.ran (then.rest ++ map f left));
          whole = λ w. absurd (cc w);
          opened = λ e w. absurd (cc w);
          replies = before.replies ++ told;
          heard = heard_all;
          stops = record { stopped = λ _. (ends.0, last_behind before.replies told (before.quiet ends.0) ends.1); others = λ _ never. absurd (never refl) };
          follow = goes_fit_then (map f (take n commands)) then.ran before.replies told old mid new before.follow then.follow;
        }

  -- these are the first of the requests
  pub goes_along : (commands : List C) (n : ℕ) (ending : Ending) (old mid new : SessionOver (Staged D g) h) (first held last : L) → new ≡ mid → Heard k.hears [] held last → (ending ≡ Whole → length commands ≤ n) → ((e : Error) → ending ≡ Unopened e → ⊥)
      → (ending ≡ Stopped → ⊥) → Followed commands n old mid first held → GoesAlong k until (map f commands) ending old new first last
  goes_along commands n ending old mid new first held last same yet whole opened unstopped before = record {
    ran = map f (take n commands);
    rest = map f (drop n commands);
    parts = ap (map f) (sym (parts_make n commands)) ∙ map-append f (take n commands) (drop n commands);
    whole = λ is. ap (map f) (dropped_all n commands (whole is));
    opened = opened;
    replies = before.replies;
    heard = heard_still k.hears before.replies first held last before.heard yet;
    stops = record { stopped = λ is. absurd (unstopped is); others = λ u _. before.quiet u };
    follow = subst (λ (it : SessionOver (Staged D g) h). GoesFit (map f (take n commands)) before.replies old it) (sym same) before.follow;
  }
