-- The first of some items that a test takes, with more behind them; and what was heard, with another reply.
use Rattle.std.proofs.Common.{◌≡◌, ◌++◌, ◌∙◌, Bool, true, false, List, [], ◌∷◌, Option, Some, None, ap, cond, not, option_map, refl, sym}
use Rattle.std.specs.Prelude.{find, unwrap_or}
use Rattle.cfb_medium.specs.declared.error.Error.{Error}
use Rattle.installer.specs.Reply.{Reply}
use Rattle.installer.specs.Reply as told
use Rattle.installer.specs.RepliesOf.{reply_of}
use Rattle.installer.specs.declared.answer.Answer.{Answer}
use Rattle.installer.specs.declared.answer.Answer.TheVariants as answer
use Rattle.installer_runs.specs.Faults.{is_by_rule, is_fault, is_for_a_fault}
use Rattle.installer_runs.specs.Tallies.{HasHeard}
use Rattle.installer_runs.specs.declared.tally.Tally.{Tally}

module _ {A : Type 0} (test : A → Bool) where
  abbrev pub first_of : Option A → Option A → Option A
  first_of (Some x) other = Some x
  first_of None other = other

  first_alone : (o : Option A) → first_of o None ≡ o
  first_alone (Some x) = refl
  first_alone None = refl

  pub find_both : (xs ys : List A) → find test (xs ++ ys) ≡ first_of (find test xs) (find test ys)
  find_both [] ys = refl
  find_both (x ∷ xs) ys = elim (test x) as (λ z. cond z (Some x) (find test (xs ++ ys)) ≡ first_of (cond z (Some x) (find test xs)) (find test ys)) [
    | true ↦ refl
    | false ↦ find_both xs ys
  ]

  find_one : (x : A) (z : Bool) → test x ≡ z → find test (x ∷ []) ≡ cond z (Some x) None
  find_one x z is = ap (λ b. cond b (Some x) None) is

  -- one more that the test doesn't take
  pub none_more : (x : A) (xs : List A) (o : Option A) → test x ≡ false → o ≡ find test xs → o ≡ find test (xs ++ x ∷ [])
  none_more x xs o is known = known ∙ sym (find_both xs (x ∷ []) ∙ ap (first_of (find test xs)) (find_one x false is) ∙ first_alone (find test xs))

  -- one more that it takes
  pub one_more : {E : Type 0} (f : E → A) (e : E) (xs : List A) (known : Option E) → test (f e) ≡ true → option_map f known ≡ find test xs → option_map f (Some (unwrap_or known e)) ≡ find test (xs ++ f e ∷ [])
  one_more {E = E} f e xs known is before = first_with known ∙ ap (λ o. first_of o (Some (f e))) before ∙ sym (find_both xs (f e ∷ []) ∙ ap (first_of (find test xs)) (find_one (f e) true is)) where
    first_with : (o : Option E) → option_map f (Some (unwrap_or o e)) ≡ first_of (option_map f o) (Some (f e))
    first_with (Some x) = refl
    first_with None = refl

-- a reply for a fault
pub heard_fault : (t : Tally) (before : List Reply) (e : Error) → is_fault e ≡ true → HasHeard t before → HasHeard (record { refusal = t.refusal; fault = Some (unwrap_or t.fault e) }) (before ++ told.refused e ∷ [])
heard_fault t before e is h = record {
  by_rule = none_more is_by_rule (told.refused e) before (option_map told.refused t.refusal) (ap not is) h.by_rule;
  for_a_fault = one_more is_for_a_fault told.refused e before t.fault is h.for_a_fault;
}

-- one by a rule
pub heard_rule : (t : Tally) (before : List Reply) (e : Error) → is_fault e ≡ false → HasHeard t before → HasHeard (record { refusal = Some (unwrap_or t.refusal e); fault = t.fault }) (before ++ told.refused e ∷ [])
heard_rule t before e is h = record {
  by_rule = one_more is_by_rule told.refused e before t.refusal (ap not is) h.by_rule;
  for_a_fault = none_more is_for_a_fault (told.refused e) before (option_map told.refused t.fault) is h.for_a_fault;
}

-- and one that is no refusal
pub heard_other : (t : Tally) (before : List Reply) (a : Answer) → ((e : Error) → a ≡ answer.Refused e → ⊥) → HasHeard t before → HasHeard t (before ++ reply_of a ∷ [])
heard_other t before a other h = record {
  by_rule = none_more is_by_rule (reply_of a) before (option_map told.refused t.refusal) (no_rule a other) h.by_rule;
  for_a_fault = none_more is_for_a_fault (reply_of a) before (option_map told.refused t.fault) (no_fault a other) h.for_a_fault;
} where
  no_rule : (b : Answer) → ((e : Error) → b ≡ answer.Refused e → ⊥) → is_by_rule (reply_of b) ≡ false
  no_rule answer.Done _ = refl
  no_rule (answer.Names ns) _ = refl
  no_rule (answer.Rows ns rs) _ = refl
  no_rule (answer.Columns cs) _ = refl
  no_rule (answer.Bytes bs) _ = refl
  no_rule (answer.Yes b) _ = refl
  no_rule (answer.Summary ps) _ = refl
  no_rule (answer.Codepage p) _ = refl
  no_rule (answer.Refused e) other = absurd (other e refl)

  no_fault : (b : Answer) → ((e : Error) → b ≡ answer.Refused e → ⊥) → is_for_a_fault (reply_of b) ≡ false
  no_fault answer.Done _ = refl
  no_fault (answer.Names ns) _ = refl
  no_fault (answer.Rows ns rs) _ = refl
  no_fault (answer.Columns cs) _ = refl
  no_fault (answer.Bytes bs) _ = refl
  no_fault (answer.Yes b) _ = refl
  no_fault (answer.Summary ps) _ = refl
  no_fault (answer.Codepage p) _ = refl
  no_fault (answer.Refused e) other = absurd (other e refl)
