-- An update that is tried on a table without rows, of which the tenth column alone takes values.
use Rattle.std.proofs.Common.{◌≡◌, ◌∙◌, ℕ, zero, suc, ◌+◌, Bool, true, false, cond, List, [], ◌∷◌, refl, sym, ap, ap₂, arith, Option, Some, None, Result, Ok, Err}
use Rattle.std.specs.Prelude.{◌&&◌, ◌||◌, ◌==◌, bytes_eq, int_le, is_some, nat_le, not, option_map, option_to_list, pos, negsuc, slice_get, ℤ}
use Rattle.std.specs.List.{list_all, list_any}
use Rattle.std.proofs.lemmas.Bool.Decides.{nat_tests}
use Rattle.cfb_medium.specs.declared.error.Error.{Error}
use Rattle.cfb_medium.specs.declared.error.Error.TheVariants.{AlreadyExists, InvalidInput}
use Rattle.msi_changes.specs.Applied.{with_rows}
use Rattle.msi_changes.specs.Changes.{is_valid_set, option_first, sets_key, updated}
use Rattle.msi_columns.specs.Column.{column_place, is_listed, is_valid, meets_category, Column}
use Rattle.msi_expr.specs.Conditions.{has_named_columns, knows_condition}
use Rattle.msi_expr.specs.Formula.{both, column, either, literal, two, unary, Formula}
use Rattle.msi_spec.specs.Calls.{is_column_at}
use Rattle.msi_pool.specs.Pool.{Pool}
use Rattle.msi_tables.specs.Rows.{Row}
use Rattle.msi_tables.specs.Table.{Heading}
use Rattle.msi_tables.proofs.Searches.{position_cons}
use Rattle.msi_texts.specs.Results.{◌>>=◌, unless_not}
use Rattle.msi_values.specs.Datum.{Datum, binary, null, number, text}
use Rattle.msi_row_edits.specs.Allowed.{closed, closed_from}

and_false : (b : Bool) → (b && false) ≡ false
and_false true = refl
and_false false = refl

and_true : (b : Bool) → (b && true) ≡ b
and_true true = refl
and_true false = refl

or_true : (b : Bool) → (b || true) ≡ true
or_true true = refl
or_true false = refl

-- ---- closed columns

none_within : (z : ℤ) (b : Bool) → (int_le (pos 1) z && int_le z (pos 0) && b) ≡ false
none_within (pos zero) b = refl
none_within (pos (suc n)) b =
    let above : nat_le (suc n) 0 ≡ false = grind (arith, nat_tests) in
    ap (λ x. int_le (pos 1) (pos (suc n)) && x && b) above ∙ ap (λ x. x && b) (and_false (int_le (pos 1) (pos (suc n))))
none_within (negsuc n) b = refl

takes_none : (c : Column) (d : Datum) → is_valid (closed c) d ≡ false
takes_none c null = refl
takes_none c (number z) = none_within z _
takes_none c (text t) = and_false (meets_category (closed c).category t && is_listed (closed c).choices t)
takes_none c binary = refl

module _ (s : List ℕ × Datum) where
  abbrev takes : Column → Bool
  takes c = bytes_eq c.name s.0 && is_valid c s.1

  never : (c : Column) → takes (closed c) ≡ false
  never c = ap (λ b. bytes_eq c.name s.0 && b) (takes_none c s.1) ∙ and_false (bytes_eq c.name s.0)

  one_at : (k : ℕ) (c : Column) (b : Bool) → (list_any takes (cond b c (closed c) ∷ [])) ≡ (list_any takes (c ∷ []) && b)
  one_at k c true = sym (and_true (list_any takes (c ∷ [])))
  one_at k c false = ap (λ b. b || false) (never c) ∙ sym (and_false (list_any takes (c ∷ [])))

  taken_at : (k : ℕ) (cs : List Column) (i m : ℕ) → m ≡ k + i → list_any takes (option_to_list (slice_get (closed_from k cs) i)) ≡ (list_any takes (option_to_list (slice_get cs i)) && (m == 9))
  taken_at k [] i m is = refl
  taken_at k (c ∷ cs) zero m is = (let same : k ≡ m = omega (arith, is) in one_at k c (k == 9) ∙ ap (λ n. list_any takes (c ∷ []) && (n == 9)) same)
  taken_at k (c ∷ cs) (suc i) m is = taken_at (suc k) cs i m (omega (arith, is))

  place_same : (k : ℕ) (cs : List Column) → column_place (closed_from k cs) s.0 ≡ column_place cs s.0
  place_same k [] = refl
  place_same k (c ∷ cs) =
      position_cons (λ c. bytes_eq c.name s.0) (cond (k == 9) c (closed c)) (closed_from (suc k) cs)
      ∙ ap₂ (λ b (o : Option ℕ). cond b (Some 0) (option_map (λ i. suc i) o)) (by (k == 9)) (place_same (suc k) cs)
      ∙ sym (position_cons (λ c. bytes_eq c.name s.0) c cs)
    where
      by : (b : Bool) → bytes_eq (cond b c (closed c)).name s.0 ≡ bytes_eq c.name s.0
      by true = refl
      by false = refl

  -- a column takes its value exactly where it is the tenth, and takes it
  set_closed : (cs : List Column) → is_valid_set (closed_from 0 cs) s ≡ (is_valid_set cs s && is_column_at 9 (column_place cs s.0))
  set_closed cs = ap (λ o. list_any takes (option_first o (closed_from 0 cs))) (place_same 0 cs) ∙ by (column_place cs s.0)
    where
      by : (o : Option ℕ) → list_any takes (option_first o (closed_from 0 cs)) ≡ (list_any takes (option_first o cs) && is_column_at 9 o)
      by None = refl
      by (Some i) = taken_at 0 cs i i (omega arith)

-- ---- all that is set, and what the condition names

module _ (cs : List Column) where
  abbrev descriptions : List (List ℕ × Datum) → Bool
  descriptions sets = list_all (λ s. is_column_at 9 (column_place cs s.0)) sets

  turned : (a b x y : Bool) → ((a && b) && (x && y)) ≡ ((a && x) && (b && y))
  turned true true x y = refl
  turned true false x y = sym (and_false x)
  turned false b x y = refl

  sets_closed : (sets : List (List ℕ × Datum)) → list_all (is_valid_set (closed_from 0 cs)) sets ≡ (list_all (is_valid_set cs) sets && descriptions sets)
  sets_closed [] = refl
  sets_closed (s ∷ ss) =
      ap₂ (λ a b. a && b) (set_closed s cs) (sets_closed ss)
      ∙ turned (is_valid_set cs s) (is_column_at 9 (column_place cs s.0)) (list_all (is_valid_set cs) ss) (descriptions ss)

  knows_closed : (f : Formula) → has_named_columns (closed_from 0 cs) f ≡ has_named_columns cs f
  knows_closed (literal d) = refl
  knows_closed (column name) = ap is_some (place_same (name, null) 0 cs)
  knows_closed (unary o f) = knows_closed f
  knows_closed (two o f g) = ap₂ (λ a b. a && b) (knows_closed f) (knows_closed g)
  knows_closed (both f g) = ap₂ (λ a b. a && b) (knows_closed f) (knows_closed g)
  knows_closed (either f g) = ap₂ (λ a b. a && b) (knows_closed f) (knows_closed g)

  condition_closed : (condition : Option Formula) → knows_condition (closed_from 0 cs) condition ≡ knows_condition cs condition
  condition_closed None = refl
  condition_closed (Some f) = knows_closed f

  test_closed : (sets : List (List ℕ × Datum)) (condition : Option Formula) → (list_all (is_valid_set (closed_from 0 cs)) sets && knows_condition (closed_from 0 cs) condition && true)
      ≡ (list_all (is_valid_set cs) sets && knows_condition cs condition && descriptions sets)
  test_closed sets condition =
      and_true (list_all (is_valid_set (closed_from 0 cs)) sets && knows_condition (closed_from 0 cs) condition)
      ∙ ap₂ (λ a b. a && b) (sets_closed sets) (condition_closed condition)
      ∙ moved (list_all (is_valid_set cs) sets) (descriptions sets) (knows_condition cs condition)
    where
      moved : (a b x : Bool) → ((a && b) && x) ≡ ((a && x) && b)
      moved true true x = sym (and_true x)
      moved true false x = sym (and_false x)
      moved false b x = refl

  module _ (pool : Pool) (h : Heading) (sets : List (List ℕ × Datum)) (condition : Option Formula) (same : h.columns ≡ closed_from 0 cs) where
    abbrev test : List Column → Bool
    test columns = list_all (is_valid_set columns) sets && knows_condition columns condition && true

    abbrev asked_of : Bool
    asked_of = list_all (is_valid_set cs) sets && knows_condition cs condition && descriptions sets

    test_is : test h.columns ≡ asked_of
    test_is = ap test same ∙ test_closed sets condition

    abbrev judged : Bool → Bool → Result (List Row × Pool) Error
    judged a b = unless_not a InvalidInput >>= λ _. unless_not b AlreadyExists >>= λ _. Ok ([], pool)

    pub tried : (r : Result (List Row × Pool) Error) → updated true pool (with_rows h []) sets condition ≡ r → r ≡ judged asked_of true
    tried r is =
        sym is
        ∙ ap₂ judged test_is (or_true (not (sets_key h.columns sets)))

    pub tried_done : (x : List Row × Pool) → updated true pool (with_rows h []) sets condition ≡ Ok x → true ≡ asked_of
    tried_done x is = by asked_of (tried (Ok x) is)
      where
        by : (b : Bool) → Ok x ≡ judged b true → true ≡ b
        by true e = refl
        by false e = (let never : Ok x ≡ Err InvalidInput = e in absurd (cc))

    pub tried_refused : (e : Error) → updated true pool (with_rows h []) sets condition ≡ Err e → false ≡ asked_of
    tried_refused e is = by asked_of (tried (Err e) is)
      where
        by : (b : Bool) → Err e ≡ judged b true → false ≡ b
        by false told = refl
        by true told = (let never : Err e ≡ Ok ([], pool) = told in absurd (cc))
