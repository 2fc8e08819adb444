-- How far a walk over the runs of a log has come.
use Rattle.std.proofs.Common.{inl, inr, ◌⊎◌, ◌≡◌, ◌≢◌, ℕ, zero, suc, ◌+◌, ◌-◌, ◌*◌, ◌/◌, ◌<◌, ◌≤◌, max, ◌&&◌, nat_lt, nat_le, Bool, true, false, cond, List, [], ◌∷◌, ◌++◌, length, get_or, take, drop, Option, is_some, refl, sym, ◌∙◌, ap, arith, subst, append_assoc, append-nil, length-append, length-drop}
use Rattle.std.specs.Prelude.{IsTrue}
use Rattle.std.specs.Option.{option_or}
use Rattle.std.proofs.lemmas.Bool.{cases_lt, cases_eq, and_parts, ltb-true, leb-true}
use Rattle.std.proofs.lemmas.List.{drop-drop, take_at, get_or-append_right}
use Rattle.staged.specs.Log.{number_of, numbered, front, pages_told, pages_for, run_len, has_run, has_runs, pages_of_runs, leads}
use Rattle.staged.specs.Pages.{page_at, HoldsPage, Rises, Covers}
use Rattle.staged.specs.Walk.{IsRunAt}
use Rattle.staged.specs.declared.pages.Page.{Page}
use Rattle.staged.specs.declared.walk.Run.{Run}
use Rattle.staged.proofs.Found.{at_append}
use Rattle.staged.proofs.Numbered.{page, Sized, numbered_holds, numbered_sized, sized_both}
use Rattle.staged.proofs.Checked.{Checked, checked_more, too_low, one_missing}
use Rattle.staged.proofs.Leads.{leads_refuted}

-- what is seen and what n runs have at a place are these pages, and they are whole as all of them are
pub record OnWay (counted : Bool) (n place : ℕ) (log : List ℕ) (pages : List Page) (fits : Bool) (seen : List Page) : Type 0 where
  pub rest : seen ++ pages_of_runs counted n (drop place log) ≡ pages
  pub whole : has_runs counted n (drop place log) ≡ fits

pub way_begins : (counted : Bool) (n place : ℕ) (log : List ℕ) → OnWay counted n place log (pages_of_runs counted n (drop place log)) (has_runs counted n (drop place log)) []
way_begins counted n place log = record { rest = refl; whole = refl }

module _ (counted : Bool) (n place : ℕ) (log : List ℕ) (pages : List Page) (fits : Bool) (seen : List Page) (way : OnWay counted (suc n) place log pages fits seen) where
  abbrev here : List ℕ
  here = drop place log

  abbrev behind : List Page
  behind = pages_of_runs counted n (drop (run_len counted here) here)

  -- the run that stands there
  pub run_stands : (run : Run) → IsRunAt counted log place run → seen ++ (numbered run.first run.count (drop run.place log) ++ behind) ≡ pages
  run_stands run is =
      let spot : drop run.place log ≡ drop (front counted) here = ap (λ (k : ℕ). drop k log) is.place ∙ sym (drop-drop (front counted) place log) in
      let same : numbered run.first run.count (drop run.place log) ≡ numbered (number_of (take 8 here)) (pages_told counted here) (drop (front counted) here) =
      ap (λ (m : ℕ). numbered m run.count (drop run.place log)) is.first ∙ ap (λ (m : ℕ). numbered (number_of (take 8 here)) m (drop run.place log)) is.count
      ∙ ap (λ (l : List ℕ). numbered (number_of (take 8 here)) (pages_told counted here) l) spot in
      ap (λ (ps : List Page). seen ++ (ps ++ behind)) same ∙ way.rest

  pub way_next : (run : Run) → IsRunAt counted log place run → OnWay counted n (run.place + 512 * run.count) log pages fits (seen ++ numbered run.first run.count (drop run.place log))
  way_next run is =
      let place_is : run.place ≡ place + front counted = is.place in
      let count_is : run.count ≡ pages_told counted here = is.count in
      let sum : place + run_len counted here ≡ run.place + 512 * run.count = omega arith in
      let spot : drop (run_len counted here) here ≡ drop (run.place + 512 * run.count) log = drop-drop (run_len counted here) place log ∙ ap (λ (k : ℕ). drop k log) sum in
      let left : has_runs counted n (drop (run_len counted here) here) ≡ fits = sym (ap (λ (b : Bool). b && has_runs counted n (drop (run_len counted here) here)) is.whole) ∙ way.whole in
      record {
        rest = append_assoc seen (numbered run.first run.count (drop run.place log)) (pages_of_runs counted n (drop (run.place + 512 * run.count) log))
            ∙ ap (λ (l : List ℕ). seen ++ (numbered run.first run.count (drop run.place log) ++ pages_of_runs counted n l)) (sym spot) ∙ run_stands run is;
        whole = ap (λ (l : List ℕ). has_runs counted n l) (sym spot) ∙ left;
      }

-- all runs were seen
pub way_ends : (counted : Bool) (n place : ℕ) (log : List ℕ) (pages : List Page) (fits : Bool) (seen : List Page) → OnWay counted n place log pages fits seen → n ≡ 0 → (seen ≡ pages) × (fits ≡ true)
way_ends counted zero place log pages fits seen way none = (sym (append-nil seen) ∙ way.rest, sym way.whole)
way_ends counted (suc n) place log pages fits seen way none = absurd (omega arith)

-- ---- pages of lists that are joined

held_left : (a b : List Page) (n : ℕ) → HoldsPage a n → HoldsPage (a ++ b) n
held_left a b n held = subst (λ (p : Option (List ℕ)). IsTrue (is_some p)) (sym (at_append a b n)) (or_left (page_at a n) (page_at b n) held)
  where
    or_left : (p q : Option (List ℕ)) → IsTrue (is_some p) → IsTrue (is_some (option_or p q))
    or_left p q some = grind arith

pub held_right : (a b : List Page) (n : ℕ) → HoldsPage b n → HoldsPage (a ++ b) n
held_right a b n held = subst (λ (p : Option (List ℕ)). IsTrue (is_some p)) (sym (at_append a b n)) (or_right (page_at a n) (page_at b n) held)
  where
    or_right : (p q : Option (List ℕ)) → IsTrue (is_some q) → IsTrue (is_some (option_or p q))
    or_right p q some = grind arith

pub held_between : (a b c : List Page) (n : ℕ) → HoldsPage b n → HoldsPage (a ++ (b ++ c)) n
held_between a b c n held = held_right a (b ++ c) n (held_left b c n held)

pub first_behind : (seen rest : List Page) (next d : Page) → get_or (seen ++ next ∷ rest) (length seen) d ≡ next
first_behind seen rest next d =
    let none : length seen - length seen ≡ 0 = omega arith in
    get_or-append_right seen (next ∷ rest) (length seen) (length seen) d refl (omega arith) ∙ ap (λ (i : ℕ). get_or (next ∷ rest) i d) none

-- ---- the tests of a run

low_page : (seen rest : List Page) (next : Page) (home len from least : ℕ) → Checked seen home len from least → next.number < least → Rises (seen ++ next ∷ rest) → ⊥
low_page seen rest next home len from least checked low rises =
    let all = seen ++ next ∷ rest in
    let here : (get_or all (length seen) next).number ≡ next.number = ap (λ (p : Page). p.number) (first_behind seen rest next next) in
    too_low all (length seen) next home len from least (omega (arith, length-append seen (next ∷ rest))) (subst (λ (ps : List Page). Checked ps home len from least) (sym (take_at seen (next ∷ rest) (length seen) refl)) checked) (omega arith) rises

low_run : (count first : ℕ) (bytes : List ℕ) (seen rest : List Page) (home len from least : ℕ) → 0 < count → Checked seen home len from least → first < least → Rises (seen ++ (numbered first count bytes ++ rest)) → ⊥
low_run zero first bytes seen rest home len from least some checked low rises = absurd (omega arith)
low_run (suc n) first bytes seen rest home len from least some checked low rises = low_page seen (numbered (first + 1) n (drop 512 bytes) ++ rest) (page first (take 512 bytes)) home len from least checked low rises

pub far_run : (count first : ℕ) (bytes : List ℕ) (seen rest : List Page) (home len : ℕ) → 0 < count → pages_for len < first + count → Covers (seen ++ (numbered first count bytes ++ rest)) home len → ⊥
far_run count first bytes seen rest home len some far covers =
    let last = first + count - 1 in
    let begins : 512 * last < len = covers.inside last (held_between seen (numbered first count bytes) rest last (numbered_holds count first last bytes (omega arith) (omega arith))) in
    omega arith

and_left : (a b : Bool) → a ≡ false → (a && b) ≡ false
and_left a b is = ap (λ (c : Bool). c && b) is

and_right : (a b : Bool) → b ≡ false → (a && b) ≡ false
and_right true b is = is
and_right false b is = refl

pub some_pages : (counted : Bool) (rest : List ℕ) → has_run counted rest ≡ true → (0 < pages_told counted rest) × (run_len counted rest ≤ length rest)
some_pages counted rest is =
    let both = and_parts (nat_lt 0 (pages_told counted rest)) (nat_le (run_len counted rest) (length rest)) is in
    (ltb-true 0 (pages_told counted rest) both.0, leb-true (run_len counted rest) (length rest) both.1)

-- no run was found
pub none_found : (counted : Bool) (n place : ℕ) (log : List ℕ) (pages : List Page) (fits : Bool) (seen : List Page) (home len : ℕ) → OnWay counted (suc n) place log pages fits seen
    → (has_run counted (drop place log) ≡ true → pages_for len < number_of (take 8 (drop place log)) + pages_told counted (drop place log)) → (fits && leads pages home len) ≡ false
none_found counted n place log pages fits seen home len way past = by_case (has_run counted (drop place log)) refl
  where
    by_case : (b : Bool) → has_run counted (drop place log) ≡ b → (fits && leads pages home len) ≡ false
    by_case false is = and_left fits (leads pages home len) (sym way.whole ∙ and_left (has_run counted (drop place log)) (has_runs counted n (drop (run_len counted (drop place log)) (drop place log))) is)
    by_case true is = and_right fits (leads pages home len) (leads_refuted pages home len (λ rises covers.
        far_run (pages_told counted (drop place log)) (number_of (take 8 (drop place log))) (drop (front counted) (drop place log)) seen (pages_of_runs counted n (drop (run_len counted (drop place log)) (drop place log))) home len
        (some_pages counted (drop place log) is).0 (past is) (subst (λ (ps : List Page). Covers ps home len) (sym way.rest) covers)))

-- where the pages lead from the home file to the length, one is
pub is_found : (counted : Bool) (n place : ℕ) (log : List ℕ) (pages : List Page) (seen : List Page) (home len : ℕ) → OnWay counted (suc n) place log pages true seen → Covers pages home len
    → (has_run counted (drop place log) ≡ true → pages_for len < number_of (take 8 (drop place log)) + pages_told counted (drop place log)) → ⊥
is_found counted n place log pages seen home len way covers past =
    let is : has_run counted (drop place log) ≡ true = (and_parts (has_run counted (drop place log)) (has_runs counted n (drop (run_len counted (drop place log)) (drop place log))) way.whole).0 in
    far_run (pages_told counted (drop place log)) (number_of (take 8 (drop place log))) (drop (front counted) (drop place log)) seen (pages_of_runs counted n (drop (run_len counted (drop place log)) (drop place log))) home len
    (some_pages counted (drop place log) is).0 (past is) (subst (λ (ps : List Page). Covers ps home len) (sym way.rest) covers)

-- its first page is too low
pub low_found : (counted : Bool) (n place : ℕ) (log : List ℕ) (pages : List Page) (fits : Bool) (seen : List Page) (home len from least : ℕ) (run : Run) → OnWay counted (suc n) place log pages fits seen
    → IsRunAt counted log place run → 0 < run.count → Checked seen home len from least → run.first < least → (fits && leads pages home len) ≡ false
low_found counted n place log pages fits seen home len from least run way is some checked low =
    and_right fits (leads pages home len) (leads_refuted pages home len (λ rises covers.
    low_run run.count run.first (drop run.place log) seen (pages_of_runs counted n (drop (run_len counted (drop place log)) (drop place log))) home len from least some checked low
    (subst (λ (ps : List Page). Rises ps) (sym (run_stands counted n place log pages fits seen way run is)) rises)))

-- a page is missing
pub missing_found : (fits : Bool) (pages : List Page) (home len from least : ℕ) → Checked pages home len from least → home < len → from < pages_for len → (fits && leads pages home len) ≡ false
missing_found fits pages home len from least checked grows early =
    and_right fits (leads pages home len) (leads_refuted pages home len (λ rises covers. one_missing pages home len from least checked grows early covers))

-- ---- a run that passes them

-- the first number that neither earlier pages have nor a run, if they have those before it
abbrev pub Passes : ℕ → ℕ → ℕ → ℕ → Type 0
Passes from first count new = ((from < first) × (new ≡ from)) ⊎ ((first ≤ from) × (new ≡ max from (first + count)))

pub passes : (from first count new : ℕ) → new ≡ cond (nat_lt from first) from (max from (first + count)) → Passes from first count new
passes from first count new is = by_case (nat_lt from first) refl is
  where
    by_case : (b : Bool) → nat_lt from first ≡ b → new ≡ cond b from (max from (first + count)) → Passes from first count new
    by_case true less same = inl (ltb-true from first less, same)
    by_case false not_less same = elim (cases_lt from first) [
      | inl less ↦ absurd (false_true (nat_lt from first) not_less (lt_true from first less))
      | inr more ↦ inr (more, same)
    ]
      where
        false_true : (c : Bool) → c ≡ false → c ≡ true → ⊥
        false_true true is_false is_true = cc
        false_true false is_false is_true = cc

        lt_true : (n m : ℕ) → n < m → nat_lt n m ≡ true
        lt_true n m less = grind arith

pub checked_run : (n first : ℕ) (bytes : List ℕ) (pages : List Page) (home len from least new : ℕ) → 0 < n → Checked pages home len from least → least ≤ first → first + n ≤ pages_for len → Passes from first n new
    → Checked (pages ++ numbered first n bytes) home len new (first + n)
checked_run zero first bytes pages home len from least new some checked above ends step = absurd (omega arith)
checked_run (suc zero) first bytes pages home len from least new some checked above ends step =
    let one : first + 1 ≡ first + suc zero = omega arith in
    subst (λ (m : ℕ). Checked (pages ++ numbered first (suc zero) bytes) home len new m) one
    (checked_more pages (page first (take 512 bytes)) home len from least new checked above (omega arith) (single step (cases_eq first from)))
  where
    single : Passes from first (suc zero) new → ((first ≡ from) ⊎ (first ≢ from)) → ((first ≡ from) × (new ≡ from + 1)) ⊎ ((first ≢ from) × (new ≡ from))
    single (inl before) (inl same) = let less : from < first = before.0 in absurd (omega arith)
    single (inl before) (inr other) = inr (other, before.1)
    single (inr later) (inl same) = let e : new ≡ max from (first + suc zero) = later.1 in inl (same, omega arith)
    single (inr later) (inr other) = let e : new ≡ max from (first + suc zero) = later.1 in let more : first ≤ from = later.0 in inr (other, omega arith)
checked_run (suc (suc n)) first bytes pages home len from least new some checked above ends step = elim (cases_eq first from) [
  | inl same ↦ all (from + 1) (inl (same, refl)) (λ more others. checked_run (suc n) (first + 1) (drop 512 bytes) (pages ++ page first (take 512 bytes) ∷ []) home len (from + 1) (first + 1) new (omega arith) more (omega arith) (omega arith) others) (elim step [
    | inl before ↦ let less : from < first = before.0 in absurd (omega arith)
    | inr later ↦ let e : new ≡ max from (first + suc (suc n)) = later.1 in inr (omega arith, omega arith)
  ])
  | inr other ↦ all from (inr (other, refl)) (λ more others. checked_run (suc n) (first + 1) (drop 512 bytes) (pages ++ page first (take 512 bytes) ∷ []) home len from (first + 1) new (omega arith) more (omega arith) (omega arith) others) (elim step [
    | inl before ↦ let less : from < first = before.0 in let e : new ≡ from = before.1 in inl (omega arith, e)
    | inr later ↦ let e : new ≡ max from (first + suc (suc n)) = later.1 in let more : first ≤ from = later.0 in inr (omega arith, omega arith)
  ])
]
  where
    all : (mid : ℕ) → ((first ≡ from) × (mid ≡ from + 1)) ⊎ ((first ≢ from) × (mid ≡ from))
        → (Checked (pages ++ page first (take 512 bytes) ∷ []) home len mid (first + 1) → Passes mid (first + 1) (suc n) new → Checked (pages ++ page first (take 512 bytes) ∷ [] ++ numbered (first + 1) (suc n) (drop 512 bytes)) home len new (first + 1 + suc n))
        → Passes mid (first + 1) (suc n) new → Checked (pages ++ numbered first (suc (suc n)) bytes) home len new (first + suc (suc n))
    all mid one others passed =
        let more : Checked (pages ++ page first (take 512 bytes) ∷ []) home len mid (first + 1) = checked_more pages (page first (take 512 bytes)) home len from least mid checked above (omega arith) one in
        let sum : first + 1 + suc n ≡ first + suc (suc n) = omega arith in
        subst (λ (m : ℕ). Checked (pages ++ numbered first (suc (suc n)) bytes) home len new m) sum
        (subst (λ (ps : List Page). Checked ps home len new (first + 1 + suc n)) (append_assoc pages (page first (take 512 bytes) ∷ []) (numbered (first + 1) (suc n) (drop 512 bytes))) (others more passed))

-- ---- the pages' bytes

pub runs_sized : (counted : Bool) (n : ℕ) (rest : List ℕ) → has_runs counted n rest ≡ true → Sized (pages_of_runs counted n rest)
runs_sized counted zero rest is = λ k d within. absurd (omega arith)
runs_sized counted (suc n) rest is =
    let both = and_parts (has_run counted rest) (has_runs counted n (drop (run_len counted rest) rest)) is in
    let fits : run_len counted rest ≤ length rest = (some_pages counted rest both.0).1 in
    sized_both (numbered (number_of (take 8 rest)) (pages_told counted rest) (drop (front counted) rest)) (pages_of_runs counted n (drop (run_len counted rest) rest))
    (numbered_sized (pages_told counted rest) (number_of (take 8 rest)) (drop (front counted) rest) (omega (arith, length-drop (front counted) rest)))
    (runs_sized counted n (drop (run_len counted rest) rest) both.1)
