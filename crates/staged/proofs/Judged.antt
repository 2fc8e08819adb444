-- Telling a log by its first bytes.
use Rattle.std.proofs.Common.{if◌then◌else◌, ◌≡◌, ℕ, ◌+◌, ◌-◌, ◌*◌, ◌<◌, ◌≤◌, Bool, true, false, ◌==◌, ◌||◌, ◌&&◌, nat_le, nat_eq, List, [], ◌∷◌, length, get_or, take, drop, inl, inr, refl, sym, ◌∙◌, ap, arith, subst, length-take, length-drop}
use Rattle.std.proofs.lemmas.Bool.{cases_lt, eqb-true}
use Rattle.std.proofs.lemmas.List.{take_all, get_or-take, get_or-drop}
use Rattle.std.proofs.lemmas.Slice.Eq.{bytes_eq-Decides}
use Rattle.std.proofs.lemmas.Bool.Decides.{nat_tests}
use Rattle.std.specs.List.{starts_with}
use Rattle.std.specs.Str.{bytes_eq}
use Rattle.cfb_medium.specs.Bytes.{Serves}
use Rattle.staged.specs.Log.{is_log, IsNotOpen, magic, first_magic, has_magic, has_runs, is_counted, is_whole, has_open_gate, leads, pages_in, count_in, length_in, ClosedLog, MalformedLog, OpenLog}

-- eight bytes of nothing
abbrev pub blank : List ℕ
blank = 0 ∷ 0 ∷ 0 ∷ 0 ∷ 0 ∷ 0 ∷ 0 ∷ 0 ∷ []

alike : (a b c d : List ℕ) → (a ≡ b → c ≡ d) → (c ≡ d → a ≡ b) → bytes_eq a b ≡ bytes_eq c d
alike a b c d there back = by_case (bytes_eq a b) (bytes_eq c d) refl refl
  where
    by_case : (p q : Bool) → bytes_eq a b ≡ p → bytes_eq c d ≡ q → bytes_eq a b ≡ bytes_eq c d
    by_case true true e f = e ∙ sym f
    by_case false false e f = e ∙ sym f
    by_case true false e f = let g : bytes_eq c d ≡ true = (bytes_eq-Decides c d).1 (there ((bytes_eq-Decides a b).0 e)) in absurd (cc (f, g))
    by_case false true e f = let g : bytes_eq a b ≡ true = (bytes_eq-Decides a b).1 (back ((bytes_eq-Decides c d).0 f)) in absurd (cc (e, g))

-- what was read behind the first byte is a magic where it stands there
magic_read : (log new wanted : List ℕ) (count : ℕ) → length new ≡ 8 → length wanted ≡ 8 → 0 < get_or wanted 7 0 → Serves log 1 blank new count → bytes_eq new wanted ≡ starts_with nat_eq (drop 1 log) wanted
magic_read log new wanted count long size last serves = alike new wanted wanted (take 8 (drop 1 log)) there back ∙ sym (ap (λ (n : ℕ). bytes_eq wanted (take n (drop 1 log))) size)
  where
    whole : 8 ≤ length log - 1 → new ≡ take 8 (drop 1 log)
    whole enough =
        let all : count ≡ 8 = omega (arith, serves.smaller) in
        sym (take_all 8 new (omega arith)) ∙ ap (λ (n : ℕ). take n new) (sym all) ∙ serves.front ∙ ap (λ (n : ℕ). take n (drop 1 log)) all

    there : new ≡ wanted → wanted ≡ take 8 (drop 1 log)
    there is = elim (cases_lt (length log - 1) 8) [
      | inr enough ↦ sym is ∙ whole enough
      | inl short ↦
          let few : count ≡ length log - 1 = omega (arith, serves.smaller) in
          let left : count < 8 = omega arith in
          let rest : get_or (drop count new) (7 - count) 0 ≡ get_or (drop count blank) (7 - count) 0 = ap (λ (l : List ℕ). get_or l (7 - count) 0) serves.rest in
          let place : count + (7 - count) ≡ 7 = omega arith in
          let one : get_or new (count + (7 - count)) 0 ≡ get_or blank (count + (7 - count)) 0 = sym (get_or-drop count new (7 - count) 0) ∙ rest ∙ get_or-drop count blank (7 - count) 0 in
          let two : get_or new 7 0 ≡ get_or blank 7 0 = subst (λ (n : ℕ). get_or new n 0 ≡ get_or blank n 0) place one in
          let three : get_or wanted 7 0 ≡ 0 = ap (λ (l : List ℕ). get_or l 7 0) (sym is) ∙ two in
          absurd (omega (arith, three, last))
    ]

    back : wanted ≡ take 8 (drop 1 log) → new ≡ wanted
    back is =
        let all : length (take 8 (drop 1 log)) ≡ 8 = ap length (sym is) ∙ size in
        let enough : 8 ≤ length log - 1 = omega (arith, all, length-take 8 (drop 1 log), length-drop 1 log) in
        whole enough ∙ sym is

-- the first byte that was read
first_read : (log new : List ℕ) (count : ℕ) → 1 < length log → Serves log 0 (1 ∷ []) new count → get_or new 0 0 ≡ get_or log 0 0
first_read log new count some serves =
    let all : count ≡ 1 = omega (arith, serves.smaller) in
    sym (get_or-take 1 new 0 0 (omega arith)) ∙ ap (λ (n : ℕ). get_or (take n new) 0 0) (sym all) ∙ ap (λ (l : List ℕ). get_or l 0 0) serves.front
    ∙ ap (λ (n : ℕ). get_or (take n (drop 0 log)) 0 0) all ∙ get_or-take 1 (drop 0 log) 0 0 (omega arith) ∙ get_or-drop 0 log 0 0

-- the magic of the first form was read
pub first_told : (log new : List ℕ) (count : ℕ) → length new ≡ 8 → Serves log 1 blank new count → bytes_eq new first_magic ≡ true → is_log log ≡ true
first_told log new count long serves same =
    let begins : starts_with nat_eq (drop 1 log) first_magic ≡ true = sym (magic_read log new first_magic count long refl (omega arith) serves) ∙ same in
    ap (λ (b : Bool). nat_le (length log) 1 || (get_or log 0 0 == 0) || (starts_with nat_eq (drop 1 log) magic || b)) begins ∙ or_last (nat_le (length log) 1 || (get_or log 0 0 == 0)) (starts_with nat_eq (drop 1 log) magic)
  where
    or_last : (a b : Bool) → (a || (b || true)) ≡ true
    or_last true b = refl
    or_last false true = refl
    or_last false false = refl

-- it wasn't
pub log_told : (log gate new : List ℕ) (read count : ℕ) → 1 < length log → Serves log 0 (1 ∷ []) gate read → (get_or gate 0 0 ≡ 0 → ⊥) → length new ≡ 8 → Serves log 1 blank new count → bytes_eq new first_magic ≡ false
    → bytes_eq new magic ≡ is_log log
log_told log gate new read count some first closed long serves other =
    let not_short : nat_le (length log) 1 ≡ false = grind (arith, nat_tests) in
    let not_zero : (get_or log 0 0 == 0) ≡ false = not_equal (get_or log 0 0) (λ is. closed (first_read log gate read some first ∙ is)) in
    let not_first : starts_with nat_eq (drop 1 log) first_magic ≡ false = sym (magic_read log new first_magic count long refl (omega arith) serves) ∙ other in
    magic_read log new magic count long refl (omega arith) serves
    ∙ sym (ap (λ (b : Bool). b || (get_or log 0 0 == 0) || has_magic log) not_short ∙ ap (λ (b : Bool). false || b || has_magic log) not_zero
    ∙ ap (λ (b : Bool). starts_with nat_eq (drop 1 log) magic || b) not_first ∙ or_none (starts_with nat_eq (drop 1 log) magic))
  where
    or_none : (b : Bool) → (b || false) ≡ b
    or_none true = refl
    or_none false = refl

    not_equal : (n : ℕ) → (n ≡ 0 → ⊥) → (n == 0) ≡ false
    not_equal n other = by_case (n == 0) refl
      where
        by_case : (b : Bool) → (n == 0) ≡ b → (n == 0) ≡ false
        by_case false is = is
        by_case true is = absurd (other (eqb-true n 0 is))

-- what is told to be no log is no open one
pub none_open : (home log : List ℕ) → is_log log ≡ false → IsNotOpen home log
none_open home log is len pages opened = by_case (has_magic log) refl
  where
    by_case : (b : Bool) → has_magic log ≡ b → ⊥
    by_case true begins = or_true (nat_le (length log) 1 || (get_or log 0 0 == 0)) (sym (ap (λ (b : Bool). nat_le (length log) 1 || (get_or log 0 0 == 0) || b) begins) ∙ is)
      where
        or_true : (b : Bool) → (b || true) ≡ false → ⊥
        or_true true never = cc
        or_true false never = cc
    by_case false begins =
        let headless : is_whole log ≡ false = ap (λ (b : Bool). b && nat_le 25 (length log) && has_runs (is_counted log) (count_in log) (drop 25 log)) begins in
        gate (has_open_gate log) headless opened
      where
        gate : (b : Bool) → is_whole log ≡ false → (if b then (if is_whole log && leads (pages_in log) (length home) (length_in log) then OpenLog (length_in log) (pages_in log) else MalformedLog) else ClosedLog) ≡ OpenLog len pages → ⊥
        gate false headless never = cc
        gate true headless never =
            let gone : (if false && leads (pages_in log) (length home) (length_in log) then OpenLog (length_in log) (pages_in log) else MalformedLog) ≡ OpenLog len pages = subst (λ (h : Bool). (if h && leads (pages_in log) (length home) (length_in log) then OpenLog (length_in log) (pages_in log) else MalformedLog) ≡ OpenLog len pages) headless never in
            cc
