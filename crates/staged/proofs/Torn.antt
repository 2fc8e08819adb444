-- What a recovery makes of torn files.
use Rattle.std.proofs.Common.{inl, inr, ⊎_elim, ◌≡◌, ℕ, ◌+◌, ◌-◌, ◌*◌, ◌/◌, ◌%◌, ◌<◌, ◌≤◌, min, nat_lt, ◌==◌, ◌&&◌, Bool, true, false, cond, List, [], ◌∷◌, length, get_or, drop, Option, Some, None, refl, sym, ◌∙◌, ap, arith, subst}
use Rattle.std.proofs.lemmas.Bool.{cases_lt, cases_eq, and_parts, and_from, cond-true, cond-false}
use Rattle.std.proofs.lemmas.List.{same_lists, get_or-take, get_or-drop}
use Rattle.staged.specs.Pages.{page_at, HoldsPage, Covers, byte_in, laid_over}
use Rattle.staged.specs.Log.{logged, recovered, recovered_by, OpenLog, ClosedLog, MalformedLog, has_open_gate, is_whole, leads, length_in, pages_in}
use Rattle.staged.specs.Files.{Files}
use Rattle.staged.specs.Device.{Torn}
use Rattle.staged.specs.declared.pages.Page.{Page}
use Rattle.staged.proofs.Laid.{length_laid, get_laid}
use Rattle.staged.proofs.Leads.{leads_true, leads_from}
use Rattle.staged.specs.Steps.{RecoversEither}
use Rattle.staged.proofs.Homed.{nothing}

-- a file over which some of these pages may have been written, in part or whole, each cut at the length
pub record TornPages (file : List ℕ) (pages : List Page) (len : ℕ) (now : List ℕ) : Type 0 where
  pub no_shorter : length file ≤ length now
  pub no_longer : length now ≤ len
  pub apart : (at : ℕ) → at < length file → page_at pages (at / 512) ≡ None → get_or now at 0 ≡ get_or file at 0

same_byte : (p : Option (List ℕ)) (k a b : ℕ) → (p ≡ None → a ≡ b) → byte_in p k a ≡ byte_in p k b
same_byte None k a b h = h refl
same_byte (Some page) k a b h = refl

inside : (file : List ℕ) (pages : List Page) (len i : ℕ) → Covers pages (length file) len → i < len → page_at pages (i / 512) ≡ None → i < length file
inside file pages len i covers below none = elim (cases_lt i (length file)) [
  | inl within ↦ within
  | inr past ↦ absurd (nothing pages (i / 512) none (covers.there (i / 512) (omega arith) (omega arith) (omega arith)))
]

-- torn pages count for nothing where they are laid over again
pub torn_laid : (file : List ℕ) (pages : List Page) (len : ℕ) (now : List ℕ) → Covers pages (length file) len → TornPages file pages len now → laid_over now pages len ≡ laid_over file pages len
torn_laid file pages len now covers torn =
    same_lists (laid_over now pages len) (laid_over file pages len) (length_laid now pages len ∙ sym (length_laid file pages len)) (λ i d below.
    let within : i < len = omega (arith, length_laid now pages len, below) in
    get_laid now pages len i d within
    ∙ same_byte (page_at pages (i / 512)) (i % 512) (get_or now i 0) (get_or file i 0) (λ none. torn.apart i (inside file pages len i covers within none) none)
    ∙ sym (get_laid file pages len i d within))

pub torn_covers : (file : List ℕ) (pages : List Page) (len : ℕ) (now : List ℕ) → Covers pages (length file) len → TornPages file pages len now → Covers pages (length now) len
torn_covers file pages len now covers torn = record {
  no_shorter = torn.no_longer;
  inside = covers.inside;
  there = λ n grows past begins. covers.there n (omega (arith, torn.no_shorter, grows)) (omega (arith, torn.no_shorter, past)) begins;
}

-- one more page is torn
pub torn_more : (file : List ℕ) (pages : List Page) (len n : ℕ) (before left : List ℕ) → HoldsPage pages n → 512 * n < len → Torn (512 * n) (min (len - 512 * n) 512) before left → TornPages file pages len before → TornPages file pages len left
torn_more file pages len n before left held begins torn so_far = record {
  no_shorter = omega (arith, so_far.no_shorter, torn.no_shorter);
  no_longer = let e = torn.no_longer in let f = so_far.no_longer in omega arith;
  apart = λ i within none. same i none ∙ so_far.apart i within none;
}
  where
    same : (i : ℕ) → page_at pages (i / 512) ≡ None → get_or left i 0 ≡ get_or before i 0
    same i none = elim (cases_lt i (512 * n)) [
      | inl early ↦ sym (get_or-take (512 * n) left i 0 early) ∙ ap (λ (l : List ℕ). get_or l i 0) torn.before ∙ get_or-take (512 * n) before i 0 early
      | inr from ↦ elim (cases_eq (i / 512) n) [
        | inl here ↦ absurd (nothing pages (i / 512) none (subst (λ (m : ℕ). HoldsPage pages m) (sym here) held))
        | inr other ↦
            let at = 512 * n + min (len - 512 * n) 512 in
            let place : i ≡ at + (i - at) = omega arith in
            ap (λ (j : ℕ). get_or left j 0) place ∙ sym (get_or-drop at left (i - at) 0)
            ∙ ap (λ (l : List ℕ). get_or l (i - at) 0) torn.after
            ∙ get_or-drop at before (i - at) 0 ∙ ap (λ (j : ℕ). get_or before j 0) (sym place)
      ]
    ]

-- what an open log is made of
opened_parts : (files : Files) (len : ℕ) (pages : List Page) → logged files ≡ OpenLog len pages
    → (has_open_gate files.log ≡ true) × ((is_whole files.log && leads (pages_in files.log) (length files.home) (length_in files.log)) ≡ true) × (length_in files.log ≡ len) × (pages_in files.log ≡ pages)
opened_parts files len pages is = go (has_open_gate files.log) (is_whole files.log && leads (pages_in files.log) (length files.home) (length_in files.log)) is
  where
    go : (g h : Bool) → cond g (cond h (OpenLog (length_in files.log) (pages_in files.log)) MalformedLog) ClosedLog ≡ OpenLog len pages → (g ≡ true) × (h ≡ true) × (length_in files.log ≡ len) × (pages_in files.log ≡ pages)
    go true true is = (refl, refl, cc, cc)
    go true false is = absurd (cc is)
    go false h is = absurd (cc is)

-- under an open gate a torn home file stays open
pub torn_open : (file log : List ℕ) (pages : List Page) (len : ℕ) (now : List ℕ) → logged (record { home = file; log = log }) ≡ OpenLog len pages → TornPages file pages len now → logged (record { home = now; log = log }) ≡ OpenLog len pages
torn_open file log pages len now is torn =
    let parts = opened_parts (record { home = file; log = log }) len pages is in
    let both = and_parts (is_whole log) (leads (pages_in log) (length file) (length_in log)) parts.1 in
    let fit = leads_true (pages_in log) (length file) (length_in log) both.1 in
    let over : TornPages file (pages_in log) (length_in log) now = subst (λ (ps : List Page). TornPages file ps (length_in log) now) (sym parts.3) (subst (λ (n : ℕ). TornPages file pages n now) (sym parts.2) torn) in
    let still : leads (pages_in log) (length now) (length_in log) ≡ true = leads_from (pages_in log) (length now) (length_in log) fit.0 (torn_covers file (pages_in log) (length_in log) now fit.1 over) in
    cond-true (has_open_gate log) (cond (is_whole log && leads (pages_in log) (length now) (length_in log)) (OpenLog (length_in log) (pages_in log)) MalformedLog) ClosedLog parts.0
    ∙ cond-true (is_whole log && leads (pages_in log) (length now) (length_in log)) (OpenLog (length_in log) (pages_in log)) MalformedLog (and_from (is_whole log) _ both.0 still)
    ∙ ap (λ (n : ℕ). OpenLog n (pages_in log)) parts.2 ∙ ap (λ (ps : List Page). OpenLog len ps) parts.3

-- the widest lemma: an open gate before a whole log gives the new bytes over any torn home file
pub torn_recovers : (file log : List ℕ) (pages : List Page) (len : ℕ) (now : List ℕ) → logged (record { home = file; log = log }) ≡ OpenLog len pages → TornPages file pages len now
    → recovered (record { home = now; log = log }) ≡ Some (laid_over file pages len)
torn_recovers file log pages len now is torn =
    let parts = opened_parts (record { home = file; log = log }) len pages is in
    let fit = leads_true (pages_in log) (length file) (length_in log) (and_parts (is_whole log) (leads (pages_in log) (length file) (length_in log)) parts.1).1 in
    let covers : Covers pages (length file) len = subst (λ (ps : List Page). Covers ps (length file) len) parts.3 (subst (λ (n : ℕ). Covers (pages_in log) (length file) n) parts.2 fit.1) in
    ap (recovered_by (record { home = now; log = log })) (torn_open file log pages len now is torn) ∙ ap (λ (l : List ℕ). Some l) (torn_laid file pages len now covers torn)

-- pages laid over whole are torn pages too
pub whole_torn : (file : List ℕ) (pages : List Page) (len : ℕ) → Covers pages (length file) len → TornPages file pages len (laid_over file pages len)
whole_torn file pages len covers = record {
  no_shorter = omega (arith, covers.no_shorter, length_laid file pages len);
  no_longer = omega (arith, length_laid file pages len);
  apart = λ i within none. get_laid file pages len i 0 (omega (arith, covers.no_shorter, within)) ∙ ap (λ (p : Option (List ℕ)). byte_in p (i % 512) (get_or file i 0)) none;
}

-- ---- gates

pub shut : (files : Files) → has_open_gate files.log ≡ false → recovered files ≡ Some files.home
shut files is = ap (recovered_by files) (cond-false (has_open_gate files.log) (cond (is_whole files.log && leads (pages_in files.log) (length files.home) (length_in files.log)) (OpenLog (length_in files.log) (pages_in files.log)) MalformedLog) ClosedLog is)

-- at most one byte, whatever a cut first gate left
pub short_gate : (log : List ℕ) → length log ≤ 1 → has_open_gate log ≡ false
short_gate log short = go (get_or log 0 0 == 1) (nat_lt 1 (length log)) (Rattle.std.proofs.lemmas.Bool.le-ltb 1 (length log) short)
  where
    go : (a b : Bool) → b ≡ false → (a && b) ≡ false
    go true b is = is
    go false b is = refl

-- the gate's byte stays under writes behind it
pub behind_gate : (at n : ℕ) (before left : List ℕ) → 1 ≤ at → Torn at n before left → get_or left 0 0 ≡ get_or before 0 0
behind_gate at n before left past torn = sym (get_or-take at left 0 0 past) ∙ ap (λ (l : List ℕ). get_or l 0 0) torn.before ∙ get_or-take at before 0 0 past

head_tail : (l : List ℕ) → 1 ≤ length l → l ≡ get_or l 0 0 ∷ drop 1 l
head_tail [] some = absurd (omega arith)
head_tail (x ∷ xs) some = refl

-- a gate that was cut is the old log with another first byte
pub gate_torn : (old left : List ℕ) → 1 ≤ length old → Torn 0 1 old left → left ≡ get_or left 0 0 ∷ drop 1 old
gate_torn old left some torn = head_tail left (omega (arith, torn.no_shorter)) ∙ ap (λ (l : List ℕ). get_or left 0 0 ∷ l) torn.after

open_gate : (left : List ℕ) → has_open_gate left ≡ true → get_or left 0 0 ≡ 1
open_gate left is = (let a = (and_parts (get_or left 0 0 == 1) (nat_lt 1 (length left)) is).0 in grind (arith, Rattle.std.proofs.lemmas.Bool.Decides.nat_tests))

-- while the gate over a whole log is set or closed, a recovery gives the home file, or that with the pages laid over it
pub gate_gives : (file log : List ℕ) (pages : List Page) (len : ℕ) (left : Files) → 1 ≤ length log → logged (record { home = file; log = 1 ∷ drop 1 log }) ≡ OpenLog len pages
    → left.home ≡ file → Torn 0 1 log left.log → RecoversEither file (laid_over file pages len) left
gate_gives file log pages len left some is home torn = go (has_open_gate left.log) refl
  where
    go : (b : Bool) → has_open_gate left.log ≡ b → RecoversEither file (laid_over file pages len) left
    go false gate = inl (shut left gate ∙ ap (λ (l : List ℕ). Some l) home)
    go true gate =
        let same : left.log ≡ 1 ∷ drop 1 log = gate_torn log left.log some torn ∙ ap (λ (b : ℕ). b ∷ drop 1 log) (open_gate left.log gate) in
        let files : left ≡ record { home = file; log = 1 ∷ drop 1 log } = Rattle.staged.proofs.Steps.same_files left file (1 ∷ drop 1 log) home same in
        inr (ap recovered files ∙ ap (recovered_by (record { home = file; log = 1 ∷ drop 1 log })) is)

-- ---- from a pair that lasts

-- a closed log gives the home file
pub closed_gives : (files : Files) → logged files ≡ ClosedLog → recovered files ≡ Some files.home
closed_gives files closed = ap (recovered_by files) closed

-- the whole file under an open gate gives itself
pub whole_gives : (file log : List ℕ) (pages : List Page) (len : ℕ) (left : Files) → 1 ≤ length log → Covers pages (length file) len → logged (record { home = file; log = 1 ∷ drop 1 log }) ≡ OpenLog len pages
    → left.home ≡ laid_over file pages len → Torn 0 1 log left.log → recovered left ≡ Some (laid_over file pages len)
whole_gives file log pages len left some covers is home torn =
    let whole = laid_over file pages len in
    let over = whole_torn file pages len covers in
    let again : laid_over whole pages len ≡ whole = torn_laid file pages len whole covers over in
    ⊎_elim (λ e. e) (λ e. e ∙ ap (λ (l : List ℕ). Some l) again)
    (gate_gives whole log pages len left some (torn_open file (1 ∷ drop 1 log) pages len whole is over) home torn)

-- a cut gate that is cut again
pub torn_again : (at n : ℕ) (a b c : List ℕ) → Torn at n a b → Torn at n b c → Torn at n a c
torn_again at n a b c f s = record {
  before = s.before ∙ f.before;
  after = s.after ∙ f.after;
  no_shorter = omega (arith, f.no_shorter, s.no_shorter);
  no_longer = omega (arith, f.no_longer, s.no_longer);
}

pub none_torn : (at n : ℕ) (l : List ℕ) → Torn at n l l
none_torn at n l = record { before = refl; after = refl; no_shorter = omega arith; no_longer = omega arith }

-- an open log begins with 01
pub opened_log : (files : Files) (len : ℕ) (pages : List Page) → logged files ≡ OpenLog len pages → files.log ≡ 1 ∷ drop 1 files.log
opened_log files len pages is =
    let gate = (opened_parts files len pages is).0 in
    head_tail files.log (some files.log gate) ∙ ap (λ (b : ℕ). b ∷ drop 1 files.log) (open_gate files.log gate)
  where
    some : (log : List ℕ) → has_open_gate log ≡ true → 1 ≤ length log
    some [] gate = absurd (cc gate)
    some (x ∷ xs) gate = omega arith
