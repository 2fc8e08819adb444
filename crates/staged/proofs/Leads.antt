-- The tests of a log's pages, and what they say.
use Rattle.std.proofs.Common.{inl, inr, ◌≡◌, ℕ, ◌+◌, ◌-◌, ◌*◌, ◌/◌, ◌<◌, ◌≤◌, ◌==◌, ◌||◌, ◌&&◌, nat_lt, nat_le, Bool, true, false, cond, zero, suc, List, [], ◌∷◌, length, get_or, drop, Option, Some, is_some, refl, sym, ◌∙◌, ap, arith, subst}
use Rattle.std.specs.Prelude.{IsTrue}
use Rattle.std.specs.List.{list_any, list_all}
use Rattle.std.proofs.lemmas.Bool.{cases_lt, cases_eq, and_parts, and_from, ltb-true, lt-ltb, leb-true, le-leb, le-ltb, cond-true, cond-false, false_from_ne_true}
use Rattle.staged.specs.Log.{rises, has_pages, fits_home, pages_for, leads, has_open_gate, has_head, is_whole, is_counted, has_runs, length_in, count_in, pages_in, pages_of_runs, ClosedLog, MalformedLog, OpenLog, logged}
use Rattle.staged.specs.Walk.{IsWholeHead, FindsOpen}
use Rattle.staged.specs.Files.{Files}
use Rattle.staged.specs.declared.recovery.Opened.{Opened}
use Rattle.staged.specs.declared.walk.Head.{Head}
use Rattle.staged.specs.Pages.{page_at, HoldsPage, Rises, Covers}
use Rattle.staged.specs.declared.pages.Page.{Page}
use Rattle.staged.proofs.Found.{at_head, at_tail}

-- rising numbers
rises_more : (page : Page) (pages : List Page) → ((d : Page) → 0 < length pages → page.number < (get_or pages 0 d).number) → Rises pages → Rises (page ∷ pages)
rises_more page pages first rest = record { rising = each }
  where
    each : (i j : ℕ) (d : Page) → i < j → j < suc (length pages) → (get_or (page ∷ pages) i d).number < (get_or (page ∷ pages) j d).number
    each i zero d less within = absurd (omega arith)
    each zero (suc zero) d less within = first d (omega arith)
    each zero (suc (suc j)) d less within =
        let a : page.number < (get_or pages 0 d).number = first d (omega arith) in
        let b : (get_or pages 0 d).number < (get_or pages (suc j) d).number = rest.rising 0 (suc j) d (omega arith) (omega arith) in
        omega arith
    each (suc i) (suc j) d less within = rest.rising i j d (omega arith) (omega arith)

rises_rest : (page : Page) (pages : List Page) → Rises (page ∷ pages) → Rises pages
rises_rest page pages rises = record { rising = λ i j d less within. rises.rising (suc i) (suc j) d (omega arith) (omega arith) }

rises_true : (pages : List Page) → rises pages ≡ true → Rises pages
rises_true [] is = record { rising = λ i j d less within. absurd (omega arith) }
rises_true (page ∷ []) is = record { rising = λ i j d less within. absurd (omega arith) }
rises_true (page ∷ next ∷ pages) is =
    let both = and_parts (nat_lt page.number next.number) (rises (next ∷ pages)) is in
    rises_more page (next ∷ pages) (λ d some. ltb-true page.number next.number both.0) (rises_true (next ∷ pages) both.1)

rises_from : (pages : List Page) → Rises pages → rises pages ≡ true
rises_from [] is = refl
rises_from (page ∷ []) is = refl
rises_from (page ∷ next ∷ pages) is =
    and_from (nat_lt page.number next.number) (rises (next ∷ pages)) (lt-ltb page.number next.number (is.rising 0 1 page (omega arith) (omega arith))) (rises_from (next ∷ pages) (rises_rest page (next ∷ pages) is))

-- a page of a number
or_some : (b : Bool) (bytes : List ℕ) (rest : Option (List ℕ)) (r : Bool) → r ≡ is_some rest → (b || r) ≡ is_some (cond b (Some bytes) rest)
or_some true bytes rest r is = refl
or_some false bytes rest r is = is

any_is : (pages : List Page) (n : ℕ) → list_any (λ (page : Page). page.number == n) pages ≡ is_some (page_at pages n)
any_is [] n = refl
any_is (page ∷ pages) n = or_some (page.number == n) page.bytes (page_at pages n) _ (any_is pages n)

has_true : (pages : List Page) (first n : ℕ) → has_pages pages first n ≡ true → (m : ℕ) → first ≤ m → m < first + n → HoldsPage pages m
has_true pages first zero is m from below = absurd (omega arith)
has_true pages first (suc n) is m from below =
    let both = and_parts (list_any (λ (page : Page). page.number == first) pages) (has_pages pages (first + 1) n) is in
    elim (cases_eq first m) [
      | inl same ↦ subst (λ (k : ℕ). HoldsPage pages k) same (sym (any_is pages first) ∙ both.0)
      | inr other ↦ has_true pages (first + 1) n both.1 m (omega arith) (omega arith)
    ]

has_from : (pages : List Page) (first n : ℕ) → ((m : ℕ) → first ≤ m → m < first + n → HoldsPage pages m) → has_pages pages first n ≡ true
has_from pages first zero each = refl
has_from pages first (suc n) each =
    and_from (list_any (λ (page : Page). page.number == first) pages) (has_pages pages (first + 1) n) (any_is pages first ∙ each first (omega arith) (omega arith)) (has_from pages (first + 1) n (λ m from below. each m (omega arith) (omega arith)))

-- each page begins in the length
some_holds : (pages : List Page) (n : ℕ) (bytes : List ℕ) → page_at pages n ≡ Some bytes → HoldsPage pages n
some_holds pages n bytes is = ap (λ (p : Option (List ℕ)). is_some p) is

all_true : (pages : List Page) (len : ℕ) → list_all (λ (page : Page). nat_lt (512 * page.number) len) pages ≡ true → (n : ℕ) → HoldsPage pages n → 512 * n < len
all_true [] len is n held = absurd (cc held)
all_true (page ∷ pages) len is n held =
    let both = and_parts (nat_lt (512 * page.number) len) (list_all (λ (p : Page). nat_lt (512 * p.number) len) pages) is in
    elim (cases_eq page.number n) [
      | inl same ↦ subst (λ (k : ℕ). 512 * k < len) same (ltb-true (512 * page.number) len both.0)
      | inr other ↦ all_true pages len both.1 n (subst (λ (p : Option (List ℕ)). IsTrue (is_some p)) (at_tail page pages n other) held)
    ]

all_from : (pages : List Page) (len : ℕ) → ((n : ℕ) → HoldsPage pages n → 512 * n < len) → list_all (λ (page : Page). nat_lt (512 * page.number) len) pages ≡ true
all_from [] len each = refl
all_from (page ∷ pages) len each =
    and_from (nat_lt (512 * page.number) len) (list_all (λ (p : Page). nat_lt (512 * p.number) len) pages)
    (lt-ltb (512 * page.number) len (each page.number (some_holds (page ∷ pages) page.number page.bytes (at_head page pages page.number refl))))
    (all_from pages len (λ n held. elim (cases_eq page.number n) [
      | inl same ↦ each n (some_holds (page ∷ pages) n page.bytes (at_head page pages n same))
      | inr other ↦ each n (subst (λ (p : Option (List ℕ)). IsTrue (is_some p)) (sym (at_tail page pages n other)) held)
    ]))

fits_true : (home len : ℕ) (pages : List Page) → fits_home home len pages ≡ true → Covers pages home len
fits_true home len pages is =
    let both = and_parts (nat_le home len && list_all (λ (page : Page). nat_lt (512 * page.number) len) pages) (cond (nat_lt home len) (has_pages pages (home / 512) (pages_for len - home / 512)) true) is in
    let front = and_parts (nat_le home len) (list_all (λ (page : Page). nat_lt (512 * page.number) len) pages) both.0 in
    record {
      no_shorter = leb-true home len front.0;
      inside = all_true pages len front.1;
      there = λ n grows past begins.
          let whole : has_pages pages (home / 512) (pages_for len - home / 512) ≡ true = sym (cond-true (nat_lt home len) (has_pages pages (home / 512) (pages_for len - home / 512)) true (lt-ltb home len grows)) ∙ both.1 in
          has_true pages (home / 512) (pages_for len - home / 512) whole n (omega arith) (omega arith);
    }

fits_from : (home len : ℕ) (pages : List Page) → Covers pages home len → fits_home home len pages ≡ true
fits_from home len pages covers =
    and_from (nat_le home len && list_all (λ (page : Page). nat_lt (512 * page.number) len) pages) (cond (nat_lt home len) (has_pages pages (home / 512) (pages_for len - home / 512)) true)
    (and_from (nat_le home len) (list_all (λ (page : Page). nat_lt (512 * page.number) len) pages) (le-leb home len covers.no_shorter) (all_from pages len covers.inside))
    (elim (cases_lt home len) [
      | inl grows ↦ cond-true (nat_lt home len) (has_pages pages (home / 512) (pages_for len - home / 512)) true (lt-ltb home len grows)
          ∙ has_from pages (home / 512) (pages_for len - home / 512) (λ m from below. covers.there m grows (omega arith) (omega arith))
      | inr stays ↦ cond-false (nat_lt home len) (has_pages pages (home / 512) (pages_for len - home / 512)) true (le-ltb home len stays)
    ])

-- both tests
pub leads_true : (pages : List Page) (home len : ℕ) → leads pages home len ≡ true → Rises pages × Covers pages home len
leads_true pages home len is =
    let both = and_parts (rises pages) (fits_home home len pages) is in
    (rises_true pages both.0, fits_true home len pages both.1)

pub leads_from : (pages : List Page) (home len : ℕ) → Rises pages → Covers pages home len → leads pages home len ≡ true
leads_from pages home len rising covers = and_from (rises pages) (fits_home home len pages) (rises_from pages rising) (fits_from home len pages covers)

pub leads_refuted : (pages : List Page) (home len : ℕ) → (Rises pages → Covers pages home len → ⊥) → leads pages home len ≡ false
leads_refuted pages home len never = false_from_ne_true (leads pages home len) (λ is. let both = leads_true pages home len is in never both.0 both.1)

-- the runs and pages that were read by a head are those of the log
pub pages_same : (log : List ℕ) (head : Head) → IsWholeHead log head → pages_of_runs head.counted head.count (drop 25 log) ≡ pages_in log
pages_same log head is = ap (λ (b : Bool). pages_of_runs b head.count (drop 25 log)) is.counted ∙ ap (λ (n : ℕ). pages_of_runs (is_counted log) n (drop 25 log)) is.count

pub runs_same : (log : List ℕ) (head : Head) → IsWholeHead log head → has_runs head.counted head.count (drop 25 log) ≡ has_runs (is_counted log) (count_in log) (drop 25 log)
runs_same log head is = ap (λ (b : Bool). has_runs b head.count (drop 25 log)) is.counted ∙ ap (λ (n : ℕ). has_runs (is_counted log) n (drop 25 log)) is.count

-- an open gate before a whole head, whole runs, and pages that lead to its length
pub open_head : (files : Files) (opened : Opened) → has_open_gate files.log ≡ true → IsWholeHead files.log opened.head → has_runs opened.head.counted opened.head.count (drop 25 files.log) ≡ true
    → leads (pages_of_runs opened.head.counted opened.head.count (drop 25 files.log)) (length files.home) opened.head.len ≡ true
    → opened.pages ≡ length (pages_of_runs opened.head.counted opened.head.count (drop 25 files.log)) → FindsOpen files (Some opened)
open_head files opened gate is runs fits count =
    let log = files.log in
    let head = opened.head in
    let same : pages_of_runs head.counted head.count (drop 25 log) ≡ pages_in log = pages_same log head is in
    let whole : has_runs (is_counted log) (count_in log) (drop 25 log) ≡ true = sym (runs_same log head is) ∙ runs in
    let here : leads (pages_in log) (length files.home) head.len ≡ true = ap (λ (ps : List Page). leads ps (length files.home) head.len) (sym same) ∙ fits in
    let fit : leads (pages_in log) (length files.home) (length_in log) ≡ true = ap (λ (n : ℕ). leads (pages_in log) (length files.home) n) (sym is.len) ∙ here in
    let both = leads_true (pages_in log) (length files.home) head.len here in
    let all : is_whole log ≡ true = and_from (has_head log) (has_runs (is_counted log) (count_in log) (drop 25 log)) is.whole whole in
    let open_log : logged files ≡ OpenLog (length_in log) (pages_in log) =
    cond-true (has_open_gate log) (cond (is_whole log && leads (pages_in log) (length files.home) (length_in log)) (OpenLog (length_in log) (pages_in log)) MalformedLog) ClosedLog gate
    ∙ cond-true (is_whole log && leads (pages_in log) (length files.home) (length_in log)) (OpenLog (length_in log) (pages_in log)) MalformedLog (and_from (is_whole log) _ all fit) in (
      open_log ∙ ap (λ (n : ℕ). OpenLog n (pages_in log)) (sym is.len),
      record {
        read = is;
        whole = whole;
        rising = both.0;
        covers = both.1;
      },
      count ∙ ap (λ (ps : List Page). length ps) same,
    )

malformed : (files : Files) → has_open_gate files.log ≡ true → (is_whole files.log && leads (pages_in files.log) (length files.home) (length_in files.log)) ≡ false → logged files ≡ MalformedLog
malformed files gate never =
    let log = files.log in
    cond-true (has_open_gate log) (cond (is_whole log && leads (pages_in log) (length files.home) (length_in log)) (OpenLog (length_in log) (pages_in log)) MalformedLog) ClosedLog gate
    ∙ cond-false (is_whole log && leads (pages_in log) (length files.home) (length_in log)) (OpenLog (length_in log) (pages_in log)) MalformedLog never

-- a head that isn't whole, and one behind which the runs aren't, or their pages don't lead to the length
pub malformed_head : (files : Files) → has_open_gate files.log ≡ true → has_head files.log ≡ false → logged files ≡ MalformedLog
malformed_head files gate headless =
    let log = files.log in
    malformed files gate (ap (λ (b : Bool). b && has_runs (is_counted log) (count_in log) (drop 25 log) && leads (pages_in log) (length files.home) (length_in log)) headless)

pub malformed_runs : (files : Files) (head : Head) → has_open_gate files.log ≡ true → IsWholeHead files.log head
    → (has_runs head.counted head.count (drop 25 files.log) && leads (pages_of_runs head.counted head.count (drop 25 files.log)) (length files.home) head.len) ≡ false → logged files ≡ MalformedLog
malformed_runs files head gate is never =
    let log = files.log in
    malformed files gate
    (ap (λ (b : Bool). b && has_runs (is_counted log) (count_in log) (drop 25 log) && leads (pages_in log) (length files.home) (length_in log)) is.whole
    ∙ ap (λ (b : Bool). b && leads (pages_in log) (length files.home) (length_in log)) (sym (runs_same log head is))
    ∙ ap (λ (ps : List Page). has_runs head.counted head.count (drop 25 log) && leads ps (length files.home) (length_in log)) (sym (pages_same log head is))
    ∙ ap (λ (n : ℕ). has_runs head.counted head.count (drop 25 log) && leads (pages_of_runs head.counted head.count (drop 25 log)) (length files.home) n) (sym is.len)
    ∙ never)
