-- Runs as they are gathered in a buffer and written behind a head, and what is read of them.
use Rattle.std.proofs.Common.{inl, inr, ◌⊎◌, ◌≡◌, ◌≢◌, ℕ, zero, suc, ◌+◌, ◌-◌, ◌*◌, ◌^◌, ◌<◌, ◌≤◌, ◌&&◌, ◌==◌, nat_lt, nat_le, Bool, true, false, cond, List, [], ◌∷◌, ◌++◌, length, get_or, take, drop, replicate, is_some, refl, sym, ◌∙◌, ap, add-one, arith, append_assoc, append-nil, length-append, length-take, length-drop, take-append-drop}
use Rattle.std.specs.Int.{w32, w64, to_le_bytes}
use Rattle.std.proofs.lemmas.Bool.{cases_lt, cases_eq, and_parts, and_from, lt-ltb, le-leb, ltb-true}
use Rattle.std.proofs.lemmas.List.{take_at, drop_at, take_all, take_more, drop-drop, drop-take, drop_all, at_drop_more, length_push}
use Rattle.cfb_medium.specs.Bytes.{overwritten}
use Rattle.staged.specs.Log.{number_of, numbered, has_runs, pages_of_runs, runs_of, run_count}
use Rattle.staged.specs.LogWritten.{run_bytes}
use Rattle.staged.specs.Pages.{page_at, HoldsPage, Rises}
use Rattle.staged.specs.declared.pages.Page.{Page}
use Rattle.staged.proofs.Found.{place_of}
use Rattle.staged.proofs.Homed.{overwritten_some}
use Rattle.staged.proofs.LogWritten.{number_back, number_back_4}
use Rattle.staged.proofs.Numbered.{page, numbered_taken, numbered_same, numbered_more}

-- a run that was written
pub record Written : Type 0 where
  pub first : ℕ
  pub count : ℕ
  pub bytes : List ℕ

abbrev pub bytes_of : List Written → List ℕ
bytes_of [] = []
bytes_of (run ∷ runs) = run_bytes run.first run.count run.bytes ++ bytes_of runs

abbrev pub pages_of : List Written → List Page
pages_of [] = []
pages_of (run ∷ runs) = numbered run.first run.count run.bytes ++ pages_of runs

-- it has pages, and its numbers have so many bytes
pub record IsWritten (run : Written) : Type 0 where
  pub some : 0 < run.count
  pub most : run.count < 2 ^ 32
  pub fits : run.first < 2 ^ 64
  pub whole : length run.bytes ≡ 512 * run.count

abbrev pub AreWritten : List Written → Type 0
AreWritten runs = (i : ℕ) (d : Written) → i < length runs → IsWritten (get_or runs i d)

-- ---- one more run

pub bytes_more : (runs : List Written) (run : Written) → bytes_of (runs ++ run ∷ []) ≡ bytes_of runs ++ run_bytes run.first run.count run.bytes
bytes_more [] run = append-nil (run_bytes run.first run.count run.bytes)
bytes_more (r ∷ runs) run = ap (λ (l : List ℕ). run_bytes r.first r.count r.bytes ++ l) (bytes_more runs run) ∙ sym (append_assoc (run_bytes r.first r.count r.bytes) (bytes_of runs) (run_bytes run.first run.count run.bytes))

pub pages_more : (runs : List Written) (run : Written) → pages_of (runs ++ run ∷ []) ≡ pages_of runs ++ numbered run.first run.count run.bytes
pages_more [] run = append-nil (numbered run.first run.count run.bytes)
pages_more (r ∷ runs) run = ap (λ (l : List Page). numbered r.first r.count r.bytes ++ l) (pages_more runs run) ∙ sym (append_assoc (numbered r.first r.count r.bytes) (pages_of runs) (numbered run.first run.count run.bytes))

written_more : (runs : List Written) (run : Written) → AreWritten runs → IsWritten run → AreWritten (runs ++ run ∷ [])
written_more [] run are is zero d within = is
written_more [] run are is (suc i) d within = absurd (omega arith)
written_more (r ∷ runs) run are is zero d within = are zero d (omega arith)
written_more (r ∷ runs) run are is (suc i) d within = written_more runs run (λ j e below. are (suc j) e (omega arith)) is i d (omega arith)

pub length-run_bytes : (run : Written) → IsWritten run → length (run_bytes run.first run.count run.bytes) ≡ 12 + 512 * run.count
length-run_bytes run is =
    let front : length (to_le_bytes w64 run.first ++ to_le_bytes w32 run.count) ≡ 12 = refl in
    omega (arith, front, is.whole, length-append (to_le_bytes w64 run.first ++ to_le_bytes w32 run.count) run.bytes)

-- ---- what is read of a run

-- eight bytes of a number, four of another, and what is behind them
module _ (first count : ℕ) (eight four bytes rest : List ℕ) (long : length eight ≡ 8) (short : length four ≡ 4) (first_is : number_of eight ≡ first) (count_is : number_of four ≡ count) (whole : length bytes ≡ 512 * count) where
  abbrev all : List ℕ
  all = eight ++ four ++ bytes ++ rest

  regrouped : all ≡ eight ++ four ++ (bytes ++ rest)
  regrouped = append_assoc (eight ++ four) bytes rest

  apart : all ≡ eight ++ (four ++ (bytes ++ rest))
  apart = regrouped ∙ append_assoc eight four (bytes ++ rest)

  pub first_read : number_of (take 8 all) ≡ first
  first_read = ap number_of (ap (λ (l : List ℕ). take 8 l) apart ∙ take_at eight (four ++ (bytes ++ rest)) 8 long) ∙ first_is

  pub count_read : number_of (take 4 (drop 8 all)) ≡ count
  count_read = ap number_of (ap (λ (l : List ℕ). take 4 (drop 8 l)) apart ∙ ap (λ (l : List ℕ). take 4 l) (drop_at eight (four ++ (bytes ++ rest)) 8 long) ∙ take_at four (bytes ++ rest) 4 short) ∙ count_is

  behind : drop 12 all ≡ bytes ++ rest
  behind = let size : length (eight ++ four) ≡ 12 = omega (arith, length-append eight four) in ap (λ (l : List ℕ). drop 12 l) regrouped ∙ drop_at (eight ++ four) (bytes ++ rest) 12 size

  pub bytes_read : take (512 * count) (drop 12 all) ≡ bytes
  bytes_read = ap (λ (l : List ℕ). take (512 * count) l) behind ∙ take_at bytes rest (512 * count) whole

  pub rest_read : drop (12 + 512 * count) all ≡ rest
  rest_read = sym (drop-drop (512 * count) 12 all) ∙ ap (λ (l : List ℕ). drop (512 * count) l) behind ∙ drop_at bytes rest (512 * count) whole

  pub size_read : length all ≡ 12 + 512 * count + length rest
  size_read = omega (arith, length-append (eight ++ four ++ bytes) rest, length-append (eight ++ four) bytes, length-append eight four)

-- a run whose parts are these, and n behind it
pub pages_step : (n first count : ℕ) (all bytes rest : List ℕ) → number_of (take 8 all) ≡ first → number_of (take 4 (drop 8 all)) ≡ count → take (512 * count) (drop 12 all) ≡ bytes → drop (12 + 512 * count) all ≡ rest
    → pages_of_runs true (suc n) all ≡ numbered first count bytes ++ pages_of_runs true n rest
pages_step n first count all bytes rest first_is count_is bytes_is rest_is =
    ap (λ (m : ℕ). numbered m (number_of (take 4 (drop 8 all))) (drop 12 all) ++ pages_of_runs true n (drop (12 + 512 * number_of (take 4 (drop 8 all))) all)) first_is
    ∙ ap (λ (m : ℕ). numbered first m (drop 12 all) ++ pages_of_runs true n (drop (12 + 512 * m) all)) count_is
    ∙ ap (λ (ps : List Page). ps ++ pages_of_runs true n (drop (12 + 512 * count) all)) (sym (numbered_taken count first (drop 12 all)) ∙ ap (λ (l : List ℕ). numbered first count l) bytes_is)
    ∙ ap (λ (l : List ℕ). numbered first count bytes ++ pages_of_runs true n l) rest_is

pub has_step : (n count : ℕ) (all rest : List ℕ) → 0 < count → number_of (take 4 (drop 8 all)) ≡ count → length all ≡ 12 + 512 * count + length rest → drop (12 + 512 * count) all ≡ rest → has_runs true (suc n) all ≡ has_runs true n rest
has_step n count all rest some count_is size rest_is =
    let one : (nat_lt 0 count && nat_le (12 + 512 * count) (length all)) ≡ true = and_from (nat_lt 0 count) (nat_le (12 + 512 * count) (length all)) (lt-ltb 0 count some) (le-leb (12 + 512 * count) (length all) (omega (arith, size))) in
    ap (λ (m : ℕ). nat_lt 0 m && nat_le (12 + 512 * m) (length all) && has_runs true n (drop (12 + 512 * m) all)) count_is
    ∙ ap (λ (b : Bool). b && has_runs true n (drop (12 + 512 * count) all)) one ∙ ap (λ (l : List ℕ). has_runs true n l) rest_is

-- all runs are read back
pub runs_read : (runs : List Written) (rest : List ℕ) → AreWritten runs → (pages_of_runs true (length runs) (bytes_of runs ++ rest) ≡ pages_of runs) × (has_runs true (length runs) (bytes_of runs ++ rest) ≡ true)
runs_read [] rest are = (refl, refl)
runs_read (run ∷ runs) rest are =
    let is = are zero run (omega arith) in
    let tail = bytes_of runs ++ rest in
    let eight = to_le_bytes w64 run.first in
    let four = to_le_bytes w32 run.count in
    let others = runs_read runs rest (λ j e below. are (suc j) e (omega arith)) in
    let first_is : number_of eight ≡ run.first = number_back run.first is.fits in
    let count_is : number_of four ≡ run.count = number_back_4 run.count is.most in
    one eight four refl refl first_is count_is is others
  where
    one : (eight four : List ℕ) → length eight ≡ 8 → length four ≡ 4 → number_of eight ≡ run.first → number_of four ≡ run.count → IsWritten run
        → (pages_of_runs true (length runs) (bytes_of runs ++ rest) ≡ pages_of runs) × (has_runs true (length runs) (bytes_of runs ++ rest) ≡ true)
        → (pages_of_runs true (suc (length runs)) (eight ++ four ++ run.bytes ++ bytes_of runs ++ rest) ≡ numbered run.first run.count run.bytes ++ pages_of runs) × (has_runs true (suc (length runs)) (eight ++ four ++ run.bytes ++ bytes_of runs ++ rest) ≡ true)
    one eight four long short first_is count_is is others =
        let tail = bytes_of runs ++ rest in
        let split : eight ++ four ++ run.bytes ++ bytes_of runs ++ rest ≡ eight ++ four ++ run.bytes ++ tail = append_assoc (eight ++ four ++ run.bytes) (bytes_of runs) rest in
        let all = eight ++ four ++ run.bytes ++ tail in (
          ap (λ (l : List ℕ). pages_of_runs true (suc (length runs)) l) split
              ∙ pages_step (length runs) run.first run.count all run.bytes tail
              (first_read run.first run.count eight four run.bytes tail long short first_is count_is is.whole) (count_read run.first run.count eight four run.bytes tail long short first_is count_is is.whole)
              (bytes_read run.first run.count eight four run.bytes tail long short first_is count_is is.whole) (rest_read run.first run.count eight four run.bytes tail long short first_is count_is is.whole)
              ∙ ap (λ (ps : List Page). numbered run.first run.count run.bytes ++ ps) others.0,
          ap (λ (l : List ℕ). has_runs true (suc (length runs)) l) split
              ∙ has_step (length runs) run.count all tail is.some (count_read run.first run.count eight four run.bytes tail long short first_is count_is is.whole)
              (size_read run.first run.count eight four run.bytes tail long short first_is count_is is.whole) (rest_read run.first run.count eight four run.bytes tail long short first_is count_is is.whole)
              ∙ others.1,
        )

-- ---- where they are written

-- the front of a log after a write at its end
pub front_written : (log bytes : List ℕ) (at : ℕ) → 0 < length bytes → at ≤ length log → take (at + length bytes) (overwritten log at bytes) ≡ take at log ++ bytes
front_written log bytes at some fits =
    let none : at - length log ≡ 0 = omega arith in
    let size : length (take at log ++ bytes) ≡ at + length bytes = omega (arith, length-append (take at log) bytes, length-take at log) in
    ap (λ (l : List ℕ). take (at + length bytes) l) (overwritten_some log at bytes some ∙ ap (λ (n : ℕ). take at log ++ replicate n 0 ++ bytes ++ drop (at + length bytes) log) none ∙ ap (λ (l : List ℕ). l ++ bytes ++ drop (at + length bytes) log) (append-nil (take at log)))
    ∙ take_at (take at log ++ bytes) (drop (at + length bytes) log) (at + length bytes) size

-- so many runs stand behind the head
pub record Stands (start log : List ℕ) (place : ℕ) (runs : List Written) : Type 0 where
  pub inside : place ≤ length log
  pub front : take place log ≡ take 25 start ++ bytes_of runs

stands_behind : (log bytes start before after : List ℕ) (place n : ℕ) → length bytes ≡ n → 0 < n → after ≡ before ++ bytes → place ≤ length log → take place log ≡ start ++ before
    → (place + n ≤ length (overwritten log place bytes)) × (take (place + n) (overwritten log place bytes) ≡ start ++ after)
stands_behind log bytes start before after place n size some more inside front =
    let taken : take (place + length bytes) (overwritten log place bytes) ≡ take place log ++ bytes = front_written log bytes place (omega arith) inside in
    let long : length (take (place + length bytes) (overwritten log place bytes)) ≡ place + length bytes = ap (λ (l : List ℕ). length l) taken ∙ (let e : length (take place log ++ bytes) ≡ place + length bytes = omega (arith, length-append (take place log) bytes, length-take place log) in e) in
    let all : take (place + length bytes) (overwritten log place bytes) ≡ start ++ after = taken ∙ ap (λ (l : List ℕ). l ++ bytes) front ∙ append_assoc start before bytes ∙ ap (λ (l : List ℕ). start ++ l) (sym more) in
    (omega (arith, long, length-take (place + length bytes) (overwritten log place bytes)), ap (λ (m : ℕ). take (place + m) (overwritten log place bytes)) (sym size) ∙ all)

pub stands_more : (start log : List ℕ) (place : ℕ) (runs : List Written) (run : Written) → IsWritten run → Stands start log place runs → Stands start (overwritten log place (run_bytes run.first run.count run.bytes)) (place + (12 + 512 * run.count)) (runs ++ run ∷ [])
stands_more start log place runs run is stands =
    let both = stands_behind log (run_bytes run.first run.count run.bytes) (take 25 start) (bytes_of runs) (bytes_of (runs ++ run ∷ [])) place (12 + 512 * run.count) (length-run_bytes run is) (omega arith) (bytes_more runs run) stands.inside stands.front in
    record { inside = both.0; front = both.1 }

-- what is read then
pub stands_read : (start log : List ℕ) (place : ℕ) (runs : List Written) → 25 ≤ length start → AreWritten runs → Stands start log place runs
    → (take 25 log ≡ take 25 start) × (has_runs true (length runs) (drop 25 log) ≡ true) × (pages_of_runs true (length runs) (drop 25 log) ≡ pages_of runs)
stands_read start log place runs headed are stands =
    let head = take 25 start in
    let size : length head ≡ 25 = omega (arith, length-take 25 start) in
    let all : log ≡ head ++ (bytes_of runs ++ drop place log) = sym (take-append-drop place log) ∙ ap (λ (l : List ℕ). l ++ drop place log) stands.front ∙ append_assoc head (bytes_of runs) (drop place log) in
    let behind : drop 25 log ≡ bytes_of runs ++ drop place log = ap (λ (l : List ℕ). drop 25 l) all ∙ drop_at head (bytes_of runs ++ drop place log) 25 size in
    let read = runs_read runs (drop place log) are in (
      ap (λ (l : List ℕ). take 25 l) all ∙ take_at head (bytes_of runs ++ drop place log) 25 size,
      ap (λ (l : List ℕ). has_runs true (length runs) l) behind ∙ read.1,
      ap (λ (l : List ℕ). pages_of_runs true (length runs) l) behind ∙ read.0,
    )

-- ---- how they are gathered

abbrev none : Page
none = page 0 []

-- k pages were gathered in runs and, so many of them, in the buffer
pub record Gathered (pages : List Page) (k count : ℕ) (buffer : List ℕ) (runs : List Written) : Type 0 where
  pub good : AreWritten runs
  pub begun : 0 < count → (k < length pages) × (count ≤ (get_or pages k (page 0 [])).number)
  pub joined : pages_of runs ++ numbered ((get_or pages k (page 0 [])).number - count) count (drop 12 buffer) ≡ take k pages
  pub counted : length runs + runs_of pages count (drop k pages) ≡ run_count pages

pub gathered_none : (pages : List Page) (buffer : List ℕ) → Gathered pages 0 0 buffer []
gathered_none pages buffer = record {
  good = λ i d within. absurd (omega arith);
  begun = λ some. absurd (omega arith);
  joined = refl;
  counted = let e : 0 + run_count pages ≡ run_count pages = omega arith in e;
}

-- a page whose next number is there stands before that page
next_page : (pages : List Page) (k : ℕ) → Rises pages → k < length pages → HoldsPage pages ((get_or pages k none).number + 1) → (k + 1 < length pages) × ((get_or pages (k + 1) none).number ≡ (get_or pages k none).number + 1)
next_page pages k rises within held =
    let spot = place_of pages ((get_or pages k none).number + 1) none held in
    let i = spot.0 in
    let there : i < length pages = spot.1 in
    let is : (get_or pages i none).number ≡ (get_or pages k none).number + 1 = spot.2 in
    elim (cases_lt k i) [
      | inr late ↦ elim (cases_eq i k) [
        | inl same ↦ let e : (get_or pages i none).number ≡ (get_or pages k none).number = ap (λ (j : ℕ). (get_or pages j none).number) same in absurd (omega arith)
        | inr other ↦ let e : (get_or pages i none).number < (get_or pages k none).number = rises.rising i k none (omega arith) within in absurd (omega arith)
      ]
      | inl early ↦ elim (cases_eq (k + 1) i) [
        | inl same ↦ (omega arith, ap (λ (j : ℕ). (get_or pages j none).number) same ∙ is)
        | inr other ↦
            let low : (get_or pages k none).number < (get_or pages (k + 1) none).number = rises.rising k (k + 1) none (omega arith) (omega arith) in
            let high : (get_or pages (k + 1) none).number < (get_or pages i none).number = rises.rising (k + 1) i none (omega arith) there in
            absurd (omega arith)
      ]
    ]

module _ (pages : List Page) (k count : ℕ) (before after : List ℕ) (runs : List Written) (within : k < length pages) (kept : take (12 + 512 * count) after ≡ take (12 + 512 * count) before) (put : take 512 (drop (12 + 512 * count) after) ≡ (get_or pages k (page 0 [])).bytes) (so_far : Gathered pages k count before runs) where
  abbrev number : ℕ
  number = (get_or pages k (page 0 [])).number

  abbrev goes : Bool
  goes = is_some (page_at pages (number + 1)) && nat_lt (count + 1) 4294967295

  enough : count ≤ number
  enough = elim (cases_lt 0 count) [ inl some ↦ (so_far.begun some).1 | inr all ↦ omega arith ]

  -- the page joins those of the buffer
  joins : pages_of runs ++ numbered (number - count) (suc count) (drop 12 after) ≡ take (k + 1) pages
  joins =
      let first = number - count in
      let sum : number ≡ first + count = let e : count ≤ number = enough in omega arith in
      let more : numbered first (suc count) (drop 12 after) ≡ numbered first count (drop 12 after) ++ page number (take 512 (drop (512 * count) (drop 12 after))) ∷ [] = numbered_more count first number (512 * count) (drop 12 after) sum refl in
      let front : take (512 * count) (drop 12 after) ≡ take (512 * count) (drop 12 before) = sym (drop-take 12 (512 * count) after) ∙ ap (λ (l : List ℕ). drop 12 l) kept ∙ drop-take 12 (512 * count) before in
      let block : take 512 (drop (512 * count) (drop 12 after)) ≡ (get_or pages k (page 0 [])).bytes = ap (λ (l : List ℕ). take 512 l) (drop-drop (512 * count) 12 after) ∙ put in
      ap (λ (ps : List Page). pages_of runs ++ ps)
      (more ∙ ap (λ (ps : List Page). ps ++ page number (take 512 (drop (512 * count) (drop 12 after))) ∷ []) (numbered_same count first (drop 12 after) (drop 12 before) front)
      ∙ ap (λ (l : List ℕ). numbered first count (drop 12 before) ++ page number l ∷ []) block)
      ∙ sym (append_assoc (pages_of runs) (numbered first count (drop 12 before)) (get_or pages k (page 0 []) ∷ []))
      ∙ ap (λ (ps : List Page). ps ++ get_or pages k (page 0 []) ∷ []) so_far.joined ∙ sym (take_more pages k (page 0 []) within)

  steps : runs_of pages count (drop k pages) ≡ cond goes (runs_of pages (count + 1) (drop (k + 1) pages)) (suc (runs_of pages 0 (drop (k + 1) pages)))
  steps = at_drop_more (runs_of pages count) pages k (page 0 []) within

  -- the run goes on behind it
  pub gathered_on : Rises pages → goes ≡ true → Gathered pages (k + 1) (count + 1) after runs
  gathered_on rises on =
      let both = and_parts (is_some (page_at pages (number + 1))) (nat_lt (count + 1) 4294967295) on in
      let next = next_page pages k rises within both.0 in
      let there : (get_or pages (k + 1) (page 0 [])).number ≡ number + 1 = next.1 in
      let same : number - count ≡ (get_or pages (k + 1) (page 0 [])).number - (count + 1) = omega arith in
      record {
        good = so_far.good;
        begun = λ some. (next.0, let e : count ≤ number = enough in omega arith);
        joined = sym (ap (λ (n : ℕ). pages_of runs ++ numbered n (suc count) (drop 12 after)) same ∙ ap (λ (n : ℕ). pages_of runs ++ numbered ((get_or pages (k + 1) (page 0 [])).number - (count + 1)) n (drop 12 after)) (sym (add-one count))) ∙ joins;
        counted = ap (λ (n : ℕ). length runs + n) (sym (ap (λ (b : Bool). cond b (runs_of pages (count + 1) (drop (k + 1) pages)) (suc (runs_of pages 0 (drop (k + 1) pages)))) on) ∙ sym steps) ∙ so_far.counted;
      }

  -- the run that it ends
  abbrev pub ended : Written
  ended = record { first = number - count; count = count + 1; bytes = take (512 * (count + 1)) (drop 12 after) }

  pub is_written : count + 1 < 2 ^ 32 → number < 2 ^ 64 → 12 + 512 * (count + 1) ≤ length after → IsWritten ended
  is_written most fits room = record {
    some = omega arith;
    most = most;
    fits = omega arith;
    whole = omega (arith, length-take (512 * (count + 1)) (drop 12 after), length-drop 12 after);
  }

  pub gathered_out : goes ≡ false → IsWritten ended → Gathered pages (k + 1) 0 after (runs ++ ended ∷ [])
  gathered_out out is = record {
    good = written_more runs ended so_far.good is;
    begun = λ some. absurd (omega arith);
    joined = append-nil (pages_of (runs ++ ended ∷ [])) ∙ pages_more runs ended ∙ ap (λ (ps : List Page). pages_of runs ++ ps) (numbered_taken (count + 1) (number - count) (drop 12 after) ∙ ap (λ (n : ℕ). numbered (number - count) n (drop 12 after)) (add-one count)) ∙ joins;
    counted =
        let size : length (runs ++ ended ∷ []) ≡ length runs + 1 = length_push runs ended in
        let one : suc (runs_of pages 0 (drop (k + 1) pages)) ≡ runs_of pages count (drop k pages) = sym (ap (λ (b : Bool). cond b (runs_of pages (count + 1) (drop (k + 1) pages)) (suc (runs_of pages 0 (drop (k + 1) pages)))) out) ∙ sym steps in
        let all : length runs + runs_of pages count (drop k pages) ≡ run_count pages = so_far.counted in
        omega arith;
  }

-- all pages were gathered
pub gathered_all : (pages : List Page) (k count : ℕ) (buffer : List ℕ) (runs : List Written) → length pages ≤ k → Gathered pages k count buffer runs → (pages_of runs ≡ pages) × (length runs ≡ run_count pages)
gathered_all pages k count buffer runs past gathered = elim (cases_lt 0 count) [
  | inl some ↦ let e : k < length pages = (gathered.begun some).0 in absurd (omega arith)
  | inr all ↦
      let zeros : count ≡ 0 = omega arith in
      let joined : pages_of runs ++ [] ≡ take k pages = sym (ap (λ (n : ℕ). pages_of runs ++ numbered ((get_or pages k none).number - count) n (drop 12 buffer)) zeros) ∙ gathered.joined in
      let left : runs_of pages count (drop k pages) ≡ 0 = ap (λ (ps : List Page). runs_of pages count ps) (drop_all k pages past) in
      let total : length runs + runs_of pages count (drop k pages) ≡ run_count pages = gathered.counted in
      (sym (append-nil (pages_of runs)) ∙ joined ∙ take_all k pages past, omega arith)
]

-- how many runs are left behind a page
pub next_run : (pages : List Page) (k count named : ℕ) → k < length pages → named ≡ (get_or pages k (page 0 [])).number → (b : Bool) → (is_some (page_at pages (named + 1)) && nat_lt (count + 1) 4294967295) ≡ b
    → runs_of pages count (drop k pages) ≡ cond b (runs_of pages (count + 1) (drop (k + 1) pages)) (suc (runs_of pages 0 (drop (k + 1) pages)))
next_run pages k count named within is b goes =
    at_drop_more (runs_of pages count) pages k (page 0 []) within
    ∙ ap (λ (n : ℕ). cond (is_some (page_at pages (n + 1)) && nat_lt (count + 1) 4294967295) (runs_of pages (count + 1) (drop (k + 1) pages)) (suc (runs_of pages 0 (drop (k + 1) pages)))) (sym is)
    ∙ ap (λ (c : Bool). cond c (runs_of pages (count + 1) (drop (k + 1) pages)) (suc (runs_of pages 0 (drop (k + 1) pages)))) goes

pub count_most : (some : Bool) (count : ℕ) → (some && nat_lt count 4294967295) ≡ true → count < 4294967295
count_most some count is = ltb-true count 4294967295 (and_parts some (nat_lt count 4294967295) is).1

pub stands_none : (start : List ℕ) → 25 ≤ length start → Stands start start 25 []
stands_none start headed = record { inside = headed; front = sym (append-nil (take 25 start)) }

-- what is gathered is no more than the numbers below
pub gathered_few : (pages : List Page) (k count : ℕ) (buffer : List ℕ) (runs : List Written) → Gathered pages k count buffer runs → count ≤ (get_or pages k (page 0 [])).number
gathered_few pages k count buffer runs gathered = elim (cases_lt 0 count) [ inl some ↦ (gathered.begun some).1 | inr all ↦ omega arith ]

-- ---- the buffer

pub pasted_before : (old block new : List ℕ) (at : ℕ) → at ≤ length old → new ≡ take at old ++ block ++ drop (at + 512) old → take at new ≡ take at old
pasted_before old block new at fits is =
    let size : length (take at old) ≡ at = omega (arith, length-take at old) in
    ap (λ (l : List ℕ). take at l) (is ∙ append_assoc (take at old) block (drop (at + 512) old)) ∙ take_at (take at old) (block ++ drop (at + 512) old) at size

pub pasted_block : (old block new : List ℕ) (at : ℕ) → at ≤ length old → length block ≡ 512 → new ≡ take at old ++ block ++ drop (at + 512) old → take 512 (drop at new) ≡ block
pasted_block old block new at fits whole is =
    let size : length (take at old) ≡ at = omega (arith, length-take at old) in
    ap (λ (l : List ℕ). take 512 (drop at l)) (is ∙ append_assoc (take at old) block (drop (at + 512) old))
    ∙ ap (λ (l : List ℕ). take 512 l) (drop_at (take at old) (block ++ drop (at + 512) old) at size) ∙ take_at block (drop (at + 512) old) 512 whole

take_past : (a rest : List ℕ) (k n m : ℕ) → length a ≡ k → m ≡ k + n → take m (a ++ rest) ≡ a ++ take n rest
take_past [] rest k n m size is = let e : m ≡ n = omega (arith, size) in ap (λ (j : ℕ). take j rest) e
take_past (x ∷ a) rest k n zero size is = absurd (omega (arith, size))
take_past (x ∷ a) rest k n (suc m) size is = ap (λ (l : List ℕ). x ∷ l) (take_past a rest (k - 1) n m (omega (arith, size)) (omega (arith, size)))

-- what is written of the buffer
pub run_front : (eight four rest new : List ℕ) (n : ℕ) → length eight ≡ 8 → length four ≡ 4 → new ≡ eight ++ four ++ rest → take (12 + n) new ≡ eight ++ four ++ take n rest
run_front eight four rest new n long short is =
    ap (λ (l : List ℕ). take (12 + n) l) is ∙ take_past (eight ++ four) rest 12 n (12 + n) (omega (arith, length-append eight four)) refl

-- where the buffer holds none its bytes don't count
pub gathered_zero : (pages : List Page) (k : ℕ) (buffer other : List ℕ) (runs : List Written) → Gathered pages k 0 buffer runs → Gathered pages k 0 other runs
gathered_zero pages k buffer other runs is = record { good = is.good; begun = is.begun; joined = is.joined; counted = is.counted }
