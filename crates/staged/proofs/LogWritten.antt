-- A log as it is written, and that it opens once it is whole.
use Rattle.std.proofs.Common.{◌≡◌, ℕ, suc, ◌+◌, ◌-◌, ◌*◌, ◌^◌, ◌<◌, ◌≤◌, max, nat_le, nat_lt, ◌&&◌, ◌||◌, ◌==◌, Bool, true, cond, List, [], ◌∷◌, length, get_or, take, drop, refl, sym, ◌∙◌, ap, arith, length-take, length-drop}
use Rattle.std.specs.Prelude.{nat_eq}
use Rattle.std.specs.Int.{w32, w64, to_le_bytes}
use Rattle.std.specs.List.{starts_with}
use Rattle.std.specs.Cmp.Lexicographic.{pointwise}
use Rattle.std.proofs.lemmas.Nat.{from_le_bytes-to_le_bytes_4, from_le_bytes-to_le_bytes_8}
use Rattle.std.proofs.lemmas.Bool.{and_from, le-leb, lt-ltb, cond-true}
use Rattle.std.proofs.lemmas.List.{same_lists, get_or-take, get_or-drop, get_or_default, drop-take, take-take}
use Rattle.cfb_medium.specs.Bytes.{overwritten}
use Rattle.staged.specs.Pages.{Rises, Covers}
use Rattle.staged.specs.Log.{number_of, magic, first_magic, length_in, count_in, is_counted, pages_in, pages_of_runs, has_runs, run_count, has_open_gate, has_magic, has_head, is_whole, leads, logged, OpenLog, ClosedLog, MalformedLog}
use Rattle.staged.specs.declared.pages.Page.{Page}
use Rattle.staged.proofs.Homed.{overwritten_some}
use Rattle.staged.proofs.Staging.{inside, long}
use Rattle.staged.proofs.Leads.{leads_from}
use Rattle.staged.specs.LogWritten.{head_bytes, IsWrittenLog}

-- ---- numbers

eight : (a b c d e f g h : ℕ)
    → a + 256 * (b + 256 * (c + 256 * (d + 256 * (e + 256 * (f + 256 * (g + 256 * (h + 256 * 0)))))))
    ≡ a + b * 256 + c * 65536 + d * 16777216 + e * 4294967296 + f * 1099511627776 + g * 281474976710656 + h * 72057594037927936
eight a b c d e f g h = omega arith

pub number_back : (n : ℕ) → n < 2 ^ 64 → number_of (to_le_bytes w64 n) ≡ n
number_back n fits = eight _ _ _ _ _ _ _ _ ∙ from_le_bytes-to_le_bytes_8 n fits

four : (a b c d : ℕ) → a + 256 * (b + 256 * (c + 256 * (d + 256 * 0))) ≡ a + b * 256 + c * 65536 + d * 16777216
four a b c d = omega arith

pub number_back_4 : (n : ℕ) → n < 2 ^ 32 → number_of (to_le_bytes w32 n) ≡ n
number_back_4 n fits = four _ _ _ _ ∙ from_le_bytes-to_le_bytes_4 n fits

-- ---- parts of a list

same_part : (xs ys : List ℕ) (a b n : ℕ) → a + n ≤ length xs → b + n ≤ length ys → ((i : ℕ) → i < n → get_or xs (a + i) 0 ≡ get_or ys (b + i) 0) → take n (drop a xs) ≡ take n (drop b ys)
same_part xs ys a b n first second each =
    same_lists (take n (drop a xs)) (take n (drop b ys)) (omega (arith, first, second, length-take n (drop a xs), length-take n (drop b ys), length-drop a xs, length-drop b ys)) (λ i d within.
    let below : i < n = omega (arith, within, length-take n (drop a xs)) in
    get_or-take n (drop a xs) i d below ∙ get_or-drop a xs i d ∙ get_or_default xs (a + i) d 0 (omega (arith, below, first))
    ∙ each i below
    ∙ sym (get_or-take n (drop b ys) i d below ∙ get_or-drop b ys i d ∙ get_or_default ys (b + i) d 0 (omega (arith, below, second))))

long_written : (old bytes : List ℕ) (at : ℕ) → 0 < length bytes → length (overwritten old at bytes) ≡ max (length old) (at + length bytes)
long_written old bytes at some = ap length (overwritten_some old at bytes some) ∙ long old bytes at

-- a part of what is written stands there
part_new : (old bytes : List ℕ) (at a n place : ℕ) → 0 < length bytes → a + n ≤ length bytes → place ≡ at + a → take n (drop place (overwritten old at bytes)) ≡ take n (drop a bytes)
part_new old bytes at a n place some within is =
    same_part (overwritten old at bytes) bytes place a n (omega (arith, is, within, long_written old bytes at some)) within (λ i below.
    let e : place + i - at ≡ a + i = omega (arith, is) in
    ap (λ (l : List ℕ). get_or l (place + i) 0) (overwritten_some old at bytes some) ∙ inside old bytes at (place + i) (omega (arith, is)) (omega (arith, is, below, within)) ∙ ap (λ (k : ℕ). get_or bytes k 0) e)

-- ---- the head

pub length-head_bytes : (len count : ℕ) → length (head_bytes len count) ≡ 24
length-head_bytes len count = refl

-- the log begins with a head
pub record HasHead (log : List ℕ) (len runs : ℕ) : Type 0 where
  pub long : 25 ≤ length log
  pub begins : take 8 (drop 1 log) ≡ magic
  pub names : length_in log ≡ len
  pub count : count_in log ≡ runs

pub head_written : (log : List ℕ) (len count : ℕ) → len < 2 ^ 64 → count < 2 ^ 64 → HasHead (overwritten log 1 (head_bytes len count)) len count
head_written log len count fits few =
    let bytes = head_bytes len count in
    let size : length bytes ≡ 24 = length-head_bytes len count in
    let some : 0 < length bytes = omega (arith, size) in
    record {
      long = omega (arith, size, long_written log bytes 1 some);
      begins = part_new log bytes 1 0 8 1 some (omega (arith, size)) refl;
      names = ap number_of (part_new log bytes 1 8 8 9 some (omega (arith, size)) refl) ∙ number_back len fits;
      count = ap number_of (part_new log bytes 1 16 8 17 some (omega (arith, size)) refl) ∙ number_back count few;
    }

-- a part of the head
part_of : (log : List ℕ) (a n : ℕ) → a + n ≤ 25 → take n (drop a (take 25 log)) ≡ take n (drop a log)
part_of log a n fits =
    let m = 25 - a in
    let sum : 25 ≡ a + m = omega arith in
    ap (λ (k : ℕ). take n (drop a (take k log))) sum ∙ ap (λ (l : List ℕ). take n l) (drop-take a m log) ∙ take-take n m (drop a log) (omega arith)

-- the head stays, and all is there
pub whole_log : (log now : List ℕ) (pages : List Page) (len : ℕ) → HasHead log len (run_count pages) → take 25 now ≡ take 25 log → has_runs true (run_count pages) (drop 25 now) ≡ true → pages_of_runs true (run_count pages) (drop 25 now) ≡ pages → IsWrittenLog now pages len
whole_log log now pages len head same runs written =
    let part = λ (a n : ℕ) (fits : a + n ≤ 25). sym (part_of now a n fits) ∙ ap (λ (l : List ℕ). take n (drop a l)) same ∙ part_of log a n fits in
    let size : length (take 25 now) ≡ length (take 25 log) = ap (λ (l : List ℕ). length l) same in
    let long = head.long in
    record {
      long = omega (arith, size, length-take 25 now, length-take 25 log);
      begins = part 1 8 (omega arith) ∙ head.begins;
      names = ap number_of (part 9 8 (omega arith)) ∙ head.names;
      count = ap number_of (part 17 8 (omega arith)) ∙ head.count;
      whole = runs;
      written = written;
    }

-- ---- the whole log under an open gate

pub log_opens : (home log : List ℕ) (pages : List Page) (len : ℕ) → IsWrittenLog log pages len → Rises pages → Covers pages (length home) len → logged (record { home = home; log = 1 ∷ drop 1 log }) ≡ OpenLog len pages
log_opens home [] pages len is rising covers = let e : 25 ≤ 0 = is.long in absurd (omega arith)
log_opens home (x ∷ xs) pages len is rising covers =
    let log : List ℕ = 1 ∷ xs in
    let counted : is_counted log ≡ true = ap (λ (l : List ℕ). pointwise nat_eq magic l) is.begins in
    let count : count_in log ≡ run_count pages = is.count in
    let there : pages_in log ≡ pages = ap (λ (b : Bool). pages_of_runs b (count_in log) (drop 25 log)) counted ∙ ap (λ (n : ℕ). pages_of_runs true n (drop 25 log)) count ∙ is.written in
    let runs : has_runs (is_counted log) (count_in log) (drop 25 log) ≡ true = ap (λ (b : Bool). has_runs b (count_in log) (drop 25 log)) counted ∙ ap (λ (n : ℕ). has_runs true n (drop 25 log)) count ∙ is.whole in
    let long : 25 ≤ suc (length xs) = is.long in
    let gate : has_open_gate log ≡ true = and_from (get_or log 0 0 == 1) (nat_lt 1 (length log)) refl (lt-ltb 1 (length log) (omega (arith, long))) in
    let magic_is : has_magic log ≡ true = ap (λ (b : Bool). b || starts_with nat_eq (drop 1 log) first_magic) counted in
    let head : has_head log ≡ true = and_from (has_magic log) (nat_le 25 (length log)) magic_is (le-leb 25 (length log) (omega (arith, long))) in
    let all : is_whole log ≡ true = and_from (has_head log) (has_runs (is_counted log) (count_in log) (drop 25 log)) head runs in
    let fit : leads (pages_in log) (length home) (length_in log) ≡ true =
    ap (λ (ps : List Page). leads ps (length home) (length_in log)) there ∙ ap (λ (n : ℕ). leads pages (length home) n) is.names ∙ leads_from pages (length home) len rising covers in
    cond-true (has_open_gate log) (cond (is_whole log && leads (pages_in log) (length home) (length_in log)) (OpenLog (length_in log) (pages_in log)) MalformedLog) ClosedLog gate
    ∙ cond-true (is_whole log && leads (pages_in log) (length home) (length_in log)) (OpenLog (length_in log) (pages_in log)) MalformedLog (and_from (is_whole log) _ all fit)
    ∙ ap (λ (n : ℕ). OpenLog n (pages_in log)) is.names ∙ ap (λ (ps : List Page). OpenLog len ps) there
