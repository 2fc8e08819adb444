-- Pages that are written one after another give the file with all of them laid over it.
use Rattle.std.proofs.Common.{◌≡◌, ℕ, zero, suc, ◌+◌, ◌-◌, ◌*◌, ◌<◌, ◌≤◌, min, List, [], ◌∷◌, ◌++◌, length, get_or, take, drop, refl, sym, ◌∙◌, ap, add-one, arith, subst, append_assoc, length-append}
use Rattle.std.proofs.lemmas.List.{take_at, take_more, take_all, drop-drop}
use Rattle.staged.specs.Log.{numbered}
use Rattle.staged.specs.Pages.{Rises, Covers, Homed, laid_over, written_page, written_pages}
use Rattle.staged.specs.declared.pages.Page.{Page}
use Rattle.staged.proofs.Homed.{no_gap, homed_more, homed_done, homed_none}
use Rattle.staged.proofs.Numbered.{page, Sized, numbered_more, numbered_split}
use Rattle.staged.proofs.Walked.{first_behind}

pub written_both : (a b : List Page) (file : List ℕ) (len : ℕ) → written_pages file (a ++ b) len ≡ written_pages (written_pages file a len) b len
written_both [] b file len = refl
written_both (p ∷ a) b file len = written_both a b (written_page file p len) len

homed : (file : List ℕ) (pages : List Page) (len k : ℕ) → Rises pages → Covers pages (length file) len → Sized pages → k ≤ length pages → Homed file (take k pages) len (written_pages file (take k pages) len)
homed file pages len zero rises covers sized within = homed_none file len covers.no_shorter
homed file pages len (suc k) rises covers sized within =
    let none : Page = record { number = 0; bytes = [] } in
    let before : Homed file (take k pages) len (written_pages file (take k pages) len) = homed file pages len k rises covers sized (omega arith) in
    let one = get_or pages k none in
    let more : Homed file (take (k + 1) pages) len (written_page (written_pages file (take k pages) len) one len) = homed_more file pages k len (written_pages file (take k pages) len) (take (min (len - 512 * one.number) 512) one.bytes) none rises covers (omega arith) (sized k none (omega arith)) refl before in
    let same : written_page (written_pages file (take k pages) len) one len ≡ written_pages file (take (k + 1) pages) len = sym (ap (λ (ps : List Page). written_pages file ps len) (take_more pages k none (omega arith)) ∙ written_both (take k pages) (one ∷ []) file len) in
    subst (λ (n : ℕ). Homed file (take n pages) len (written_pages file (take n pages) len)) (add-one k) (subst (λ (l : List ℕ). Homed file (take (k + 1) pages) len l) same more)

pub written_laid : (file : List ℕ) (pages : List Page) (len : ℕ) → Rises pages → Covers pages (length file) len → Sized pages → written_pages file pages len ≡ laid_over file pages len
written_laid file pages len rises covers sized =
    let whole : Homed file (take (length pages) pages) len (written_pages file (take (length pages) pages) len) = homed file pages len (length pages) rises covers sized (omega arith) in
    homed_done file pages len (written_pages file pages len) covers (subst (λ (ps : List Page). Homed file ps len (written_pages file ps len)) (take_all (length pages) pages (omega arith)) whole)

-- the pages before one leave no gap before it
gap_free : (file : List ℕ) (front back : List Page) (one : Page) (len : ℕ) → Rises (front ++ one ∷ back) → Covers (front ++ one ∷ back) (length file) len → Sized (front ++ one ∷ back) → 512 * one.number ≤ length (written_pages file front len)
gap_free file front back one len rises covers sized =
    let all = front ++ one ∷ back in
    let k = length front in
    let within : k < length all = omega (arith, length-append front (one ∷ back)) in
    let taken : take k all ≡ front = take_at front (one ∷ back) k refl in
    let so_far : Homed file front len (written_pages file front len) = subst (λ (ps : List Page). Homed file ps len (written_pages file ps len)) taken (homed file all len k rises covers sized (omega arith)) in
    let here : (get_or all k one).number ≡ one.number = ap (λ (p : Page). p.number) (first_behind front back one one) in
    let fits : 512 * (get_or all k one).number ≤ length (written_pages file front len) = no_gap file all k len (written_pages file front len) one rises covers within (subst (λ (ps : List Page). Homed file ps len (written_pages file front len)) (sym taken) so_far) in
    omega arith

-- nor do those before one of a run
pub run_gap_free : (file : List ℕ) (seen rest pages : List Page) (count first k : ℕ) (bytes : List ℕ) (len : ℕ) → seen ++ (numbered first count bytes ++ rest) ≡ pages → Rises pages → Covers pages (length file) len → Sized pages → k < count
    → 512 * (first + k) ≤ length (written_pages (written_pages file seen len) (numbered first k bytes) len)
run_gap_free file seen rest pages count first k bytes len are rises covers sized within =
    let split = numbered_split k count first bytes within in
    let one = page (first + k) split.0 in
    let front = seen ++ numbered first k bytes in
    let back = split.1 ++ rest in
    let same : front ++ one ∷ back ≡ pages =
    append_assoc seen (numbered first k bytes) (one ∷ back) ∙ ap (λ (ps : List Page). seen ++ ps) (sym (append_assoc (numbered first k bytes) (one ∷ split.1) rest))
    ∙ ap (λ (ps : List Page). seen ++ (ps ++ rest)) (sym split.2) ∙ are in
    let free : 512 * (first + k) ≤ length (written_pages file front len) = gap_free file front back one len (subst (λ (ps : List Page). Rises ps) (sym same) rises) (subst (λ (ps : List Page). Covers ps (length file) len) (sym same) covers) (subst (λ (ps : List Page). Sized ps) (sym same) sized) in
    subst (λ (l : List ℕ). 512 * (first + k) ≤ length l) (written_both seen (numbered first k bytes) file len) free

-- one more page of a run
pub one_more : (file : List ℕ) (k first place : ℕ) (log : List ℕ) (len : ℕ) → written_page (written_pages file (numbered first k (drop place log)) len) (page (first + k) (take 512 (drop (place + 512 * k) log))) len ≡ written_pages file (numbered first (k + 1) (drop place log)) len
one_more file k first place log len =
    let bytes = drop place log in
    let spot : drop (512 * k) bytes ≡ drop (place + 512 * k) log = drop-drop (512 * k) place log in
    let more : numbered first (k + 1) bytes ≡ numbered first k bytes ++ page (first + k) (take 512 (drop (512 * k) bytes)) ∷ [] = ap (λ (n : ℕ). numbered first n bytes) (add-one k) ∙ numbered_more k first (first + k) (512 * k) bytes refl refl in
    sym (ap (λ (ps : List Page). written_pages file ps len) (more ∙ ap (λ (l : List ℕ). numbered first k bytes ++ page (first + k) (take 512 l) ∷ []) spot) ∙ written_both (numbered first k bytes) (page (first + k) (take 512 (drop (place + 512 * k) log)) ∷ []) file len)
