-- What a walk along runs meets.
use Rattle.std.proofs.Common.{◌≡◌, ◌+◌, ◌-◌, ◌<◌, ◌≤◌, ℕ, zero, suc, List, [], ◌∷◌, ◌++◌, length, take, drop, get_or, sym, ap, subst, ◌∙◌, arith, ⊎_elim, append_assoc, length-take, Bool, true, false, true≢false, eq-eqb}
use Rattle.std.specs.Prelude.{nat_eq, slice_index, Some}
use Rattle.std.specs.List.{count_by, range_with_len}
use Rattle.std.proofs.lemmas.Bool.Decides.{eqb_tells}
use Rattle.std.proofs.lemmas.List.{take_all}
use Rattle.std.proofs.lemmas.List.Sums.{count_by-le-length, count_by_more_no, count_by_more_yes}
use Rattle.std.proofs.lemmas.Option.{slice_get-get_or}
use Rattle.cfb_sectors.specs.Sectors.{free, greatest_regular}
use Rattle.cfb_sectors.proofs.Chains.{leads_more, Leads}
use Rattle.cfb_fat_runs.specs.RunLists.{all_runs}
use Rattle.cfb_fat_runs.specs.Runs.{entry_in, start_of, AreTiled, IsRight}
use Rattle.cfb_fat_runs.specs.Tables.{entries_of}
use Rattle.cfb_fat_runs.specs.Walking.{AreLinkedBehind}
use Rattle.cfb_fat_runs.specs.declared.runs.Kind.{Kind}
use Rattle.cfb_fat_runs.specs.declared.runs.Kind.TheVariants.{Special, Linked}
use Rattle.cfb_fat_runs.specs.declared.runs.Run.{Run}
use Rattle.cfb_fat_runs.specs.declared.table.Table.{Table}
use Rattle.cfb_fat_runs.proofs.Edited.{found_at, inner_entry, last_entry, right_at, split_one, start_none, start_some, stop_least}
use Rattle.cfb_fat_runs.proofs.Splicing.{back_tiled}
use Rattle.cfb_fat_runs.proofs.Views.{entry_of, size_of}

-- no run is empty
pub run_some : (len p : ℕ) (xs : List Run) (m : Run) → AreTiled 0 len xs → p < length xs → m ≡ get_or xs p m → m.first < start_of len (drop (p + 1) xs)
run_some len p xs m tiled inside is = (back_tiled 0 len (take p xs) (m ∷ drop (p + 1) xs) (subst (AreTiled 0 len) (split_one xs p m inside is) tiled)).1

-- an entry is what the run says that it stands in
pub entry_here : (it : Table) (p k : ℕ) (m : Run) → p < length (all_runs it.runs) → m ≡ get_or (all_runs it.runs) p m → m.first ≤ k → k < start_of it.len (drop (p + 1) (all_runs it.runs))
    → slice_index (entries_of it) k ≡ entry_in m.kind (start_of it.len (drop (p + 1) (all_runs it.runs))) k
entry_here it p k m inside is from to =
    let xs = (all_runs it.runs) in
    let s = start_of it.len (drop (p + 1) xs) in
    let most = stop_least it.len p xs m it.tiled inside is in
    entry_of it k (omega (arith, to, most)) ∙ found_at it.len k p xs m it.tiled inside (subst (λ (x : Run). x.first ≤ k) is from) to ∙ ap (λ (x : Run). entry_in x.kind s k) (sym is)

-- no sector of another kind of run is free
not_free : (kind : Kind) (s k : ℕ) → IsRight kind → k ≤ greatest_regular → (kind ≡ Special free → ⊥) → entry_in kind s k ≡ free → ⊥
not_free (Special n) s k right few other is = other (ap Special is)
not_free (Linked n) s k right few other is = ⊎_elim
    (λ same. let e : n ≡ free = sym (last_entry n s k same.1) ∙ is in let high : greatest_regular < n = omega (arith, e) in let ends = right high in omega (arith, ends, e))
    (λ off. let e : k + 1 ≡ free = sym (inner_entry n s k off.1) ∙ is in omega (arith, e, few))
    (eqb_tells (k + 1) s)

pub none_free : (it : Table) (p k : ℕ) (m : Run) → p < length (all_runs it.runs) → m ≡ get_or (all_runs it.runs) p m → (m.kind ≡ Special free → ⊥) → m.first ≤ k → k < start_of it.len (drop (p + 1) (all_runs it.runs))
    → slice_index (entries_of it) k ≡ free → ⊥
none_free it p k m inside is other from to found =
    let xs = (all_runs it.runs) in
    let most = stop_least it.len p xs m it.tiled inside is in
    let few = it.few in
    let right : IsRight m.kind = subst (λ (x : Run). IsRight x.kind) (sym is) (right_at 0 it.len p xs m it.tiled inside) in
    not_free m.kind (start_of it.len (drop (p + 1) xs)) k right (omega (arith, to, most, few)) other (sym (entry_here it p k m inside is from to) ∙ found)

pub all_free : (it : Table) (p k : ℕ) (m : Run) → p < length (all_runs it.runs) → m ≡ get_or (all_runs it.runs) p m → m.kind ≡ Special free → m.first ≤ k → k < start_of it.len (drop (p + 1) (all_runs it.runs))
    → slice_index (entries_of it) k ≡ free
all_free it p k m inside is same from to = entry_here it p k m inside is from to ∙ ap (λ kind. entry_in kind (start_of it.len (drop (p + 1) (all_runs it.runs))) k) same

-- free entries are counted, and others aren't
pub count_yes : (n s : ℕ) (xs : List ℕ) → s + n ≤ length xs → ((k : ℕ) → s ≤ k → k < s + n → get_or xs k 0 ≡ free)
    → count_by (λ entry. nat_eq entry free) (take s xs) + n ≡ count_by (λ entry. nat_eq entry free) (take (s + n) xs)
count_yes zero s xs inside all = let e : s ≡ s + 0 = omega arith in let at = ap (λ m. count_by (λ entry. nat_eq entry free) (take m xs)) e in omega (arith, at)
count_yes (suc n) s xs inside all =
    let before = count_yes n s xs (omega (arith, inside)) (λ k from to. all k from (omega (arith, to))) in
    let one = count_by_more_yes (λ entry. nat_eq entry free) xs (s + n) 0 (omega (arith, inside)) (eq-eqb (get_or xs (s + n) 0) free (all (s + n) (omega arith) (omega arith))) in
    let e : s + n + 1 ≡ s + suc n = omega arith in
    let at = ap (λ m. count_by (λ entry. nat_eq entry free) (take m xs)) e in
    omega (arith, before, one, at)

pub count_no : (n s : ℕ) (xs : List ℕ) → s + n ≤ length xs → ((k : ℕ) → s ≤ k → k < s + n → get_or xs k 0 ≡ free → ⊥)
    → count_by (λ entry. nat_eq entry free) (take s xs) ≡ count_by (λ entry. nat_eq entry free) (take (s + n) xs)
count_no zero s xs inside all = let e : s ≡ s + 0 = omega arith in ap (λ m. count_by (λ entry. nat_eq entry free) (take m xs)) e
count_no (suc n) s xs inside all =
    let before = count_no n s xs (omega (arith, inside)) (λ k from to. all k from (omega (arith, to))) in
    let differ : nat_eq (get_or xs (s + n) 0) free ≡ false = ⊎_elim (λ same. absurd (all (s + n) (omega arith) (omega arith) same.1)) (λ off. off.0) (eqb_tells (get_or xs (s + n) 0) free) in
    let one = count_by_more_no (λ entry. nat_eq entry free) xs (s + n) 0 (omega (arith, inside)) differ in
    let e : s + n + 1 ≡ s + suc n = omega arith in
    before ∙ sym one ∙ ap (λ m. count_by (λ entry. nat_eq entry free) (take m xs)) e

-- along a run the table leads to where its last entry does
leads_along : (table : List ℕ) (s : ℕ) (xs : List ℕ) (n start next : ℕ) → Leads table s xs start → start + n < length table → length table ≤ greatest_regular + 1 → ((k : ℕ) → k < n → slice_index table (start + k) ≡ start + k + 1) → slice_index table (start + n) ≡ next
    → Leads table s (xs ++ range_with_len start (suc n)) next
leads_along table s xs zero start next leads inside few on last =
    let e : start + 0 ≡ start = omega arith in
    leads_more table s xs start next leads (omega (arith, inside, few)) (slice_get-get_or table start 0 (omega (arith, inside)) ∙ ap (λ x. Some x) (ap (slice_index table) (sym e) ∙ last))
leads_along table s xs (suc n) start next leads inside few on last =
    let here : slice_index table start ≡ start + 1 = (let e : start ≡ start + 0 = omega arith in ap (slice_index table) e) ∙ on 0 (omega arith) ∙ omega arith in
    let one : Leads table s (xs ++ start ∷ []) (start + 1) = leads_more table s xs start (start + 1) leads (omega (arith, inside, few)) (slice_get-get_or table start 0 (omega (arith, inside)) ∙ ap (λ x. Some x) here) in
    subst (λ l. Leads table s l next) (append_assoc xs (start ∷ []) (range_with_len (start + 1) (suc n)))
    (leads_along table s (xs ++ start ∷ []) n (start + 1) next one (omega (arith, inside)) few
    (λ k less. (let e : start + 1 + k ≡ start + suc k = omega arith in ap (slice_index table) e) ∙ on (suc k) (omega (arith, less)) ∙ omega arith)
    ((let e : start + 1 + n ≡ start + suc n = omega arith in ap (slice_index table) e) ∙ last))

pub leads_follow : (table : List ℕ) (s at next : ℕ) (old new : List ℕ) → length table ≤ greatest_regular + 1 → Leads table s old at → AreLinkedBehind table at next old new → Leads table s new next
leads_follow table s at next old new few leads f = subst (λ l. Leads table s l next) (sym f.added) (leads_along table s old f.more at next leads f.inside few f.on f.last)

-- the free sectors of a run are counted
pub begins_with : (it : Table) (p : ℕ) (m : Run) → p < length (all_runs it.runs) → m ≡ get_or (all_runs it.runs) p m → start_of it.len (drop p (all_runs it.runs)) ≡ m.first
begins_with it p m inside is = start_some it.len p (all_runs it.runs) m inside ∙ ap (λ (x : Run). x.first) (sym is)

pub counted_free : (it : Table) (p stop : ℕ) (m : Run) → p < length (all_runs it.runs) → m ≡ get_or (all_runs it.runs) p m → m.kind ≡ Special free → stop ≡ start_of it.len (drop (p + 1) (all_runs it.runs))
    → count_by (λ entry. nat_eq entry free) (take (start_of it.len (drop p (all_runs it.runs))) (entries_of it)) + (stop - m.first) ≡ count_by (λ entry. nat_eq entry free) (take (start_of it.len (drop (p + 1) (all_runs it.runs))) (entries_of it))
counted_free it p stop m inside is same is_stop =
    let xs = (all_runs it.runs) in
    let some = run_some it.len p xs m it.tiled inside is in
    let most = stop_least it.len p xs m it.tiled inside is in
    let size = size_of it in
    let end : m.first + (stop - m.first) ≡ start_of it.len (drop (p + 1) xs) = omega (arith, some, is_stop) in
    ap (λ n. count_by (λ entry. nat_eq entry free) (take n (entries_of it)) + (stop - m.first)) (begins_with it p m inside is)
    ∙ count_yes (stop - m.first) m.first (entries_of it) (omega (arith, end, most, size)) (λ k from to. all_free it p k m inside is same from (omega (arith, to, end)))
    ∙ ap (λ n. count_by (λ entry. nat_eq entry free) (take n (entries_of it))) end

pub counted_none : (it : Table) (p : ℕ) (m : Run) → p < length (all_runs it.runs) → m ≡ get_or (all_runs it.runs) p m → (m.kind ≡ Special free → ⊥)
    → count_by (λ entry. nat_eq entry free) (take (start_of it.len (drop p (all_runs it.runs))) (entries_of it)) + 0 ≡ count_by (λ entry. nat_eq entry free) (take (start_of it.len (drop (p + 1) (all_runs it.runs))) (entries_of it))
counted_none it p m inside is other =
    let xs = (all_runs it.runs) in
    let stop = start_of it.len (drop (p + 1) xs) in
    let some = run_some it.len p xs m it.tiled inside is in
    let most = stop_least it.len p xs m it.tiled inside is in
    let size = size_of it in
    let end : m.first + (stop - m.first) ≡ stop = omega (arith, some) in
    let same = ap (λ n. count_by (λ entry. nat_eq entry free) (take n (entries_of it))) (begins_with it p m inside is)
    ∙ count_no (stop - m.first) m.first (entries_of it) (omega (arith, end, most, size)) (λ k from to. none_free it p k m inside is other from (omega (arith, to, end)))
    ∙ ap (λ n. count_by (λ entry. nat_eq entry free) (take n (entries_of it))) end in
    omega (arith, same)

pub counted_few : (it : Table) (n : ℕ) → count_by (λ entry. nat_eq entry free) (take n (entries_of it)) ≤ it.len
counted_few it n = let size = size_of it in let few = count_by-le-length (λ entry. nat_eq entry free) (take n (entries_of it)) in let long = length-take n (entries_of it) in omega (arith, size, few, long)

pub counted_all : (it : Table) (p : ℕ) → length (all_runs it.runs) ≤ p → count_by (λ entry. nat_eq entry free) (take (start_of it.len (drop p (all_runs it.runs))) (entries_of it)) ≡ count_by (λ entry. nat_eq entry free) (entries_of it)
counted_all it p past = let size = size_of it in
    ap (λ n. count_by (λ entry. nat_eq entry free) (take n (entries_of it))) (start_none it.len p (all_runs it.runs) past) ∙ ap (count_by (λ entry. nat_eq entry free)) (take_all it.len (entries_of it) (omega (arith, size)))

pub unlike : (b : Bool) → b ≡ true → b ≡ false → ⊥
unlike b so off = true≢false (sym so ∙ off)

-- consecutive numbers, and one more
pub range_more : (n a : ℕ) → range_with_len a (suc n) ≡ range_with_len a n ++ (a + n) ∷ []
range_more zero a = let e : a ≡ a + 0 = omega arith in ap (λ x. x ∷ []) e
range_more (suc n) a = let e : a + 1 + n ≡ a + suc n = omega arith in ap (λ l. a ∷ l) (range_more n (a + 1) ∙ ap (λ x. range_with_len (a + 1) n ++ x ∷ []) e)

pub range_pushed : (first sector : ℕ) (old now new : List ℕ) → first ≤ sector → now ≡ old ++ range_with_len first (sector - first) → new ≡ now ++ sector ∷ [] → new ≡ old ++ range_with_len first (sector + 1 - first)
range_pushed first sector old now new from was pushed =
    let count : suc (sector - first) ≡ sector + 1 - first = omega (arith, from) in
    let last : first + (sector - first) ≡ sector = omega (arith, from) in
    pushed ∙ ap (λ l. l ++ sector ∷ []) was ∙ append_assoc old (range_with_len first (sector - first)) (sector ∷ [])
    ∙ ap (λ l. old ++ l) (ap (λ x. range_with_len first (sector - first) ++ x ∷ []) (sym last) ∙ sym (range_more (sector - first) first) ∙ ap (range_with_len first) count)

-- where a run leads
pub follows_one : (it : Table) (p start number : ℕ) (m : Run) (old new : List ℕ) → p < length (all_runs it.runs) → m ≡ get_or (all_runs it.runs) p m → m.kind ≡ Special number → m.first ≤ start → start < start_of it.len (drop (p + 1) (all_runs it.runs))
    → new ≡ old ++ start ∷ [] → AreLinkedBehind (entries_of it) start number old new
follows_one it p start number m old new inside is same from to added =
    let most = stop_least it.len p (all_runs it.runs) m it.tiled inside is in
    let size = size_of it in
    let e : start + 0 ≡ start = omega arith in
    record {
      more = 0;
      inside = omega (arith, to, most, size);
      on = λ k less. absurd (omega (arith, less));
      last = ap (slice_index (entries_of it)) e ∙ entry_here it p start m inside is from to ∙ ap (λ kind. entry_in kind (start_of it.len (drop (p + 1) (all_runs it.runs))) start) same;
      added = added;
    }

pub follows_run : (it : Table) (p start next stop : ℕ) (m : Run) (old new : List ℕ) → p < length (all_runs it.runs) → m ≡ get_or (all_runs it.runs) p m → m.kind ≡ Linked next → m.first ≤ start → start < start_of it.len (drop (p + 1) (all_runs it.runs))
    → stop ≡ start_of it.len (drop (p + 1) (all_runs it.runs)) → new ≡ old ++ range_with_len start (stop - start) → AreLinkedBehind (entries_of it) start next old new
follows_run it p start next stop m old new inside is same from to is_stop added =
    let s = start_of it.len (drop (p + 1) (all_runs it.runs)) in
    let most = stop_least it.len p (all_runs it.runs) m it.tiled inside is in
    let size = size_of it in
    let count : stop - start ≡ suc (stop - start - 1) = omega (arith, to, is_stop) in
    record {
      more = stop - start - 1;
      inside = omega (arith, to, is_stop, most, size);
      on = λ k less. entry_here it p (start + k) m inside is (omega (arith, from)) (omega (arith, less, is_stop)) ∙ ap (λ kind. entry_in kind s (start + k)) same ∙ inner_entry next s (start + k) (λ e. omega (arith, e, less, is_stop, to));
      last = entry_here it p (start + (stop - start - 1)) m inside is (omega (arith, from)) (omega (arith, to, is_stop)) ∙ ap (λ kind. entry_in kind s (start + (stop - start - 1))) same
          ∙ last_entry next s (start + (stop - start - 1)) (omega (arith, to, is_stop));
      added = added ∙ ap (λ n. old ++ range_with_len start n) count;
    }
