-- Where runs that are joined begin, by the table's entries.
use Rattle.std.proofs.Common.{◌≡◌, ◌+◌, ◌-◌, ◌<◌, ◌≤◌, ◌⊎◌, inl, inr, ℕ, zero, suc, List, length, take, drop, get_or, refl, sym, ap, subst, ◌∙◌, arith, ⊎_elim, Bool, true, false, cond, true≢false}
use Rattle.std.specs.Prelude.{◌&&◌, ◌||◌, not, nat_eq}
use Rattle.std.specs.List.{count_by, range_with_len}
use Rattle.std.proofs.lemmas.Bool.{cases_lt, eq-eqb, le-leb, le-ltb, lt-ltb, ne_eqb}
use Rattle.std.proofs.lemmas.Bool.Decides.{eqb_tells, leb_tells}
use Rattle.std.proofs.lemmas.List.{take_all}
use Rattle.std.proofs.lemmas.List.FromFn.{get_or-range_with_len, length-range_with_len}
use Rattle.std.proofs.lemmas.List.Sums.{count_by_more_no, count_by_more_yes}
use Rattle.cfb_sectors.specs.Sectors.{end_of_chain, greatest_regular}
use Rattle.cfb_fat_runs.specs.RunLists.{all_runs}
use Rattle.cfb_fat_runs.specs.Longest.{begins_run, goes_on, is_of_chain, runs_in}
use Rattle.cfb_fat_runs.specs.Runs.{entry_in, leading_to, start_of, IsRight}
use Rattle.cfb_fat_runs.specs.Tables.{entries_of}
use Rattle.cfb_fat_runs.specs.declared.runs.Kind.{Kind}
use Rattle.cfb_fat_runs.specs.declared.runs.Kind.TheVariants.{Special, Linked}
use Rattle.cfb_fat_runs.specs.declared.runs.Run.{Run}
use Rattle.cfb_fat_runs.specs.declared.table.Table.{Table}
use Rattle.cfb_fat_runs.proofs.Edited.{inner_entry, last_entry, right_at, start_none, stop_least}
use Rattle.cfb_fat_runs.proofs.Views.{size_of}
use Rattle.cfb_fat_runs.proofs.Walked.{begins_with, entry_here, run_some}

-- which entries are of a chain
small_of_chain : (n : ℕ) → n ≤ greatest_regular → is_of_chain n ≡ true
small_of_chain n h = ap (λ b. b || nat_eq n end_of_chain) (le-leb n greatest_regular h)

link_of_chain : (n : ℕ) → (greatest_regular < n → n ≡ end_of_chain) → is_of_chain n ≡ true
link_of_chain n right = ⊎_elim
    (λ low. ap (λ b. b || nat_eq n end_of_chain) low.0)
    (λ high. ap (λ b. b || nat_eq n end_of_chain) high.0 ∙ eq-eqb n end_of_chain (right high.1))
    (leb_tells n greatest_regular)

mark_of_none : (n : ℕ) → greatest_regular < n → (n ≡ end_of_chain → ⊥) → is_of_chain n ≡ false
mark_of_none n big off = ⊎_elim
    (λ low. absurd (let h = low.1 in omega (arith, h, big)))
    (λ high. ap (λ b. b || nat_eq n end_of_chain) high.0 ∙ ne_eqb n end_of_chain off)
    (leb_tells n greatest_regular)

goes_chain : (entries : List ℕ) (k : ℕ) → k + 1 < length entries → is_of_chain (get_or entries (k + 1) 0) ≡ true → goes_on entries k ≡ nat_eq (get_or entries k 0) (k + 1)
goes_chain entries k less is =
    ap (λ b. b && cond (is_of_chain (get_or entries (k + 1) 0)) (nat_eq (get_or entries k 0) (k + 1)) (nat_eq (get_or entries k 0) (get_or entries (k + 1) 0))) (lt-ltb (k + 1) (length entries) less)
    ∙ ap (λ b. cond b (nat_eq (get_or entries k 0) (k + 1)) (nat_eq (get_or entries k 0) (get_or entries (k + 1) 0))) is

goes_mark : (entries : List ℕ) (k : ℕ) → k + 1 < length entries → is_of_chain (get_or entries (k + 1) 0) ≡ false → goes_on entries k ≡ nat_eq (get_or entries k 0) (get_or entries (k + 1) 0)
goes_mark entries k less is =
    ap (λ b. b && cond (is_of_chain (get_or entries (k + 1) 0)) (nat_eq (get_or entries k 0) (k + 1)) (nat_eq (get_or entries k 0) (get_or entries (k + 1) 0))) (lt-ltb (k + 1) (length entries) less)
    ∙ ap (λ b. cond b (nat_eq (get_or entries k 0) (k + 1)) (nat_eq (get_or entries k 0) (get_or entries (k + 1) 0))) is

-- each entry of a linked run is of a chain
linked_of_chain : (next s k : ℕ) → IsRight (Linked next) → k < s → s ≤ greatest_regular + 1 → is_of_chain (entry_in (Linked next) s k) ≡ true
linked_of_chain next s k right less few = ⊎_elim
    (λ same. ap is_of_chain (last_entry next s k same.1) ∙ link_of_chain next right)
    (λ off. ap is_of_chain (inner_entry next s k off.1) ∙ small_of_chain (k + 1) (let h = off.1 in omega (arith, less, few, h)))
    (eqb_tells (k + 1) s)

-- within a run each sector goes on
goes_within : (entries : List ℕ) (kind : Kind) (s k : ℕ) → IsRight kind → k + 1 < s → s ≤ length entries → s ≤ greatest_regular + 1 → get_or entries k 0 ≡ entry_in kind s k → get_or entries (k + 1) 0 ≡ entry_in kind s (k + 1) → goes_on entries k ≡ true
goes_within entries (Special n) s k right less inside few here next =
    goes_mark entries k (omega (arith, less, inside)) (ap is_of_chain next ∙ mark_of_none n right.0 right.1) ∙ eq-eqb (get_or entries k 0) (get_or entries (k + 1) 0) (here ∙ sym next)
goes_within entries (Linked n) s k right less inside few here next =
    goes_chain entries k (omega (arith, less, inside)) (ap is_of_chain next ∙ linked_of_chain n s (k + 1) right less few)
    ∙ eq-eqb (get_or entries k 0) (k + 1) (here ∙ inner_entry n s k (λ e. omega (arith, e, less)))

-- the last sector of a run goes on where this leads on to the next run
goes_over : (entries : List ℕ) (b : Kind) (s k : ℕ) → IsRight b → k + 1 < s → s ≤ length entries → s ≤ greatest_regular + 1 → get_or entries k 0 ≡ entry_in (leading_to (k + 1) b) (k + 1) k → get_or entries (k + 1) 0 ≡ entry_in b s (k + 1) → goes_on entries k ≡ true
goes_over entries (Special n) s k right less inside few here next =
    goes_mark entries k (omega (arith, less, inside)) (ap is_of_chain next ∙ mark_of_none n right.0 right.1) ∙ eq-eqb (get_or entries k 0) (get_or entries (k + 1) 0) (here ∙ sym next)
goes_over entries (Linked n) s k right less inside few here next =
    goes_chain entries k (omega (arith, less, inside)) (ap is_of_chain next ∙ linked_of_chain n s (k + 1) right less few) ∙ eq-eqb (get_or entries k 0) (k + 1) (here ∙ last_entry (k + 1) (k + 1) k refl)

-- and else it doesn't
ends_there : (entries : List ℕ) (a b : Kind) (s k : ℕ) → IsRight a → IsRight b → k + 1 < s → s ≤ length entries → s ≤ greatest_regular + 1 → get_or entries k 0 ≡ entry_in a (k + 1) k → get_or entries (k + 1) 0 ≡ entry_in b s (k + 1)
    → (a ≡ leading_to (k + 1) b → ⊥) → goes_on entries k ≡ false
ends_there entries (Special n) (Special m) s k left right less inside few here next other =
    goes_mark entries k (omega (arith, less, inside)) (ap is_of_chain next ∙ mark_of_none m right.0 right.1)
    ∙ ne_eqb (get_or entries k 0) (get_or entries (k + 1) 0) (λ same. other (ap Special (sym here ∙ same ∙ next)))
ends_there entries (Linked n) (Special m) s k left right less inside few here next other =
    goes_mark entries k (omega (arith, less, inside)) (ap is_of_chain next ∙ mark_of_none m right.0 right.1)
    ∙ ne_eqb (get_or entries k 0) (get_or entries (k + 1) 0) (λ same.
    let e : n ≡ m = sym (here ∙ last_entry n (k + 1) k refl) ∙ same ∙ next in
    let big = right.0 in
    right.1 (sym e ∙ left (omega (arith, e, big))))
ends_there entries (Special n) (Linked m) s k left right less inside few here next other =
    goes_chain entries k (omega (arith, less, inside)) (ap is_of_chain next ∙ linked_of_chain m s (k + 1) right less few)
    ∙ ne_eqb (get_or entries k 0) (k + 1) (λ same. let e : n ≡ k + 1 = sym here ∙ same in let big = left.0 in omega (arith, e, big, less, few))
ends_there entries (Linked n) (Linked m) s k left right less inside few here next other =
    goes_chain entries k (omega (arith, less, inside)) (ap is_of_chain next ∙ linked_of_chain m s (k + 1) right less few)
    ∙ ne_eqb (get_or entries k 0) (k + 1) (λ same. other (ap Linked (sym (here ∙ last_entry n (k + 1) k refl) ∙ same)))

module _ (it : Table) where
  -- the sectors of a run but its first one begin none
  pub goes_in_run : (p k : ℕ) (m : Run) → p < length (all_runs it.runs) → m ≡ get_or (all_runs it.runs) p m → m.first ≤ k → k + 1 < start_of it.len (drop (p + 1) (all_runs it.runs)) → goes_on (entries_of it) k ≡ true
  goes_in_run p k m inside is from to =
      let xs = (all_runs it.runs) in
      let s = start_of it.len (drop (p + 1) xs) in
      let most = stop_least it.len p xs m it.tiled inside is in
      let size = size_of it in
      let few = it.few in
      goes_within (entries_of it) m.kind s k (subst (λ (x : Run). IsRight x.kind) (sym is) (right_at 0 it.len p xs m it.tiled inside)) to (omega (arith, most, size)) (omega (arith, most, few))
      (entry_here it p k m inside is from (omega (arith, to))) (entry_here it p (k + 1) m inside is (omega (arith, from)) to)

  -- a run begins where the one in front doesn't lead on to it
  pub begins_behind : (q : ℕ) (a b : Run) (t : Bool) → q + 1 < length (all_runs it.runs) → a ≡ get_or (all_runs it.runs) q a → b ≡ get_or (all_runs it.runs) (q + 1) b → (t ≡ true → a.kind ≡ leading_to b.first b.kind) → (a.kind ≡ leading_to b.first b.kind → t ≡ true)
      → begins_run (entries_of it) b.first ≡ not t
  begins_behind q a b t inside is_a is_b leads_so so =
      let xs = (all_runs it.runs) in
      let entries = entries_of it in
      let front : q < length xs = omega (arith, inside) in
      let s = start_of it.len (drop (q + 1 + 1) xs) in
      let at = begins_with it (q + 1) b inside is_b in
      let some = run_some it.len q xs a it.tiled front is_a in
      let more = run_some it.len (q + 1) xs b it.tiled inside is_b in
      let most = stop_least it.len (q + 1) xs b it.tiled inside is_b in
      let size = size_of it in
      let few = it.few in
      let k : ℕ = b.first - 1 in
      let first : b.first ≡ k + 1 = omega (arith, some, at) in
      let left = subst (λ (x : Run). IsRight x.kind) (sym is_a) (right_at 0 it.len q xs a it.tiled front) in
      let right = subst (λ (x : Run). IsRight x.kind) (sym is_b) (right_at 0 it.len (q + 1) xs b it.tiled inside) in
      let here : get_or entries k 0 ≡ entry_in a.kind (k + 1) k = entry_here it q k a front is_a (omega (arith, some, at, first)) (omega (arith, at, first)) ∙ ap (λ n. entry_in a.kind n k) (at ∙ first) in
      let next : get_or entries (k + 1) 0 ≡ entry_in b.kind s (k + 1) = entry_here it (q + 1) (k + 1) b inside is_b (omega (arith, first)) (omega (arith, more, first)) in
      let goes : goes_on entries k ≡ t = ⊎_elim
      (λ (on : t ≡ true). goes_over entries b.kind s k right (omega (arith, more, first)) (omega (arith, most, size)) (omega (arith, most, few))
      (here ∙ ap (λ kind. entry_in kind (k + 1) k) (leads_so on ∙ ap (λ n. leading_to n b.kind) first)) next ∙ sym on)
      (λ (off : t ≡ false). ends_there entries a.kind b.kind s k left right (omega (arith, more, first)) (omega (arith, most, size)) (omega (arith, most, few)) here next
      (λ leads. true≢false (sym (so (leads ∙ ap (λ n. leading_to n b.kind) (sym first))) ∙ off)) ∙ sym off)
      (either t) in
      ap (λ z. z || not (goes_on entries (b.first - 1))) (ne_eqb b.first 0 (λ e. omega (arith, e, first))) ∙ ap not goes
    where
      either : (t : Bool) → (t ≡ true) ⊎ (t ≡ false)
      either true = inl refl
      either false = inr refl

no_start : (entries : List ℕ) (k : ℕ) → 0 < k → goes_on entries (k - 1) ≡ true → begins_run entries k ≡ false
no_start entries k some goes = ap (λ z. z || not (goes_on entries (k - 1))) (ne_eqb k 0 (λ e. omega (arith, e, some))) ∙ ap not goes

none_count : (f : ℕ → Bool) (n s : ℕ) (xs : List ℕ) → s + n ≤ length xs → ((k : ℕ) → s ≤ k → k < s + n → f (get_or xs k 0) ≡ false) → count_by f (take s xs) ≡ count_by f (take (s + n) xs)
none_count f zero s xs inside all = let e : s ≡ s + 0 = omega arith in ap (λ m. count_by f (take m xs)) e
none_count f (suc n) s xs inside all =
    let e : s + n + 1 ≡ s + suc n = omega arith in
    none_count f n s xs (omega (arith, inside)) (λ k from to. all k from (omega (arith, to))) ∙ sym (count_by_more_no f xs (s + n) 0 (omega (arith, inside)) (all (s + n) (omega arith) (omega arith))) ∙ ap (λ m. count_by f (take m xs)) e

number_here : (n k : ℕ) → k < n → get_or (range_with_len 0 n) k 0 ≡ k
number_here n k less = get_or-range_with_len 0 n k 0 less ∙ omega arith

module _ (it : Table) where
  starts_behind : (p : ℕ) (m : Run) → p < length (all_runs it.runs) → m ≡ get_or (all_runs it.runs) p m
      → count_by (begins_run (entries_of it)) (take (m.first + 1) (range_with_len 0 (length (entries_of it)))) ≡ count_by (begins_run (entries_of it)) (take (start_of it.len (drop (p + 1) (all_runs it.runs))) (range_with_len 0 (length (entries_of it))))
  starts_behind p m inside is =
      let s = start_of it.len (drop (p + 1) (all_runs it.runs)) in
      let nums = range_with_len 0 (length (entries_of it)) in
      let some = run_some it.len p (all_runs it.runs) m it.tiled inside is in
      let most = stop_least it.len p (all_runs it.runs) m it.tiled inside is in
      let size = size_of it in
      let long : length nums ≡ length (entries_of it) = length-range_with_len 0 (length (entries_of it)) in
      let e : m.first + 1 + (s - (m.first + 1)) ≡ s = omega (arith, some) in
      none_count (begins_run (entries_of it)) (s - (m.first + 1)) (m.first + 1) nums (omega (arith, e, most, size, long))
      (λ k from to. ap (begins_run (entries_of it)) (number_here (length (entries_of it)) k (omega (arith, to, e, most, size)))
      ∙ no_start (entries_of it) k (omega (arith, from)) (goes_in_run it p (k - 1) m inside is (omega (arith, from)) (omega (arith, from, to, e))))
      ∙ ap (λ n. count_by (begins_run (entries_of it)) (take n nums)) e

  pub starts_one : (p : ℕ) (m : Run) → p < length (all_runs it.runs) → m ≡ get_or (all_runs it.runs) p m → begins_run (entries_of it) (start_of it.len (drop p (all_runs it.runs))) ≡ true
      → count_by (begins_run (entries_of it)) (take (start_of it.len (drop p (all_runs it.runs))) (range_with_len 0 (length (entries_of it)))) + 1
      ≡ count_by (begins_run (entries_of it)) (take (start_of it.len (drop (p + 1) (all_runs it.runs))) (range_with_len 0 (length (entries_of it))))
  starts_one p m inside is begins =
      let nums = range_with_len 0 (length (entries_of it)) in
      let at = begins_with it p m inside is in
      let some = run_some it.len p (all_runs it.runs) m it.tiled inside is in
      let most = stop_least it.len p (all_runs it.runs) m it.tiled inside is in
      let size = size_of it in
      let long : length nums ≡ length (entries_of it) = length-range_with_len 0 (length (entries_of it)) in
      ap (λ n. count_by (begins_run (entries_of it)) (take n nums) + 1) at
      ∙ sym (count_by_more_yes (begins_run (entries_of it)) nums m.first 0 (omega (arith, some, most, size, long))
      (ap (begins_run (entries_of it)) (number_here (length (entries_of it)) m.first (omega (arith, some, most, size)) ∙ sym at) ∙ begins))
      ∙ starts_behind p m inside is

  pub starts_none : (p : ℕ) (m : Run) → p < length (all_runs it.runs) → m ≡ get_or (all_runs it.runs) p m → begins_run (entries_of it) (start_of it.len (drop p (all_runs it.runs))) ≡ false
      → count_by (begins_run (entries_of it)) (take (start_of it.len (drop p (all_runs it.runs))) (range_with_len 0 (length (entries_of it)))) + 0
      ≡ count_by (begins_run (entries_of it)) (take (start_of it.len (drop (p + 1) (all_runs it.runs))) (range_with_len 0 (length (entries_of it))))
  starts_none p m inside is begins =
      let nums = range_with_len 0 (length (entries_of it)) in
      let at = begins_with it p m inside is in
      let some = run_some it.len p (all_runs it.runs) m it.tiled inside is in
      let most = stop_least it.len p (all_runs it.runs) m it.tiled inside is in
      let size = size_of it in
      let long : length nums ≡ length (entries_of it) = length-range_with_len 0 (length (entries_of it)) in
      let same = ap (λ n. count_by (begins_run (entries_of it)) (take n nums)) at
      ∙ sym (count_by_more_no (begins_run (entries_of it)) nums m.first 0 (omega (arith, some, most, size, long))
      (ap (begins_run (entries_of it)) (number_here (length (entries_of it)) m.first (omega (arith, some, most, size)) ∙ sym at) ∙ begins))
      ∙ starts_behind p m inside is in
      omega (arith, same)

  pub starts_all : (p : ℕ) → length (all_runs it.runs) ≤ p → count_by (begins_run (entries_of it)) (take (start_of it.len (drop p (all_runs it.runs))) (range_with_len 0 (length (entries_of it)))) ≡ runs_in (entries_of it)
  unfolding runs_in
  starts_all p past =
      let size = size_of it in
      let long : length (range_with_len 0 (length (entries_of it))) ≡ length (entries_of it) = length-range_with_len 0 (length (entries_of it)) in
      ap (λ n. count_by (begins_run (entries_of it)) (take n (range_with_len 0 (length (entries_of it))))) (start_none it.len p (all_runs it.runs) past)
      ∙ ap (count_by (begins_run (entries_of it))) (take_all it.len (range_with_len 0 (length (entries_of it))) (omega (arith, size, long)))

  -- a run more is joined in front
  pub on_before : (q : ℕ) (m : Run) (stop : ℕ) → q < length (all_runs it.runs) → m ≡ get_or (all_runs it.runs) q m → begins_run (entries_of it) (start_of it.len (drop (q + 1) (all_runs it.runs))) ≡ false
      → ((k : ℕ) → start_of it.len (drop (q + 1) (all_runs it.runs)) ≤ k → k + 1 < stop → goes_on (entries_of it) k ≡ true) → (k : ℕ) → start_of it.len (drop q (all_runs it.runs)) ≤ k → k + 1 < stop → goes_on (entries_of it) k ≡ true
  on_before q m stop inside is joined on k from to =
      let s = start_of it.len (drop (q + 1) (all_runs it.runs)) in
      let at = begins_with it q m inside is in
      let some = run_some it.len q (all_runs it.runs) m it.tiled inside is in
      ⊎_elim
      (λ low. ⊎_elim
      (λ within. goes_in_run it q k m inside is (omega (arith, from, at)) within)
      (λ last. let e : s - 1 ≡ k = omega (arith, low, last) in ap (goes_on (entries_of it)) (sym e) ∙ goes_so s (omega (arith, some)) joined)
      (cases_lt (k + 1) s))
      (λ past. on k past to)
      (cases_lt k s)
    where
      turned : (b : Bool) → not b ≡ false → b ≡ true
      turned true e = refl
      turned false e = sym e

      goes_so : (s : ℕ) → 0 < s → begins_run (entries_of it) s ≡ false → goes_on (entries_of it) (s - 1) ≡ true
      goes_so s more e = turned (goes_on (entries_of it) (s - 1)) (sym (ap (λ z. z || not (goes_on (entries_of it) (s - 1))) (ne_eqb s 0 (λ z. omega (arith, z, more)))) ∙ e)

  -- and one behind
  pub on_after : (p q : ℕ) (m : Run) → q < length (all_runs it.runs) → m ≡ get_or (all_runs it.runs) q m → begins_run (entries_of it) (start_of it.len (drop q (all_runs it.runs))) ≡ false → 0 < start_of it.len (drop q (all_runs it.runs))
      → ((k : ℕ) → p ≤ k → k + 1 < start_of it.len (drop q (all_runs it.runs)) → goes_on (entries_of it) k ≡ true) → (k : ℕ) → p ≤ k → k + 1 < start_of it.len (drop (q + 1) (all_runs it.runs)) → goes_on (entries_of it) k ≡ true
  on_after p q m inside is joined more on k from to =
      let s = start_of it.len (drop q (all_runs it.runs)) in
      let at = begins_with it q m inside is in
      ⊎_elim
      (λ low. on k from low)
      (λ past. ⊎_elim
      (λ last. let e : s - 1 ≡ k = omega (arith, past, last) in ap (goes_on (entries_of it)) (sym e) ∙ goes_so s more joined)
      (λ here. goes_in_run it q k m inside is (omega (arith, here, at)) to)
      (cases_lt k s))
      (cases_lt (k + 1) s)
    where
      turned : (b : Bool) → not b ≡ false → b ≡ true
      turned true e = refl
      turned false e = sym e

      goes_so : (s : ℕ) → 0 < s → begins_run (entries_of it) s ≡ false → goes_on (entries_of it) (s - 1) ≡ true
      goes_so s more e = turned (goes_on (entries_of it) (s - 1)) (sym (ap (λ z. z || not (goes_on (entries_of it) (s - 1))) (ne_eqb s 0 (λ z. omega (arith, z, more)))) ∙ e)

  pub ends_here : (s : ℕ) → 0 < s → begins_run (entries_of it) s ≡ true → goes_on (entries_of it) (s - 1) ≡ false
  ends_here s more e = turned (goes_on (entries_of it) (s - 1)) (sym (ap (λ z. z || not (goes_on (entries_of it) (s - 1))) (ne_eqb s 0 (λ z. omega (arith, z, more)))) ∙ e)
    where
      turned : (b : Bool) → not b ≡ true → b ≡ false
      turned true e = sym e
      turned false e = refl

  pub ends_last : (s : ℕ) → s ≡ it.len → 0 < s → goes_on (entries_of it) (s - 1) ≡ false
  ends_last s is more =
      let size = size_of it in
      ap (λ b. b && cond (is_of_chain (get_or (entries_of it) (s - 1 + 1) 0)) (nat_eq (get_or (entries_of it) (s - 1) 0) (s - 1 + 1)) (nat_eq (get_or (entries_of it) (s - 1) 0) (get_or (entries_of it) (s - 1 + 1) 0)))
      (le-ltb (s - 1 + 1) (length (entries_of it)) (omega (arith, is, more, size)))
