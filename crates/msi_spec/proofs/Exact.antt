-- Counting down is exact: it ends well just where the clauses on texts hold.
use Rattle.std.proofs.Common.{◌≡◌, ◌∙◌, ℕ, zero, suc, ◌-◌, ◌<◌, ◌≤◌, Bool, true, false, cond, List, [], ◌∷◌, length, get_or, refl, sym, ap, subst, arith}
use Rattle.std.proofs.Common.{inl, inr}
use Rattle.std.proofs.lemmas.Bool.{cases_lt}
use Rattle.std.specs.Prelude.{◌==◌, ◌⊎◌, All, IsTrue, count_by, ◌↔◌}
use Rattle.std.proofs.lemmas.Bool.Decides.{nat_tests}
use Rattle.std.proofs.lemmas.List.{get_or_past}
use Rattle.std.proofs.lemmas.List.Elements.{All-tail}
use Rattle.std.proofs.lemmas.List.Sums.{get_or-le-sum_by, sum_by-cons}
use Rattle.msi_pool.specs.Pool.{PoolEntry, Pool, pool_entry_at, empty_pool_entry}
use Rattle.msi_pool.specs.declared.stringref.ValueRef.{ValueRef}
use Rattle.msi_pool.specs.declared.stringref.ValueRef.TheVariants as cell
use Rattle.msi_changes.specs.Laws.{names_place, uses_in}
use Rattle.msi_tables.specs.Rows.{Row}
use Rattle.msi_tables.specs.Table.{Table}
use Rattle.msi_spec.specs.Sound.{IsPlaceUsed, refcounts_of}
use Rattle.msi_spec.specs.Uses.{RefcountsAreExact, CountsDown, cell_uses, counts_of, left_at}

mapped : (places : List PoolEntry) (k : ℕ) → left_at (counts_of places) k ≡ (get_or places k empty_pool_entry).count
mapped [] k = refl
mapped (p ∷ ps) zero = refl
mapped (p ∷ ps) (suc k) = mapped ps k

back : (k : ℕ) → suc k - 1 ≡ k
back k = omega arith

-- what is counted at a place
counts_at : (places : List PoolEntry) (k : ℕ) → left_at (counts_of places) k ≡ (pool_entry_at places (suc k)).count
counts_at places k = mapped places k ∙ ap (λ i. (get_or places i empty_pool_entry).count) (sym (back k))

past : (places : List PoolEntry) (k : ℕ) → length places ≤ k → (pool_entry_at places (suc k)).count ≡ 0
past places k le = ap (λ i. (get_or places i empty_pool_entry).count) (back k) ∙ ap (λ (p : PoolEntry). p.count) (get_or_past places k empty_pool_entry le)

-- no cell names a place without a use
module _ (pool : Pool) (n : ℕ) (free : (pool_entry_at pool.places n).count ≡ 0) where
  cell_free : (v : ValueRef) → IsPlaceUsed pool v → cell_uses v n ≡ 0
  cell_free (cell.Str m) used = by (m == n) refl
    where
      by : (b : Bool) → (m == n) ≡ b → ◌≡◌ {A = ℕ} (cond b 1 0) 0
      by false e = refl
      by true e =
          let same : m ≡ n = grind (arith, nat_tests, e) in
          let some : 0 < (pool_entry_at pool.places n).count = subst (λ i. 0 < (pool_entry_at pool.places i).count) same used in
          absurd (omega (arith, some, free))
  cell_free cell.Null used = refl
  cell_free (cell.Int z) used = refl
  cell_free cell.Binary used = refl

  row_free : (row : Row) → All (IsPlaceUsed pool) row → count_by (names_place n) row ≡ 0
  row_free [] all = refl
  row_free (v ∷ vs) all =
      let here = cell_free v (all 0 v (omega arith)) in let later = row_free vs (All-tail (IsPlaceUsed pool) v vs all) in
      omega (arith, sum_by-cons (λ w. cell_uses w n) v vs, here, later)

  rows_free : (rows : List Row) → All (All (IsPlaceUsed pool)) rows → uses_in rows n ≡ 0
  rows_free [] all = refl
  rows_free (r ∷ rs) all =
      let here = row_free r (all 0 r (omega arith)) in let later = rows_free rs (All-tail (All (IsPlaceUsed pool)) r rs all) in
      omega (arith, sum_by-cons (λ row. count_by (names_place n) row) r rs, here, later)

  tables_free : (ts : List Table) → All (λ t. All (All (IsPlaceUsed pool)) t.rows) ts → refcounts_of ts n ≡ 0
  tables_free [] all = refl
  tables_free (t ∷ ts) all =
      let here = rows_free t.rows (all 0 t (omega arith)) in let later = tables_free ts (All-tail (λ t. All (All (IsPlaceUsed pool)) t.rows) t ts all) in
      omega (arith, sum_by-cons (λ t. uses_in t.rows n) t ts, here, later)

-- counted as the clauses say, nothing is left
counted_ends : (pool : Pool) (ts : List Table) → RefcountsAreExact pool ts → (k : ℕ) → left_at (counts_of pool.places) k ≡ refcounts_of ts (suc k)
counted_ends pool ts h k = counts_at pool.places k ∙ by (cases_lt k (length pool.places))
  where
    by : (k < length pool.places) ⊎ (length pool.places ≤ k) → (pool_entry_at pool.places (suc k)).count ≡ refcounts_of ts (suc k)
    by (inl below) = h.counts (suc k) (omega arith) (omega (arith, below))
    by (inr le) = let none = past pool.places k le in none ∙ sym (tables_free pool (suc k) none ts h.references)

-- nothing is left: the clauses hold, where no cell names place 0
ends_counted : (pool : Pool) (ts : List Table) → refcounts_of ts 0 ≡ 0 → ((k : ℕ) → left_at (counts_of pool.places) k ≡ refcounts_of ts (suc k)) → RefcountsAreExact pool ts
ends_counted pool ts none h = record {
  references = λ i t below j row within k v inside. used i t below j row within k v inside (get_or (get_or (get_or ts i t).rows j row) k v) refl;
  counts = counts;
}
  where
    counts : (n : ℕ) → 0 < n → n ≤ length pool.places → (pool_entry_at pool.places n).count ≡ refcounts_of ts n
    counts zero some le = absurd (omega (arith, some))
    counts (suc k) some le = sym (counts_at pool.places k) ∙ h k

    -- a cell that stands there is a use
    makes : (n i j k : ℕ) (t : Table) (row : Row) (v : ValueRef) → i < length ts → j < length (get_or ts i t).rows → k < length (get_or (get_or ts i t).rows j row)
        → cell_uses (get_or (get_or (get_or ts i t).rows j row) k v) n ≤ refcounts_of ts n
    makes n i j k t row v below within inside =
        let one = get_or-le-sum_by (λ w. cell_uses w n) (get_or (get_or ts i t).rows j row) k v inside in
        let two = get_or-le-sum_by (λ r. count_by (names_place n) r) (get_or ts i t).rows j row within in
        let three = get_or-le-sum_by (λ u. uses_in u.rows n) ts i t below in
        omega (arith, one, two, three)

    used : (i : ℕ) (t : Table) → i < length ts → (j : ℕ) (row : Row) → j < length (get_or ts i t).rows → (k : ℕ) (v : ValueRef) → k < length (get_or (get_or ts i t).rows j row)
        → (w : ValueRef) → get_or (get_or (get_or ts i t).rows j row) k v ≡ w → IsPlaceUsed pool w
    used i t below j row within k v inside (cell.Str n) e = at n (subst (λ w. cell_uses w n ≤ refcounts_of ts n) e (makes n i j k t row v below within inside)) (itself n)
      where
        itself : (m : ℕ) → (m == m) ≡ true
        itself m = grind (arith, nat_tests)

        at : (m : ℕ) → cond (m == m) 1 0 ≤ refcounts_of ts m → (m == m) ≡ true → 0 < (pool_entry_at pool.places m).count
        at zero some same = let more : 1 ≤ refcounts_of ts 0 = subst (λ b. cond b 1 0 ≤ refcounts_of ts 0) same some in absurd (omega (arith, more, none))
        at (suc m) some same =
            let more : 1 ≤ refcounts_of ts (suc m) = subst (λ b. cond b 1 0 ≤ refcounts_of ts (suc m)) same some in
            let count = sym (counts_at pool.places m) ∙ h m in
            omega (arith, more, count)
    used i t below j row within k v inside cell.Null e = tt
    used i t below j row within k v inside (cell.Int z) e = tt
    used i t below j row within k v inside cell.Binary e = tt

pub counted_down : (pool : Pool) (ts : List Table) (result : Bool) → refcounts_of ts 0 ≡ 0 → CountsDown pool ts result → IsTrue result ↔ RefcountsAreExact pool ts
counted_down pool ts true none c = (λ _. ends_counted pool ts none (c.taken refl), λ _. refl)
counted_down pool ts false none c = (λ e. absurd (cc), λ h. absurd (let k = c.other refl in k.1 (counted_ends pool ts h k.0)))
