-- A list of tables of which one gets other rows.
use Rattle.std.proofs.Common.{◌≡◌, ◌∙◌, ℕ, zero, suc, ◌+◌, ◌<◌, ◌≤◌, Bool, true, false, cond, List, [], ◌∷◌, map, length, get_or, Some, refl, sym, ap, ap₂, subst, arith}
use Rattle.std.specs.Prelude.{bytes_eq, option_map, slice_get, if◌then◌else◌}
use Rattle.std.specs.List.{remove, AllByRecursion}
use Rattle.std.specs.List.Sorted.{IsStrictlySortedBy}
use Rattle.std.specs.Ordering.{ordering_reverse}
use Rattle.std.specs.declared.cmp.Ordering.TheVariants.{Greater, Less}
use Rattle.std.proofs.lemmas.Cmp.{nat_list_cmp_total}
use Rattle.std.proofs.lemmas.List.{get_or-map, length-map}
use Rattle.std.proofs.lemmas.List.Sums.{get_or-le-sum_by, sum_by-cons}
use Rattle.std.proofs.lemmas.Map.Keys.{sorted_head, sorted_tail}
use Rattle.msi_changes.specs.Laws.{uses_in}
use Rattle.msi_tables.specs.Rows.{Row}
use Rattle.msi_tables.specs.Table.{table_named, Table}
use Rattle.msi_spec.specs.Calls.{rows_put, with_rows}
use Rattle.msi_spec.specs.Package.{table_name_cmp}
use Rattle.msi_spec.specs.Sound.{refcounts_of}
use Rattle.msi_spec.proofs.SystemRows.{bytes_same, same_bytes}

-- a name isn't before itself
less_differs : (x y : List ℕ) → table_name_cmp x y ≡ Less → bytes_eq y x ≡ false
less_differs x y less = by (bytes_eq y x) refl
  where
    by : (b : Bool) → bytes_eq y x ≡ b → b ≡ false
    by false is = refl
    by true is =
        let level : table_name_cmp x x ≡ Less = subst (λ z. table_name_cmp x z ≡ Less) (same_bytes y x is) less in
        let turned = nat_list_cmp_total.antisymm x x in
        let never : Less ≡ Greater = sym level ∙ turned ∙ ap ordering_reverse level in
        absurd (cc)

-- nor is one before which it stands
more_differs : (x y : List ℕ) → table_name_cmp x y ≡ Less → bytes_eq x y ≡ false
more_differs x y less = by (bytes_eq x y) refl
  where
    by : (b : Bool) → bytes_eq x y ≡ b → b ≡ false
    by false is = refl
    by true is = (let swap : bytes_eq y x ≡ true = subst (λ z. bytes_eq z x ≡ true) (same_bytes x y is) (bytes_same x) in let h : true ≡ false = sym swap ∙ less_differs x y less in absurd (cc))

module _ (name : List ℕ) (stored : List Row) where
  -- its name and its columns stay
  pub name_kept : (t : Table) → (with_rows name stored t).name ≡ t.name
  name_kept t = by (bytes_eq t.name name)
    where
      by : (b : Bool) → (if b then record t { rows = stored } else t).name ≡ t.name
      by true = refl
      by false = refl

  pub columns_kept : (t : Table) → (with_rows name stored t).columns ≡ t.columns
  columns_kept t = by (bytes_eq t.name name)
    where
      by : (b : Bool) → (if b then record t { rows = stored } else t).columns ≡ t.columns
      by true = refl
      by false = refl

  -- another stays, and the one of the name has the rows
  pub other_kept : (t : Table) → bytes_eq t.name name ≡ false → with_rows name stored t ≡ t
  other_kept t is = ap (λ b. cond b (record t { rows = stored }) t) is

  pub one_changed : (t : Table) → bytes_eq t.name name ≡ true → with_rows name stored t ≡ record t { rows = stored }
  one_changed t is = ap (λ b. cond b (record t { rows = stored }) t) is

  pub names_kept : {X : Type 0} (f : List ℕ → X) (ts : List Table) → map (λ t. f t.name) (rows_put name stored ts) ≡ map (λ t. f t.name) ts
  names_kept f [] = refl
  names_kept f (t ∷ ts) = ap₂ (λ x xs. x ∷ xs) (ap f (name_kept t)) (names_kept f ts)

  -- what is found under a name
  pub found_after : (m : List ℕ) (ts : List Table) → table_named (rows_put name stored ts) m ≡ option_map (with_rows name stored) (table_named ts m)
  found_after m [] = refl
  found_after m (t ∷ ts) = by (bytes_eq t.name m) refl (found_after m ts)
    where
      by : (b : Bool) → bytes_eq t.name m ≡ b → table_named (rows_put name stored ts) m ≡ option_map (with_rows name stored) (table_named ts m)
          → table_named (rows_put name stored (t ∷ ts)) m ≡ option_map (with_rows name stored) (table_named (t ∷ ts) m)
      by true is rest =
          let now : bytes_eq (with_rows name stored t).name m ≡ true = ap (λ n. bytes_eq n m) (name_kept t) ∙ is in
          ap (λ b. cond b (Some (with_rows name stored t)) (table_named (rows_put name stored ts) m)) now
          ∙ sym (ap (λ b. option_map (with_rows name stored) (cond b (Some t) (table_named ts m))) is)
      by false is rest =
          let now : bytes_eq (with_rows name stored t).name m ≡ false = ap (λ n. bytes_eq n m) (name_kept t) ∙ is in
          ap (λ b. cond b (Some (with_rows name stored t)) (table_named (rows_put name stored ts) m)) now
          ∙ rest
          ∙ sym (ap (λ b. option_map (with_rows name stored) (cond b (Some t) (table_named ts m))) is)

  -- ---- uses

  -- tables behind the one of the name stay
  later_kept : (ts : List Table) → AllByRecursion (λ y. table_name_cmp name y ≡ Less) (map (λ t. t.name) ts) → rows_put name stored ts ≡ ts
  later_kept [] above = refl
  later_kept (t ∷ ts) above = ap₂ (λ x xs. x ∷ xs) (other_kept t (less_differs name t.name above.0)) (later_kept ts above.1)

  named_at : (x : List ℕ) (ts : List Table) (k : ℕ) (t : Table) → AllByRecursion (λ y. table_name_cmp x y ≡ Less) (map (λ t. t.name) ts) → slice_get ts k ≡ Some t → table_name_cmp x t.name ≡ Less
  named_at x [] k t above at = absurd (cc)
  named_at x (u ∷ us) zero t above at = (let same : u ≡ t = grind (arith, at) in subst (λ v. table_name_cmp x v.name ≡ Less) same above.0)
  named_at x (u ∷ us) (suc k) t above at = named_at x us k t above.1 at

  pub uses_after : (ts : List Table) (k : ℕ) (t : Table) → slice_get ts k ≡ Some t → t.name ≡ name → IsStrictlySortedBy table_name_cmp (map (λ t. t.name) ts)
      → (n : ℕ) → refcounts_of (rows_put name stored ts) n ≡ uses_in stored n + refcounts_of (remove ts k) n
  uses_after [] k t at own rising n = absurd (cc)
  uses_after (u ∷ us) zero t at own rising n =
      let same : u ≡ t = grind (arith, at) in
      let named : u.name ≡ name = ap (λ v. v.name) same ∙ own in
      let changed = one_changed u (subst (λ m. bytes_eq u.name m ≡ true) named (bytes_same u.name)) in
      let above : AllByRecursion (λ y. table_name_cmp u.name y ≡ Less) (map (λ t. t.name) us) = sorted_head table_name_cmp u.name (map (λ t. t.name) us) rising in
      let kept = later_kept us (subst (λ m. AllByRecursion (λ y. table_name_cmp m y ≡ Less) (map (λ t. t.name) us)) named above) in
      ap₂ (λ (x : Table) (xs : List Table). refcounts_of (x ∷ xs) n) changed kept ∙ sum_by-cons (λ t. uses_in t.rows n) (record u { rows = stored }) us
  uses_after (u ∷ us) (suc k) t at own rising n =
      let above = sorted_head table_name_cmp u.name (map (λ t. t.name) us) rising in
      let less : table_name_cmp u.name name ≡ Less = subst (λ m. table_name_cmp u.name m ≡ Less) own (named_at u.name us k t above at) in
      let kept = other_kept u (more_differs u.name name less) in
      let rest = uses_after us k t at own (sorted_tail table_name_cmp u.name (map (λ t. t.name) us) rising) n in
      let front : refcounts_of (rows_put name stored (u ∷ us)) n ≡ uses_in u.rows n + refcounts_of (rows_put name stored us) n =
      ap (λ (x : Table). refcounts_of (x ∷ rows_put name stored us) n) kept ∙ sum_by-cons (λ t. uses_in t.rows n) u (rows_put name stored us) in
      let behind : refcounts_of (remove (u ∷ us) (suc k)) n ≡ uses_in u.rows n + refcounts_of (remove us k) n = sum_by-cons (λ t. uses_in t.rows n) u (remove us k) in
      omega (arith, front, behind, rest)

-- another table's uses are among those of all but the one
pub others_have : (ts : List Table) (k : ℕ) (t : Table) → slice_get ts k ≡ Some t → IsStrictlySortedBy table_name_cmp (map (λ t. t.name) ts)
    → (j : ℕ) (d : Table) → j < length ts → bytes_eq (get_or ts j d).name t.name ≡ false → (n : ℕ) → uses_in (get_or ts j d).rows n ≤ refcounts_of (remove ts k) n
others_have ts k t at rising j d within differs n =
    let all = uses_after t.name [] ts k t at refl rising n in
    let inside : j < length (rows_put t.name [] ts) = omega (arith, length-map ts (with_rows t.name []), within) in
    let most : uses_in (get_or (rows_put t.name [] ts) j d).rows n ≤ refcounts_of (rows_put t.name [] ts) n = get_or-le-sum_by (λ u. uses_in u.rows n) (rows_put t.name [] ts) j d inside in
    let here : get_or (rows_put t.name [] ts) j d ≡ get_or ts j d = get_or-map (with_rows t.name []) ts j d d within ∙ other_kept t.name [] (get_or ts j d) differs in
    let same : uses_in (get_or (rows_put t.name [] ts) j d).rows n ≡ uses_in (get_or ts j d).rows n = ap (λ (u : Table). uses_in u.rows n) here in
    let none : uses_in [] n ≡ 0 = refl in
    omega (arith, all, most, same, none)
