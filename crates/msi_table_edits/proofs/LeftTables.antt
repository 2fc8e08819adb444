-- The tables that are left where those of a name are dropped, of which three get other rows.
use Rattle.std.proofs.Common.{◌≡◌, ◌∙◌, ℕ, zero, suc, ◌+◌, Bool, true, false, cond, List, [], ◌∷◌, map, get_or, Some, None, inl, inr, refl, sym, ap, subst, arith}
use Rattle.std.specs.Prelude.{◌⊎◌, bytes_eq, filter, not, option_map, Contains, Option}
use Rattle.std.specs.List.{All, remove}
use Rattle.std.specs.List.Sorted.{IsStrictlySortedBy}
use Rattle.std.proofs.lemmas.List.Elements.{All-cons, All-head, All-map, All-nil, All-tail}
use Rattle.std.proofs.lemmas.List.Sums.{sum_by-cons, sum_by-remove}
use Rattle.std.proofs.lemmas.Option.{slice_get-get_or}
use Rattle.msi_changes.specs.Laws.{uses_in}
use Rattle.msi_tables.specs.Rows.{Row}
use Rattle.msi_tables.specs.Schema.{columns_name, tables_name, validation_name}
use Rattle.msi_tables.specs.Table.{table_named, Table}
use Rattle.msi_spec.specs.Calls.{rows_put, with_rows}
use Rattle.msi_spec.specs.Package.{table_name_cmp}
use Rattle.msi_spec.specs.Sound.{refcounts_of}
use Rattle.msi_spec.proofs.SystemRows.{same_bytes}
use Rattle.msi_rewritten.proofs.Put.{names_differ}
use Rattle.msi_rewritten.proofs.Stored.{found_at}
use Rattle.msi_rewritten.proofs.Tables.{columns_kept, found_after, name_kept, names_kept, one_changed, other_kept, uses_after}
use Rattle.msi_table_edits.proofs.Without.{found_left, rises_left}

-- ---- tables that are found by their names

-- what all have the one that is found has
pub held : (Has : Table → Type 0) (ts : List Table) → All Has ts → (m : List ℕ) (u : Table) → table_named ts m ≡ Some u → Has u
held Has ts all m u is = let at = found_at ts m u is in subst Has at.2 (all at.0 u at.1)

-- one is found where one has the name
pub named_of : (m : List ℕ) (ts : List Table) → Contains (map (λ t. t.name) ts) m → (u : Table) × (table_named ts m ≡ Some u)
named_of m [] h = let below = h.1 in absurd (omega (arith, below))
named_of m (t ∷ ts) h = by (bytes_eq t.name m) refl (cases h) (named_of m ts)
  where
    cases : Contains (map (λ t. t.name) (t ∷ ts)) m → (t.name ≡ m) ⊎ Contains (map (λ t. t.name) ts) m
    cases (zero, below, is) = inl is
    cases (suc k, below, is) = inr (k, omega (arith, below), is)

    by : (b : Bool) → bytes_eq t.name m ≡ b → (t.name ≡ m) ⊎ Contains (map (λ t. t.name) ts) m → (Contains (map (λ t. t.name) ts) m → (u : Table) × (table_named ts m ≡ Some u))
        → (u : Table) × (table_named (t ∷ ts) m ≡ Some u)
    by true is there rest = (t, ap (λ b. cond b (Some t) (table_named ts m)) is)
    by false is (inl same) rest = absurd (names_differ t.name m is same)
    by false is (inr there) rest = let u = rest there in (u.0, ap (λ b. cond b (Some t) (table_named ts m)) is ∙ u.1)

-- another table is found as before where one gets rows
pub found_beside : (n : List ℕ) (stored : List Row) (m : List ℕ) (ts : List Table) (u : Table) → table_named ts m ≡ Some u → bytes_eq m n ≡ false → table_named (rows_put n stored ts) m ≡ Some u
found_beside n stored m ts u is apart =
    found_after n stored m ts ∙ ap (option_map (with_rows n stored)) is
    ∙ ap (λ w. Some w) (other_kept n stored u (ap (λ k. bytes_eq k n) (found_at ts m u is).3 ∙ apart))

-- ---- uses of one table's rows

put_uses : (m : List ℕ) (stored : List Row) (ts : List Table) (u : Table) → table_named ts m ≡ Some u → IsStrictlySortedBy table_name_cmp (map (λ t. t.name) ts) → (n : ℕ)
    → refcounts_of (rows_put m stored ts) n + uses_in u.rows n ≡ refcounts_of ts n + uses_in stored n
put_uses m stored ts u is rising n =
    let at = found_at ts m u is in
    let put : refcounts_of (rows_put m stored ts) n ≡ uses_in stored n + refcounts_of (remove ts at.0) n =
    uses_after m stored ts at.0 u (slice_get-get_or ts at.0 u at.1 ∙ ap (λ w. Some w) at.2) at.3 rising n in
    let all : refcounts_of (remove ts at.0) n + uses_in (get_or ts at.0 u).rows n ≡ refcounts_of ts n = sum_by-remove (λ t. uses_in t.rows n) ts at.0 u at.1 in
    let same : uses_in (get_or ts at.0 u).rows n ≡ uses_in u.rows n = ap (λ (w : Table). uses_in w.rows n) at.2 in
    omega (arith, put, all, same)

rises_put : (m : List ℕ) (stored : List Row) (ts : List Table) → IsStrictlySortedBy table_name_cmp (map (λ t. t.name) ts) → IsStrictlySortedBy table_name_cmp (map (λ t. t.name) (rows_put m stored ts))
rises_put m stored ts rising = subst (IsStrictlySortedBy table_name_cmp) (sym (names_kept m stored (λ n. n) ts)) rising

-- ---- the three that get rows, and the one that is gone

module _ (name : List ℕ) where
  abbrev pub other : Table → Bool
  other u = not (bytes_eq u.name name)

  -- without rows it has no use
  emptied : (ts : List Table) (n : ℕ) → refcounts_of (rows_put name [] ts) n ≡ refcounts_of (filter other ts) n
  emptied [] n = refl
  emptied (u ∷ us) n = sum_by-cons (λ t. uses_in t.rows n) (with_rows name [] u) (rows_put name [] us) ∙ by (bytes_eq u.name name) refl (emptied us n)
    where
      by : (b : Bool) → bytes_eq u.name name ≡ b → refcounts_of (rows_put name [] us) n ≡ refcounts_of (filter other us) n
          → uses_in (with_rows name [] u).rows n + refcounts_of (rows_put name [] us) n ≡ refcounts_of (cond (not b) (u ∷ filter other us) (filter other us)) n
      by true is rest =
          let none : uses_in (with_rows name [] u).rows n ≡ 0 = ap (λ (w : Table). uses_in w.rows n) (one_changed name [] u is) in
          omega (arith, none, rest)
      by false is rest =
          let same : uses_in (with_rows name [] u).rows n ≡ uses_in u.rows n = ap (λ (w : Table). uses_in w.rows n) (other_kept name [] u is) in
          omega (arith, same, rest, sum_by-cons (λ t. uses_in t.rows n) u (filter other us))

  left_uses : (ts : List Table) (u : Table) → table_named ts name ≡ Some u → IsStrictlySortedBy table_name_cmp (map (λ t. t.name) ts) → (n : ℕ) → refcounts_of (filter other ts) n + uses_in u.rows n ≡ refcounts_of ts n
  left_uses ts u is rising n =
      let none : uses_in [] n ≡ 0 = refl in
      omega (arith, emptied ts n, put_uses name [] ts u is rising n, none)

  -- what all others have
  passed : (Has : Table → Type 0) (ts : List Table) → All (λ u. bytes_eq u.name name ≡ false → Has u) ts → All Has (filter other ts)
  passed Has [] all = All-nil Has
  passed Has (u ∷ us) all =
      by (bytes_eq u.name name) refl (All-head (λ u. bytes_eq u.name name ≡ false → Has u) u us all) (passed Has us (All-tail (λ u. bytes_eq u.name name ≡ false → Has u) u us all))
    where
      by : (b : Bool) → bytes_eq u.name name ≡ b → (bytes_eq u.name name ≡ false → Has u) → All Has (filter other us) → All Has (cond (not b) (u ∷ filter other us) (filter other us))
      by true is here rest = rest
      by false is here rest = All-cons Has u (filter other us) (here is) rest

  module _ (c t v : List Row) where
    abbrev pub changed : Table → Table
    changed u = with_rows columns_name c (with_rows tables_name t (with_rows validation_name v u))

    abbrev pub tables_left : List Table → List Table
    tables_left ts = rows_put columns_name c (rows_put tables_name t (rows_put validation_name v (filter other ts)))

    pub changed_name : (u : Table) → (changed u).name ≡ u.name
    changed_name u = name_kept columns_name c (with_rows tables_name t (with_rows validation_name v u)) ∙ name_kept tables_name t (with_rows validation_name v u) ∙ name_kept validation_name v u

    pub changed_columns : (u : Table) → (changed u).columns ≡ u.columns
    changed_columns u = columns_kept columns_name c (with_rows tables_name t (with_rows validation_name v u)) ∙ columns_kept tables_name t (with_rows validation_name v u) ∙ columns_kept validation_name v u

    -- ---- each of the three, and any other

    pub at_columns : (u : Table) → u.name ≡ columns_name → changed u ≡ record u { rows = c }
    at_columns u is =
        ap (λ w. with_rows columns_name c (with_rows tables_name t w)) (other_kept validation_name v u (ap (λ n. bytes_eq n validation_name) is))
        ∙ ap (with_rows columns_name c) (other_kept tables_name t u (ap (λ n. bytes_eq n tables_name) is))
        ∙ one_changed columns_name c u (ap (λ n. bytes_eq n columns_name) is)

    pub at_tables : (u : Table) → u.name ≡ tables_name → changed u ≡ record u { rows = t }
    at_tables u is =
        ap (λ w. with_rows columns_name c (with_rows tables_name t w)) (other_kept validation_name v u (ap (λ n. bytes_eq n validation_name) is))
        ∙ ap (with_rows columns_name c) (one_changed tables_name t u (ap (λ n. bytes_eq n tables_name) is))
        ∙ other_kept columns_name c (record u { rows = t }) (ap (λ n. bytes_eq n columns_name) is)

    pub at_validation : (u : Table) → u.name ≡ validation_name → changed u ≡ record u { rows = v }
    at_validation u is =
        ap (λ w. with_rows columns_name c (with_rows tables_name t w)) (one_changed validation_name v u (ap (λ n. bytes_eq n validation_name) is))
        ∙ ap (with_rows columns_name c) (other_kept tables_name t (record u { rows = v }) (ap (λ n. bytes_eq n tables_name) is))
        ∙ other_kept columns_name c (record u { rows = v }) (ap (λ n. bytes_eq n columns_name) is)

    at_other : (u : Table) → bytes_eq u.name columns_name ≡ false → bytes_eq u.name tables_name ≡ false → bytes_eq u.name validation_name ≡ false → changed u ≡ u
    at_other u a b d =
        ap (λ w. with_rows columns_name c (with_rows tables_name t w)) (other_kept validation_name v u d)
        ∙ ap (with_rows columns_name c) (other_kept tables_name t u b)
        ∙ other_kept columns_name c u a

    pub each_changed : (Has : Table → Type 0) (u : Table) → (u.name ≡ columns_name → Has (record u { rows = c })) → (u.name ≡ tables_name → Has (record u { rows = t }))
        → (u.name ≡ validation_name → Has (record u { rows = v })) → (bytes_eq u.name columns_name ≡ false → bytes_eq u.name tables_name ≡ false → bytes_eq u.name validation_name ≡ false → Has u) → Has (changed u)
    each_changed Has u one two three rest = by (bytes_eq u.name columns_name) refl (bytes_eq u.name tables_name) refl (bytes_eq u.name validation_name) refl
      where
        by : (a : Bool) → bytes_eq u.name columns_name ≡ a → (b : Bool) → bytes_eq u.name tables_name ≡ b → (d : Bool) → bytes_eq u.name validation_name ≡ d → Has (changed u)
        by true e b f d g = let is = same_bytes u.name columns_name e in subst Has (sym (at_columns u is)) (one is)
        by false e true f d g = let is = same_bytes u.name tables_name f in subst Has (sym (at_tables u is)) (two is)
        by false e false f true g = let is = same_bytes u.name validation_name g in subst Has (sym (at_validation u is)) (three is)
        by false e false f false g = subst Has (sym (at_other u e f g)) (rest e f g)

    -- ---- all of them

    pub all_left : (Has : Table → Type 0) (ts : List Table) → All (λ u. bytes_eq u.name name ≡ false → Has (changed u)) ts → All Has (tables_left ts)
    all_left Has ts all =
        All-map Has (with_rows columns_name c) (rows_put tables_name t (rows_put validation_name v (filter other ts)))
        (All-map (λ u. Has (with_rows columns_name c u)) (with_rows tables_name t) (rows_put validation_name v (filter other ts))
        (All-map (λ u. Has (with_rows columns_name c (with_rows tables_name t u))) (with_rows validation_name v) (filter other ts) (passed (λ u. Has (changed u)) ts all)))

    pub names_in_left : {X : Type 0} (f : List ℕ → X) (ts : List Table) → map (λ u. f u.name) (tables_left ts) ≡ map (λ u. f u.name) (filter other ts)
    names_in_left f ts =
        names_kept columns_name c f (rows_put tables_name t (rows_put validation_name v (filter other ts)))
        ∙ names_kept tables_name t f (rows_put validation_name v (filter other ts)) ∙ names_kept validation_name v f (filter other ts)

    pub rising_left : (ts : List Table) → IsStrictlySortedBy table_name_cmp (map (λ u. u.name) ts) → IsStrictlySortedBy table_name_cmp (map (λ u. u.name) (tables_left ts))
    rising_left ts rising = subst (IsStrictlySortedBy table_name_cmp) (sym (names_in_left (λ n. n) ts)) (rises_left name ts rising)

    pub found_in_left : (m : List ℕ) → bytes_eq name m ≡ false → (ts : List Table) → table_named (tables_left ts) m ≡ option_map changed (table_named ts m)
    found_in_left m apart ts =
        found_after columns_name c m (rows_put tables_name t (rows_put validation_name v (filter other ts)))
        ∙ ap (option_map (with_rows columns_name c)) (found_after tables_name t m (rows_put validation_name v (filter other ts)))
        ∙ ap (λ o. option_map (with_rows columns_name c) (option_map (with_rows tables_name t) o)) (found_after validation_name v m (filter other ts))
        ∙ ap (λ o. option_map (with_rows columns_name c) (option_map (with_rows tables_name t) (option_map (with_rows validation_name v) o))) (found_left name m apart ts)
        ∙ joined (table_named ts m)
      where
        joined : (o : Option Table) → option_map (with_rows columns_name c) (option_map (with_rows tables_name t) (option_map (with_rows validation_name v) o)) ≡ option_map changed o
        joined None = refl
        joined (Some u) = refl

    -- their uses, where each was there: those of other rows in place of their own, and without those of the one that is gone
    pub uses_left : (ts : List Table) → IsStrictlySortedBy table_name_cmp (map (λ u. u.name) ts)
        → (a b d e : Table) → table_named ts columns_name ≡ Some a → table_named ts tables_name ≡ Some b → table_named ts validation_name ≡ Some d → table_named ts name ≡ Some e
        → bytes_eq name columns_name ≡ false → bytes_eq name tables_name ≡ false → bytes_eq name validation_name ≡ false → (n : ℕ)
        → refcounts_of (tables_left ts) n + uses_in a.rows n + uses_in b.rows n + uses_in d.rows n + uses_in e.rows n ≡ refcounts_of ts n + uses_in c n + uses_in t n + uses_in v n
    uses_left ts rising a b d e at_a at_b at_d at_e not_a not_b not_d n =
        let first : List Table = filter other ts in
        let second : List Table = rows_put validation_name v first in
        let third : List Table = rows_put tables_name t second in
        let rises = rises_left name ts rising in
        let also = rises_put validation_name v first rises in
        let gone = left_uses ts e at_e rising n in
        let one = put_uses validation_name v first d (found_left name validation_name not_d ts ∙ at_d) rises n in
        let two = put_uses tables_name t second b (found_beside validation_name v tables_name first b (found_left name tables_name not_b ts ∙ at_b) refl) also n in
        let three = put_uses columns_name c third a
        (found_beside tables_name t columns_name second a (found_beside validation_name v columns_name first a (found_left name columns_name not_a ts ∙ at_a) refl) refl)
        (rises_put tables_name t second also) n in
        omega (arith, gone, one, two, three)
