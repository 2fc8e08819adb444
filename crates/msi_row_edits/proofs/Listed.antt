-- Rows that were sorted beside their values are listed by their keys.
use Rattle.std.proofs.Common.{◌≡◌, ◌∙◌, ◌+◌, Bool, true, false, cond, List, [], ◌∷◌, map, length, refl, sym, ap, ap₂, subst, arith, Vec}
use Rattle.std.specs.Prelude.{drop, filter, IsTrue}
use Rattle.std.specs.Cmp.{IsStrictWeakOrder}
use Rattle.std.specs.Cmp.Lexicographic.{lists_total}
use Rattle.std.specs.List.{zip, All}
use Rattle.std.specs.List.Sorted.{ties, IsPermutation, IsSortedBy, IsStableBy}
use Rattle.std.specs.Ordering.{is_lt}
use Rattle.std.specs.declared.alloc.Global.{Global}
use Rattle.std.proofs.Math.ListN.{get_or-map}
use Rattle.std.proofs.lemmas.List.{length-map}
use Rattle.std.proofs.lemmas.List.Elements.{All-cons, All-head, All-map, All-nil, All-tail}
use Rattle.std.proofs.lemmas.List.Sorted.{ranks_by, All-permutation}
use Rattle.msi_columns.specs.Column.{Column}
use Rattle.msi_pool.specs.Pool.{Pool}
use Rattle.msi_pool.specs.declared.stringref.ValueRef.{ValueRef}
use Rattle.msi_tables.specs.Held.{rows_held}
use Rattle.msi_tables.specs.Rows.{can_write, kinds_of, AreRowsWritable, IsArranged, Row}
use Rattle.msi_tables.specs.Table.{key_cmp, key_values, row_data, row_key_cmp}
use Rattle.msi_tables.proofs.Arranged.{moved}
use Rattle.msi_tables.proofs.Keys.{datum_cmp_total, skipped}
use Rattle.msi_tables.proofs.StoredHeld.{sorted_map, stable_map}
use Rattle.msi_values.specs.Borrowed.{borrowed_data}
use Rattle.msi_values.specs.Datum.{Datum}
use Rattle.msi_values.specs.declared.borrowed.BorrowedValue.{BorrowedValue}
use Rattle.msi_row_edits.specs.Valued.{kept_less, kept_said, rows_said, values_cmp, RowWithValues}

-- a row beside its values
abbrev Said : Type 0
Said = List Datum × Row

module _ (columns : List Column) where
  abbrev lt : Said → Said → Bool
  lt a b = is_lt (values_cmp columns a b)

  said_order : IsStrictWeakOrder lt
  said_order = ranks_by (lists_total datum_cmp_total) (λ (p : Said). key_values columns p.0)

  pub kept_order : IsStrictWeakOrder (kept_less columns)
  kept_order = ranks_by (lists_total datum_cmp_total) (λ (p : RowWithValues). key_values columns (borrowed_data p.0.items))

  module _ (pool : Pool) where
    abbrev beside : Row → Said
    beside r = (row_data pool r, r)

    as_made : (zs : List Said) → All (λ z. z ≡ beside z.1) zs → zs ≡ map beside (map (λ z. z.1) zs)
    as_made [] all = refl
    as_made (z ∷ zs) all = ap₂ (λ (x : Said) (xs : List Said). x ∷ xs) (All-head (λ z. z ≡ beside z.1) z zs all) (as_made zs (All-tail (λ z. z ≡ beside z.1) z zs all))

    unmapped : (p : Said → Bool) (rs : List Row) → filter (λ r. p (beside r)) rs ≡ map (λ z. z.1) (filter p (map beside rs))
    unmapped p [] = refl
    unmapped p (r ∷ rs) = on (p (beside r)) (unmapped p rs)
      where
        on : (b : Bool) → filter (λ r. p (beside r)) rs ≡ map (λ z. z.1) (filter p (map beside rs))
            → cond b (r ∷ filter (λ r. p (beside r)) rs) (filter (λ r. p (beside r)) rs) ≡ map (λ z. z.1) (cond b (beside r ∷ filter p (map beside rs)) (filter p (map beside rs)))
        on true rest = ap (λ rs. r ∷ rs) rest
        on false rest = rest

    arranged : (rows : List Row) (zs : List Said) → IsSortedBy lt zs → IsStableBy lt (map beside rows) zs → IsArranged (row_key_cmp pool columns) rows (map (λ z. z.1) zs)
    arranged rows zs sorted stable = record { sorted = sorted_rows; stable = stable_rows }
      where
        ys : List Row
        ys = map (λ z. z.1) zs

        perm : IsPermutation (map beside rows) zs
        perm = moved lt said_order (length (map beside rows)) (map beside rows) zs (omega arith) stable

        same : zs ≡ map beside (map (λ z. z.1) zs)
        same = as_made zs (All-permutation (λ z. z ≡ beside z.1) (map beside rows) zs perm (All-map (λ z. z ≡ beside z.1) beside rows (λ k d within. refl)))

        sorted_rows : IsSortedBy (λ a b. is_lt (row_key_cmp pool columns a b)) (map (λ z. z.1) zs)
        sorted_rows = λ k d low high.
            let up : IsSortedBy lt (map beside (map (λ z. z.1) zs)) = subst (IsSortedBy lt) same sorted in
            let long : length (map beside (map (λ z. z.1) zs)) ≡ length (map (λ z. z.1) zs) = length-map (map (λ z. z.1) zs) beside in
            let here = up k (beside d) low (omega (arith, long, high)) in
            ap₂ lt (sym (get_or-map beside (map (λ z. z.1) zs) (k + 1) d)) (sym (get_or-map beside (map (λ z. z.1) zs) k d)) ∙ here

        stable_rows : IsStableBy (λ a b. is_lt (row_key_cmp pool columns a b)) rows (map (λ z. z.1) zs)
        stable_rows x =
            unmapped (ties lt (beside x)) (map (λ z. z.1) zs)
            ∙ ap (λ l. map (λ z. z.1) (filter (ties lt (beside x)) l)) (sym same)
            ∙ ap (map (λ z. z.1)) (stable (beside x))
            ∙ sym (unmapped (ties lt (beside x)) rows)

    -- ---- rows as they are kept

    rows_of_said : (kept : List RowWithValues) → map (λ z. z.1) (map kept_said kept) ≡ rows_held (map (λ p. p.1) kept)
    rows_of_said [] = refl
    rows_of_said (p ∷ ps) = ap (λ rs. p.1.items ∷ rs) (rows_of_said ps)

    paired_said : (values : List (Vec BorrowedValue Global)) (rows : List (Vec ValueRef Global)) → rows_said values ≡ map (row_data pool) (rows_held rows) → map kept_said (zip values rows) ≡ map beside (rows_held rows)
    paired_said [] [] said = refl
    paired_said [] (r ∷ rs) said = absurd (cc)
    paired_said (v ∷ vs) [] said = absurd (cc)
    paired_said (v ∷ vs) (r ∷ rs) said =
        let here : borrowed_data v.items ≡ row_data pool r.items = cc in
        let rest : rows_said vs ≡ map (row_data pool) (rows_held rs) = cc in
        ap₂ (λ (d : List Datum) (xs : List Said). (d, r.items) ∷ xs) here (paired_said vs rs rest)

    pub listed_by_values : (values : List (Vec BorrowedValue Global)) (rows listed : List (Vec ValueRef Global)) (old new : List RowWithValues) → rows_said values ≡ map (row_data pool) (rows_held rows)
        → old ≡ zip values rows → IsSortedBy (kept_less columns) new → IsStableBy (kept_less columns) old new → listed ≡ map (λ p. p.1) new
        → IsArranged (row_key_cmp pool columns) (rows_held rows) (rows_held listed)
    listed_by_values values rows listed old new said paired sorted stable alone =
        let view : map kept_said old ≡ map beside (rows_held rows) = ap (map kept_said) paired ∙ paired_said values rows said in
        let up : IsSortedBy lt (map kept_said new) = sorted_map kept_said lt new sorted in
        let kept : IsStableBy lt (map kept_said old) (map kept_said new) = stable_map kept_said lt said_order old new stable in
        subst (IsArranged (row_key_cmp pool columns) (rows_held rows)) (rows_of_said new ∙ ap rows_held (sym alone))
        (arranged (rows_held rows) (map kept_said new) up (subst (λ l. IsStableBy lt l (map kept_said new)) view kept))

  -- ---- what each row has each has still

  all_stay : (Has : Row → Type 0) (values : List (Vec BorrowedValue Global)) (rows listed : List (Vec ValueRef Global)) (old new : List RowWithValues) → old ≡ zip values rows → IsStableBy (kept_less columns) old new
      → listed ≡ map (λ p. p.1) new → All Has (rows_held rows) → All Has (rows_held listed)
  all_stay Has values rows listed old new paired stable alone all =
      let each : All (λ p. Has p.1.items) old = subst (All (λ p. Has p.1.items)) (sym paired) (of_pairs values rows all) in
      let after : All (λ p. Has p.1.items) new = All-permutation (λ p. Has p.1.items) old new (moved (kept_less columns) kept_order (length old) old new (omega arith) stable) each in
      subst (λ l. All Has (rows_held l)) (sym alone) (All-map Has (λ row. row.items) (map (λ p. p.1) new) (All-map (λ row. Has row.items) (λ p. p.1) new after))
    where
      of_pairs : (values : List (Vec BorrowedValue Global)) (rows : List (Vec ValueRef Global)) → All Has (rows_held rows) → All (λ p. Has p.1.items) (zip values rows)
      of_pairs [] rows all = All-nil (λ p. Has p.1.items)
      of_pairs (v ∷ vs) [] all = All-nil (λ p. Has p.1.items)
      of_pairs (v ∷ vs) (r ∷ rs) all = All-cons (λ p. Has p.1.items) (v, r) (zip vs rs) (All-head Has r.items (rows_held rs) all) (of_pairs vs rs (All-tail Has r.items (rows_held rs) all))

  pub writable_stay : (values : List (Vec BorrowedValue Global)) (rows listed : List (Vec ValueRef Global)) (old new : List RowWithValues) → old ≡ zip values rows → IsStableBy (kept_less columns) old new
      → listed ≡ map (λ p. p.1) new → (long : Bool) (all : List Column) → AreRowsWritable long all (rows_held rows) → AreRowsWritable long all (rows_held listed)
  writable_stay values rows listed old new paired stable alone long all are = record {
    cells = all_stay (λ row. length row ≡ length all) values rows listed old new paired stable alone are.cells;
    numbers = all_stay (λ row. IsTrue (can_write long (kinds_of all) row)) values rows listed old new paired stable alone are.numbers;
  }

-- ---- the comparison

rest_said : (values rest : List BorrowedValue) → rest ≡ drop 1 values → borrowed_data rest ≡ drop 1 (borrowed_data values)
rest_said [] rest is = rw is refl
rest_said (v ∷ vs) rest is = rw is refl

-- a column that belongs to no key is passed over
pub by_others : (columns others : List Column) (c : Column) (a b xs ys : List BorrowedValue) → columns ≡ c ∷ others → c.key ≡ false → xs ≡ drop 1 a → ys ≡ drop 1 b
    → key_cmp (key_values columns (borrowed_data a)) (key_values columns (borrowed_data b)) ≡ key_cmp (key_values others (borrowed_data xs)) (key_values others (borrowed_data ys))
by_others columns others c a b xs ys are out first second =
    let one : key_values (c ∷ others) (borrowed_data a) ≡ key_values others (borrowed_data xs) = skipped c others (borrowed_data a) out ∙ ap (key_values others) (sym (rest_said a xs first)) in
    let two : key_values (c ∷ others) (borrowed_data b) ≡ key_values others (borrowed_data ys) = skipped c others (borrowed_data b) out ∙ ap (key_values others) (sym (rest_said b ys second)) in
    rw are (ap₂ key_cmp one two)
