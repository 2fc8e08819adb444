-- What an accepted update or delete makes of a package.
use Rattle.std.proofs.Common.{◌≡◌, ℕ, zero, suc, ◌≤◌, Bool, true, false, List, [], length, get_or, map, refl, sym, ap, subst, arith, Some, None, Result, Ok, Err}
use Rattle.std.specs.Prelude.{◌&&◌, ◌||◌, bytes_eq, filter, if◌then◌else◌, nat_le, not, slice_get, unwrap_or, All, IsTrue, Option}
use Rattle.std.specs.List.{list_all, remove}
use Rattle.std.proofs.lemmas.Bool.{and_parts}
use Rattle.std.proofs.lemmas.Bool.Decides.{nat_tests}
use Rattle.std.proofs.lemmas.List.{length-map}
use Rattle.std.proofs.lemmas.List.Filters.{length-filter_both}
use Rattle.std.proofs.lemmas.List.Sorted.{IsPermutation-map}
use Rattle.std.proofs.lemmas.Option.{get_or_from_slice_get, slice_get_within}
use Rattle.cfb_medium.specs.declared.error.Error.{Error}
use Rattle.cfb_medium.specs.declared.error.Error.TheVariants.{AlreadyExists, InvalidInput}
use Rattle.cfb_tree.specs.Names.{CaseTable}
use Rattle.cfb_tree.specs.Tree.{Tree}
use Rattle.msi_changes.specs.Changes.{deleted, is_valid_set, keys_after, rows_set, sets_key, updated, values_after}
use Rattle.msi_changes.specs.Laws.{KeepsShape, KeepsUses, LeavesRows, SetsCells}
use Rattle.msi_changes.proofs.Arrangements.{stored_alike}
use Rattle.msi_changes.proofs.DeleteLaw.{leaves_rows}
use Rattle.msi_changes.proofs.Shapes.{delete_shape, update_shape}
use Rattle.msi_changes.proofs.UpdateLaw.{sets_cells}
use Rattle.msi_columns.specs.Column.{column_place}
use Rattle.msi_columns.specs.declared.column.ColumnType.{ColumnType}
use Rattle.msi_expr.specs.Conditions.{knows_condition, matches}
use Rattle.msi_expr.specs.Formula.{Formula}
use Rattle.msi_pool.specs.Pool.{Pool}
use Rattle.msi_pool.specs.PoolKept.{AreFreeEmpty}
use Rattle.msi_tables.specs.Rows.{has_place, kinds_of, max_rows, numbers_from, row_at, row_count, rows_of, AreRowsWritable, IsStored, Row}
use Rattle.msi_tables.specs.Schema.{columns_name, tables_name, validation_name}
use Rattle.msi_tables.specs.Table.{are_distinct, row_data, Table}
use Rattle.msi_tables.proofs.Writable.{stored_rows_move}
use Rattle.msi_texts.specs.Results.{◌>>=◌, unless_not}
use Rattle.msi_values.specs.Datum.{Datum}
use Rattle.msi_spec.specs.RoundTrips.{RowsRoundTrip}
use Rattle.msi_spec.specs.Calls.{is_column_at, is_system, may_update}
use Rattle.msi_spec.specs.Package.{PackageContent}
use Rattle.msi_spec.specs.Sound.{refcounts_of}
use Rattle.msi_spec.specs.Split.{TreeStoresRest}
use Rattle.msi_spec.specs.Uses.{RefcountsAreExact}
use Rattle.msi_spec.proofs.StoredBack.{come_back}
use Rattle.msi_spec.proofs.SystemRows.{same_bytes}
use Rattle.msi_rewritten.specs.Rewriting.{ReplacesTableRows}
use Rattle.msi_rewritten.proofs.Before.{ordinary_rewrites, rewrites, uses_before}
use Rattle.msi_rewritten.proofs.Described.{descriptions_alike}
use Rattle.msi_rewritten.proofs.Inserted.{of_ok, table_columns}

-- an update that is accepted was allowed
was_allowed : (may : Bool) (pool : Pool) (t : Table) (sets : List (List ℕ × Datum)) (condition : Option Formula) (after : List Row × Pool) → updated may pool t sets condition ≡ Ok after → may ≡ true
was_allowed may pool t sets condition after is = by (first && may) refl is
  where
    first : Bool
    first = list_all (is_valid_set t.columns) sets && knows_condition t.columns condition

    by : (b : Bool) → (first && may) ≡ b
        → (◌≡◌ {A = Result (List Row × Pool) Error}
        (unless_not b InvalidInput >>= λ _. unless_not (not (sets_key t.columns sets) || are_distinct (keys_after pool t sets condition)) AlreadyExists >>= λ _.
        rows_set t.columns pool sets (map (λ row. (row, matches pool t.columns condition row)) t.rows)) (Ok after)) → may ≡ true
    by true both e = (and_parts first may both).1
    by false both e = (let never : Err InvalidInput ≡ Ok after = e in absurd (cc))

-- _Validation is none of the other two
not_listed : (name : List ℕ) → bytes_eq name validation_name ≡ true → (bytes_eq name tables_name || bytes_eq name columns_name) ≡ false
not_listed name is = subst (λ n. (bytes_eq n tables_name || bytes_eq n columns_name) ≡ false) (sym (same_bytes name validation_name is)) refl

length_numbers : (a n : ℕ) → length (numbers_from a n) ≡ n
length_numbers a zero = refl
length_numbers a (suc n) = ap suc (length_numbers (suc a) n)

-- rows that are read are few
few_read : (long : Bool) (ks : List ColumnType) (bytes : List ℕ) (rows : List Row) → rows_of long ks bytes ≡ Some rows → length rows ≤ max_rows
few_read long ks bytes rows read = by (nat_le n max_rows) refl read
  where
    n : ℕ
    n = row_count long ks bytes

    by : (b : Bool) → nat_le n max_rows ≡ b → (if b then Some (map (row_at long n bytes 0 ks) (numbers_from 0 n)) else None) ≡ Some rows → length rows ≤ max_rows
    by false e is = (let never : None ≡ Some rows = is in absurd (cc))
    by true e is =
        let same : length (map (row_at long n bytes 0 ks) (numbers_from 0 n)) ≡ length rows = ap (λ o. length (unwrap_or o [])) is in
        let few : n ≤ 65536 = grind (arith, nat_tests, e) in
        omega (arith, same, few, length-map (numbers_from 0 n) (row_at long n bytes 0 ks), length_numbers 0 n)

module _ (letters : CaseTable) (tree : Tree) (P : PackageContent) (stores : TreeStoresRest letters tree P) (k : ℕ) (t : Table) (at : slice_get P.tables k ≡ Some t) where
  -- ---- what the pool counts

  module _ (counted : RefcountsAreExact P.pool P.tables) (free : AreFreeEmpty P.pool.places) where
    abbrev others : ℕ → ℕ
    others = refcounts_of (remove P.tables k)

    pub delete_rewrites : is_system t.name ≡ false → (may : Bool) (condition : Option Formula) (after : List Row × Pool) → deleted may P.pool t condition ≡ Ok after
        → (stored : List Row) → IsStored t.columns after.0 stored → ReplacesTableRows P k t stored after.1
    delete_rewrites ordinary may condition after is stored order =
        ordinary_rewrites P k t at ordinary free after
        (of_ok (deleted may P.pool t condition) (λ a. LeavesRows P.pool t condition a × KeepsUses P.pool t.columns others a) after is (leaves_rows may P.pool t condition others (uses_before letters tree P stores counted k t at))).1
        (of_ok (deleted may P.pool t condition) (KeepsShape P.pool t) after is (delete_shape may P.pool t condition))
        stored (stored_alike after.1 (record t { rows = after.0 }) stored order)

    pub update_rewrites : (sets : List (List ℕ × Datum)) (condition : Option Formula) (after : List Row × Pool) → updated (may_update t.name t.columns sets) P.pool t sets condition ≡ Ok after
        → (stored : List Row) → IsStored t.columns after.0 stored → ReplacesTableRows P k t stored after.1
    update_rewrites sets condition after is stored order = by (is_system t.name) refl (was_allowed may P.pool t sets condition after is)
      where
        may : Bool
        may = may_update t.name t.columns sets

        sets_both : SetsCells P.pool t sets condition after × KeepsUses P.pool t.columns others after
        sets_both = of_ok (updated may P.pool t sets condition) (λ a. SetsCells P.pool t sets condition a × KeepsUses P.pool t.columns others a) after is (sets_cells may P.pool t sets condition others (uses_before letters tree P stores counted k t at))

        shape : KeepsShape P.pool t after
        shape = of_ok (updated may P.pool t sets condition) (KeepsShape P.pool t) after is (update_shape may P.pool t sets condition)

        descriptions : Bool
        descriptions = list_all (λ s. is_column_at 9 (column_place t.columns s.0)) sets

        by : (b : Bool) → is_system t.name ≡ b → (not b || (bytes_eq t.name validation_name && descriptions)) ≡ true → ReplacesTableRows P k t stored after.1
        by false ordinary allowed = ordinary_rewrites P k t at ordinary free after sets_both.1 shape stored (stored_alike after.1 (record t { rows = after.0 }) stored order)
        by true system allowed =
            let both = and_parts (bytes_eq t.name validation_name) descriptions allowed in
            rewrites P k t at free after sets_both.1 shape stored (stored_alike after.1 (record t { rows = after.0 }) stored order) (not_listed t.name both.0)
            (λ _. descriptions_alike t.columns P.pool sets condition both.1 t.rows (map (row_data after.1) after.0) (map (row_data after.1) stored) sets_both.0.rows
            (IsPermutation-map (row_data after.1) after.0 stored (stored_rows_move t.columns after.0 stored order)))

  -- ---- rows that come back

  few_there : length t.rows ≤ max_rows
  few_there =
      subst (λ (u : Table). length u.rows ≤ max_rows) (get_or_from_slice_get P.tables k t t at)
      (few_read P.pool.long (kinds_of (get_or P.tables k t).columns) _ (get_or P.tables k t).rows (stores.rows k t (slice_get_within P.tables k t at)))

  few_back : (after stored : List Row) → length after ≤ length t.rows → AreRowsWritable P.pool.long t.columns after → All (λ row. IsTrue (list_all has_place row)) after → IsStored t.columns after stored
      → RowsRoundTrip P.pool.long t.columns stored
  few_back after stored few writable places order =
      come_back P.pool.long t.columns after stored (stored_rows_move t.columns after stored order)
      (record { columns_there = table_columns letters tree P stores k t at; few = (let most = few_there in omega (arith, few, most)); writable = writable; places = places })

  module _ (counted : RefcountsAreExact P.pool P.tables) (may : Bool) (condition : Option Formula) (after : List Row × Pool) (stored : List Row)
      (writable : AreRowsWritable P.pool.long t.columns after.0) (places : All (λ row. IsTrue (list_all has_place row)) after.0) (order : IsStored t.columns after.0 stored) where
    pub deleted_come_back : deleted may P.pool t condition ≡ Ok after → RowsRoundTrip P.pool.long t.columns stored
    deleted_come_back is =
        let others = refcounts_of (remove P.tables k) in
        let leaves = (of_ok (deleted may P.pool t condition) (λ a. LeavesRows P.pool t condition a × KeepsUses P.pool t.columns others a) after is (leaves_rows may P.pool t condition others (uses_before letters tree P stores counted k t at))).0 in
        let many : length (map (row_data after.1) after.0) ≡ length (map (row_data P.pool) (filter (λ row. not (matches P.pool t.columns condition row)) t.rows)) = ap length leaves.rows in
        let parts = length-filter_both (matches P.pool t.columns condition) (λ row. not (matches P.pool t.columns condition row)) (λ x. refl) t.rows in
        few_back after.0 stored
        (omega (arith, many, parts, length-map after.0 (row_data after.1), length-map (filter (λ row. not (matches P.pool t.columns condition row)) t.rows) (row_data P.pool))) writable places order

    pub updated_come_back : (sets : List (List ℕ × Datum)) → updated may P.pool t sets condition ≡ Ok after → RowsRoundTrip P.pool.long t.columns stored
    updated_come_back sets is =
        let others = refcounts_of (remove P.tables k) in
        let given = (of_ok (updated may P.pool t sets condition) (λ a. SetsCells P.pool t sets condition a × KeepsUses P.pool t.columns others a) after is (sets_cells may P.pool t sets condition others (uses_before letters tree P stores counted k t at))).0 in
        let many = ap length given.rows in
        few_back after.0 stored (omega (arith, many, length-map after.0 (row_data after.1), length-map t.rows (values_after P.pool t.columns sets condition))) writable places order
