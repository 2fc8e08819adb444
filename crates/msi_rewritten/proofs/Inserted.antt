-- What an accepted insert makes of a package.
use Rattle.std.proofs.Common.{◌≡◌, ℕ, ◌<◌, ◌≤◌, Bool, false, List, map, length, subst, arith, Some, Result, Ok, Err}
use Rattle.std.specs.Prelude.{slice_get, IfOk, IsTrue}
use Rattle.std.specs.List.{list_all, remove, All}
use Rattle.std.proofs.lemmas.Option.{get_or_from_slice_get, slice_get_within}
use Rattle.cfb_medium.specs.declared.error.Error.{Error}
use Rattle.cfb_tree.specs.Names.{CaseTable}
use Rattle.cfb_tree.specs.Tree.{Tree}
use Rattle.msi_changes.specs.Changes.{inserted}
use Rattle.msi_changes.specs.Laws.{KeepsShape, KeepsUses}
use Rattle.msi_changes.proofs.Arrangements.{by_keys_alike}
use Rattle.msi_changes.proofs.InsertUses.{keeps_uses}
use Rattle.msi_changes.proofs.Shapes.{insert_shape}
use Rattle.msi_pool.specs.Pool.{Pool}
use Rattle.msi_pool.specs.PoolKept.{AreFreeEmpty}
use Rattle.msi_tables.specs.Rows.{has_place, max_rows, AreRowsWritable, Row}
use Rattle.msi_tables.specs.Schema.{columns_in, columns_name}
use Rattle.msi_tables.specs.Table.{row_data, IsStoredByKeys, Table}
use Rattle.msi_tables.proofs.Writable.{rows_move_by_keys}
use Rattle.msi_values.specs.Datum.{Datum}
use Rattle.msi_spec.specs.RoundTrips.{RowsRoundTrip}
use Rattle.msi_spec.specs.Calls.{is_system}
use Rattle.msi_spec.specs.Package.{rows_named, PackageContent}
use Rattle.msi_spec.specs.Sound.{refcounts_of}
use Rattle.msi_spec.specs.Split.{TreeStoresRest}
use Rattle.msi_spec.specs.Uses.{RefcountsAreExact}
use Rattle.msi_spec.proofs.StoredBack.{come_back}
use Rattle.msi_rewritten.specs.Rewriting.{ReplacesTableRows}
use Rattle.msi_rewritten.proofs.Before.{ordinary_rewrites, uses_before}
use Rattle.msi_rewritten.proofs.Columns.{few_after, have_columns}

-- what holds of an accepted result
pub of_ok : {A : Type 0} (r : Result A Error) (Has : A → Type 0) (x : A) → r ≡ Ok x → IfOk r Has → Has x
of_ok (Ok y) Has x is h = (let same : y ≡ x = grind (arith, is) in subst Has same h)
of_ok (Err e) Has x is h = absurd (cc)

module _ (letters : CaseTable) (tree : Tree) (P : PackageContent) (stores : TreeStoresRest letters tree P) (k : ℕ) (t : Table) (at : slice_get P.tables k ≡ Some t) where
  module _ (counted : RefcountsAreExact P.pool P.tables) (free : AreFreeEmpty P.pool.places) (ordinary : is_system t.name ≡ false)
      (may : Bool) (new_rows : List (List Datum)) (after : List Row × Pool) (is : inserted may P.pool t new_rows ≡ Ok after) (stored : List Row) (by_keys : IsStoredByKeys after.1 t.columns after.0 stored) where
    pub insert_rewrites : ReplacesTableRows P k t stored after.1
    insert_rewrites =
        let uses = uses_before letters tree P stores counted k t at in
        ordinary_rewrites P k t at ordinary free after
        (of_ok (inserted may P.pool t new_rows) (KeepsUses P.pool t.columns (refcounts_of (remove P.tables k))) after is (keeps_uses may P.pool t new_rows (refcounts_of (remove P.tables k)) uses))
        (of_ok (inserted may P.pool t new_rows) (KeepsShape P.pool t) after is (insert_shape may P.pool t new_rows))
        stored (by_keys_alike after.1 (record t { rows = after.0 }) stored by_keys)

  pub table_columns : 0 < length t.columns
  table_columns =
      have_columns (rows_named P columns_name) (map (row_data P.pool) stores.validation) t
      (subst (λ (u : Table). columns_in (rows_named P columns_name) (map (row_data P.pool) stores.validation) u.name ≡ Some u.columns) (get_or_from_slice_get P.tables k t t at) (stores.columns k t (slice_get_within P.tables k t at)))

  pub inserted_come_back : (may : Bool) (new_rows : List (List Datum)) (after : List Row × Pool) → inserted may P.pool t new_rows ≡ Ok after → AreRowsWritable P.pool.long t.columns after.0
      → All (λ row. IsTrue (list_all has_place row)) after.0 → (stored : List Row) → IsStoredByKeys after.1 t.columns after.0 stored → RowsRoundTrip P.pool.long t.columns stored
  inserted_come_back may new_rows after is writable places stored by_keys =
      come_back P.pool.long t.columns after.0 stored (rows_move_by_keys after.1 t.columns after.0 stored by_keys)
      (record { columns_there = table_columns; few = of_ok (inserted may P.pool t new_rows) (λ a. length a.0 ≤ max_rows) after is (few_after may P.pool t new_rows); writable = writable; places = places })
