-- What each call that changes tables makes of a package, and what it answers, is settled.
use Rattle.std.proofs.Common.{◌≡◌, ℕ, List, sym, ap, ◌∙◌}
use Rattle.std.specs.Prelude.{Option, Result, Ok, Err}
use Rattle.msi_values.specs.Datum.{Datum}
use Rattle.msi_tables.specs.Rows.{Row, IsStored}
use Rattle.msi_tables.proofs.Stored.{stored_once}
use Rattle.msi_tables.proofs.Keys.{stored_by_keys_once}
use Rattle.msi_tables.specs.Table.{IsStoredByKeys, Table}
use Rattle.msi_expr.specs.Formula.{Formula}
use Rattle.msi_changes.specs.Changes.{inserted, updated, deleted}
use Rattle.std.specs.Prelude.{not, bytes_eq, filter, is_none}
use Rattle.msi_pool.specs.Pool.{Pool}
use Rattle.msi_columns.specs.Column.{Column}
use Rattle.msi_tables.specs.Schema.{tables_name, columns_name, validation_name, tables_columns, columns_columns}
use Rattle.cfb_tree.specs.Names.{CaseTable}
use Rattle.msi_spec.specs.Package.{PackageContent, at_name, stream_name}
use Rattle.msi_spec.specs.Calls.{EndsRefusedOrBy, Change, PackagePuts, rows_put, Inserts, Updates, Deletes, Creates, Drops, change, may_insert, may_update, created, dropped, own_columns, Rows3, new_table, table_put, rows_beside}
use Rattle.cfb_medium.specs.declared.error.Error.{Error}

module _ (P Q R : PackageContent) (a b : Result (Unit {0}) Error) (name : List ℕ) where
  -- the same stored rows make the same package
  same_put : (x : Change) (one other : List Row) → one ≡ other → PackagePuts P name x one Q → PackagePuts P name x other R → Q ≡ R
  same_put x one other same h k = h ∙ ap (λ (stored : List Row). record P { pool = x.pool; tables = rows_put name stored P.tables }) same ∙ sym k

  by_keys : (r : Result Change Error) →
      EndsRefusedOrBy r P Q a (λ x. (stored : List Row) × IsStoredByKeys x.pool x.table.columns x.rows stored × PackagePuts P name x stored Q) →
      EndsRefusedOrBy r P R b (λ x. (stored : List Row) × IsStoredByKeys x.pool x.table.columns x.rows stored × PackagePuts P name x stored R) → (Q ≡ R) × (a ≡ b)
  by_keys (Err e) h k = (h.0 ∙ sym k.0, h.1 ∙ sym k.1)
  by_keys (Ok x) h k = (same_put x h.1.0 k.1.0 (stored_by_keys_once x.pool x.table.columns x.rows h.1.0 k.1.0 h.1.1 k.1.1) h.1.2 k.1.2, h.0 ∙ sym k.0)

  by_order : (r : Result Change Error) →
      EndsRefusedOrBy r P Q a (λ x. (stored : List Row) × IsStored x.table.columns x.rows stored × PackagePuts P name x stored Q) →
      EndsRefusedOrBy r P R b (λ x. (stored : List Row) × IsStored x.table.columns x.rows stored × PackagePuts P name x stored R) → (Q ≡ R) × (a ≡ b)
  by_order (Err e) h k = (h.0 ∙ sym k.0, h.1 ∙ sym k.1)
  by_order (Ok x) h k = (same_put x h.1.0 k.1.0 (stored_once x.table.columns x.rows h.1.0 k.1.0 h.1.1 k.1.1) h.1.2 k.1.2, h.0 ∙ sym k.0)

  pub insert_once : (new_rows : List (List Datum)) → Inserts P name new_rows Q a → Inserts P name new_rows R b → (Q ≡ R) × (a ≡ b)
  insert_once new_rows h k = by_keys (change P name (λ t. inserted (may_insert name) P.pool t new_rows)) h k

  pub update_once : (sets : List (List ℕ × Datum)) (condition : Option Formula) → Updates P name sets condition Q a → Updates P name sets condition R b → (Q ≡ R) × (a ≡ b)
  update_once sets condition h k = by_order (change P name (λ t. updated (may_update name t.columns sets) P.pool t sets condition)) h k

  pub delete_once : (condition : Option Formula) → Deletes P name condition Q a → Deletes P name condition R b → (Q ≡ R) × (a ≡ b)
  delete_once condition h k = by_order (change P name (λ t. deleted (may_insert name) P.pool t condition)) h k

  -- the same three lists of stored rows make the same package
  same_three : (F : List Row → List Row → List Row → PackageContent) (c c' t t' v v' : List Row) → c ≡ c' → t ≡ t' → v ≡ v' → Q ≡ F c t v → R ≡ F c' t' v' → Q ≡ R
  same_three F c c' t t' v v' p q r h k = h ∙ ap (λ x. F x t v) p ∙ ap (λ x. F c' x v) q ∙ ap (λ x. F c' t' x) r ∙ sym k

  pub create_once : (letters : CaseTable) (columns : List Column) → Creates letters P name columns Q a → Creates letters P name columns R b → (Q ≡ R) × (a ≡ b)
  create_once letters columns h k = go (created (is_none (at_name letters P.storages (stream_name name))) P name columns) h k
    where
      go : (r : Result (Rows3 × Pool) Error) →
          EndsRefusedOrBy r P Q a (λ x. (c : List Row) × (t : List Row) × (v : List Row)
          × IsStoredByKeys x.1 columns_columns x.0.0 c × IsStoredByKeys x.1 tables_columns x.0.1 t × IsStoredByKeys x.1 (own_columns P) x.0.2 v
          × (Q ≡ record P { pool = x.1; tables = rows_put columns_name c (rows_put tables_name t (rows_put validation_name v (table_put (new_table name columns) P.tables))) })) →
          EndsRefusedOrBy r P R b (λ x. (c : List Row) × (t : List Row) × (v : List Row)
          × IsStoredByKeys x.1 columns_columns x.0.0 c × IsStoredByKeys x.1 tables_columns x.0.1 t × IsStoredByKeys x.1 (own_columns P) x.0.2 v
          × (R ≡ record P { pool = x.1; tables = rows_put columns_name c (rows_put tables_name t (rows_put validation_name v (table_put (new_table name columns) P.tables))) })) →
          (Q ≡ R) × (a ≡ b)
      go (Err e) h k = (h.0 ∙ sym k.0, h.1 ∙ sym k.1)
      go (Ok x) h k = (
        same_three (λ c t v. record P { pool = x.1; tables = rows_put columns_name c (rows_put tables_name t (rows_put validation_name v (table_put (new_table name columns) P.tables))) })
            h.1.0 k.1.0 h.1.1 k.1.1 h.1.2 k.1.2
            (stored_by_keys_once x.1 columns_columns x.0.0 h.1.0 k.1.0 h.1.3 k.1.3)
            (stored_by_keys_once x.1 tables_columns x.0.1 h.1.1 k.1.1 h.1.4 k.1.4)
            (stored_by_keys_once x.1 (own_columns P) x.0.2 h.1.2 k.1.2 h.1.5 k.1.5)
            h.1.6 k.1.6,
        h.0 ∙ sym k.0,
      )

  pub drop_once : Drops P name Q a → Drops P name R b → (Q ≡ R) × (a ≡ b)
  drop_once h k = go (dropped P name) h k
    where
      go : (r : Result (Table × Pool) Error) →
          EndsRefusedOrBy r P Q a (λ x. (c : List Row) × (t : List Row) × (v : List Row)
          × IsStored columns_columns (rows_beside P columns_name name) c × IsStored tables_columns (rows_beside P tables_name name) t × IsStored (own_columns P) (rows_beside P validation_name name) v
          × (Q ≡ record P { pool = x.1; tables = rows_put columns_name c (rows_put tables_name t (rows_put validation_name v (filter (λ u. not (bytes_eq u.name name)) P.tables))) })) →
          EndsRefusedOrBy r P R b (λ x. (c : List Row) × (t : List Row) × (v : List Row)
          × IsStored columns_columns (rows_beside P columns_name name) c × IsStored tables_columns (rows_beside P tables_name name) t × IsStored (own_columns P) (rows_beside P validation_name name) v
          × (R ≡ record P { pool = x.1; tables = rows_put columns_name c (rows_put tables_name t (rows_put validation_name v (filter (λ u. not (bytes_eq u.name name)) P.tables))) })) →
          (Q ≡ R) × (a ≡ b)
      go (Err e) h k = (h.0 ∙ sym k.0, h.1 ∙ sym k.1)
      go (Ok x) h k = (
        same_three (λ c t v. record P { pool = x.1; tables = rows_put columns_name c (rows_put tables_name t (rows_put validation_name v (filter (λ u. not (bytes_eq u.name name)) P.tables))) })
            h.1.0 k.1.0 h.1.1 k.1.1 h.1.2 k.1.2
            (stored_once columns_columns (rows_beside P columns_name name) h.1.0 k.1.0 h.1.3 k.1.3)
            (stored_once tables_columns (rows_beside P tables_name name) h.1.1 k.1.1 h.1.4 k.1.4)
            (stored_once (own_columns P) (rows_beside P validation_name name) h.1.2 k.1.2 h.1.5 k.1.5)
            h.1.6 k.1.6,
        h.0 ∙ sym k.0,
      )
