-- The rows of the system tables are those of their streams.
use Rattle.std.proofs.Common.{◌≡◌, ◌∙◌, ℕ, Bool, true, false, cond, List, [], ◌∷◌, map, refl, sym, ap, arith, Some}
use Rattle.std.specs.Prelude.{◌||◌, Option, unwrap_or, bytes_eq, All, Contains}
use Rattle.std.specs.List.{list_any}
use Rattle.std.proofs.lemmas.Cmp.{nat_list_eq_equiv}
use Rattle.std.proofs.lemmas.List.Elements.{All-tail}
use Rattle.std.proofs.lemmas.Map.Views.{list_any-from_Contains}
use Rattle.std.proofs.lemmas.Slice.Eq.{bytes_eq-Decides}
use Rattle.cfb_tree.specs.Names.{CaseTable}
use Rattle.cfb_tree.specs.Tree.{Tree}
use Rattle.msi_values.specs.Datum.{Datum}
use Rattle.msi_columns.specs.Column.{Column}
use Rattle.msi_pool.specs.Pool.{Pool}
use Rattle.msi_tables.specs.Rows.{Row, kinds_of, rows_of}
use Rattle.msi_tables.specs.Table.{Table, data_rows, row_data, table_named}
use Rattle.msi_tables.specs.Schema.{begins_with, columns_columns, columns_in, columns_name, schema_of, tables_columns, tables_name}
use Rattle.msi_spec.specs.Package.{PackageContent, TreePacksPackage, is_table_name, objects, rows_named, table_stream}

pub same_bytes : (xs ys : List ℕ) → bytes_eq xs ys ≡ true → xs ≡ ys
same_bytes xs ys e = grind (arith, bytes_eq-Decides xs ys, e)

pub bytes_same : (xs : List ℕ) → bytes_eq xs xs ≡ true
bytes_same xs = grind (arith, bytes_eq-Decides xs xs)

pub bytes_swap : (xs ys : List ℕ) → bytes_eq xs ys ≡ bytes_eq ys xs
bytes_swap xs ys = grind (arith, bytes_eq-Decides xs ys, bytes_eq-Decides ys xs)

-- a table whose name is there is found, and has what all have
pub table_found : (P : Table → Type 0) (name : List ℕ) (ts : List Table) → All P ts → list_any (bytes_eq name) (map (λ t. t.name) ts) ≡ true
    → (t : Table) × (table_named ts name ≡ Some t) × (t.name ≡ name) × P t
table_found P name [] all e = absurd (cc)
table_found P name (t ∷ ts) all e = go (table_found P name ts (All-tail P t ts all)) (bytes_eq t.name name) refl
  where
    go : (list_any (bytes_eq name) (map (λ u. u.name) ts) ≡ true → (u : Table) × (table_named ts name ≡ Some u) × (u.name ≡ name) × P u) → (b : Bool) → bytes_eq t.name name ≡ b → (u : Table) × (table_named (t ∷ ts) name ≡ Some u) × (u.name ≡ name) × P u
    go on true h = (t, ap (λ b. cond b (Some t) (table_named ts name)) h, same_bytes t.name name h, all 0 t (omega arith))
    go on false h =
        let later : list_any (bytes_eq name) (map (λ u. u.name) ts) ≡ true = sym (ap (λ b. b || list_any (bytes_eq name) (map (λ u. u.name) ts)) (bytes_swap name t.name ∙ h)) ∙ e in
        let found = on later in
        (found.0, ap (λ b. cond b (Some t) (table_named ts name)) h ∙ found.1, found.2, found.3)

abbrev some_columns : Option (List Column) → List Column
some_columns o = unwrap_or o []

module _ (letters : CaseTable) (tree : Tree) where
  -- the rows that the tree has at a name, by these columns
  abbrev pub rows_at : Pool → List ℕ → List Column → Option (List Row)
  rows_at pool name columns = rows_of pool.long (kinds_of columns) (unwrap_or (table_stream letters (objects tree.content) name) [])

  -- a table of the list with these columns has the rows of its stream
  pub named_rows : (pool : Pool) (ts : List Table) (cs vs : List (List Datum)) (name : List ℕ) (columns : List Column)
      → All (λ t. (columns_in cs vs t.name ≡ Some t.columns) × (rows_at pool t.name t.columns ≡ Some t.rows)) ts
      → Contains (map (λ t. t.name) ts) name → columns_in cs vs name ≡ Some columns
      → (rows : List Row) × (rows_at pool name columns ≡ Some rows) × (data_rows pool (table_named ts name) ≡ map (row_data pool) rows)
  named_rows pool ts cs vs name columns known in_it fixed =
      let there = list_any-from_Contains {eq = bytes_eq} nat_list_eq_equiv name (map (λ t. t.name) ts) in_it in
      let Known : Table → Type 0 = λ t. (columns_in cs vs t.name ≡ Some t.columns) × (rows_at pool t.name t.columns ≡ Some t.rows) in
      let found = table_found Known name ts known there in
      let t = found.0 in
      let of_columns : t.columns ≡ columns = ap some_columns (sym found.3.0 ∙ ap (columns_in cs vs) found.2 ∙ fixed) in (
        t.rows,
        sym (ap (rows_at pool name) of_columns) ∙ sym (ap (λ n. rows_at pool n t.columns) found.2) ∙ found.3.1,
        ap (data_rows pool) found.1,
      )

  -- the rows of a table of the package with these columns: they stand in its stream
  abbrev pub HasRows : PackageContent → List ℕ → List Column → Type 0
  HasRows P name columns = (rows : List Row) × (rows_at P.pool name columns ≡ Some rows) × (rows_named P name ≡ map (row_data P.pool) rows)

  system_rows : (P : PackageContent) → TreePacksPackage letters tree P → (name : List ℕ) (columns : List Column) → is_table_name P name ≡ true
      → ((cs vs : List (List Datum)) → columns_in cs vs name ≡ Some columns) → HasRows P name columns
  system_rows P packs name columns is fixed =
      let cs = rows_named P columns_name in
      let vs = map (row_data P.pool) packs.validation in
      named_rows P.pool P.tables cs vs name columns (λ k d below. (packs.columns k d below, packs.rows k d below)) ((packs.names name).0 is) (fixed cs vs)

  pub tables_fixed : (cs vs : List (List Datum)) → columns_in cs vs tables_name ≡ Some tables_columns
  tables_fixed cs vs = ap (λ b. cond b (Some tables_columns) (cond (bytes_eq tables_name columns_name) (Some columns_columns) (schema_of cs vs tables_name))) (bytes_same tables_name)

  pub columns_fixed : (cs vs : List (List Datum)) → columns_in cs vs columns_name ≡ Some columns_columns
  columns_fixed cs vs = ap (λ b. cond b (Some columns_columns) (schema_of cs vs columns_name)) (bytes_same columns_name)

  pub tables_rows : (P : PackageContent) → TreePacksPackage letters tree P → HasRows P tables_name tables_columns
  tables_rows P packs =
      system_rows P packs tables_name tables_columns (ap (λ b. b || bytes_eq tables_name columns_name || list_any (begins_with tables_name) (rows_named P tables_name)) (bytes_same tables_name))
      (λ cs vs. ap (λ b. cond b (Some tables_columns) (cond (bytes_eq tables_name columns_name) (Some columns_columns) (schema_of cs vs tables_name))) (bytes_same tables_name))

  pub columns_rows : (P : PackageContent) → TreePacksPackage letters tree P → HasRows P columns_name columns_columns
  columns_rows P packs =
      system_rows P packs columns_name columns_columns (ap (λ b. bytes_eq columns_name tables_name || b || list_any (begins_with columns_name) (rows_named P tables_name)) (bytes_same columns_name))
      (λ cs vs. ap (λ b. cond b (Some columns_columns) (schema_of cs vs columns_name)) (bytes_same columns_name))
