-- A package with right counts stores what it stored, and its texts are counted.
use Rattle.std.proofs.Common.{◌≡◌, ◌∙◌, ℕ, zero, suc, ◌+◌, ◌-◌, ◌<◌, ◌≤◌, ◌⊎◌, inl, inr, true, List, [], ◌∷◌, map, length, get_or, refl, sym, ap, ap₂, subst, arith, Some, None}
use Rattle.std.specs.Prelude.{◌||◌, ◌↔◌, All, Contains, IsTrue, Option, bytes_eq}
use Rattle.std.specs.List.{list_any}
use Rattle.std.proofs.lemmas.Bool.{cases_lt}
use Rattle.cfb_tree.specs.Names.{CaseTable}
use Rattle.cfb_tree.specs.Tree.{Tree}
use Rattle.msi_spec.proofs.Exact.{counted_down}
use Rattle.msi_spec.specs.Package.{PackageContent, rows_named}
use Rattle.msi_spec.specs.Sound.{refcounts_of}
use Rattle.msi_spec.specs.Split.{TreeStoresRest}
use Rattle.msi_spec.specs.Uses.{RefcountsAreExact, counts_of, left_at}
use Rattle.msi_pool.specs.Pool.{PoolEntry, empty_pool_entry}
use Rattle.msi_pool.specs.Refs.{value_at}
use Rattle.msi_pool.specs.declared.stringref.ValueRef.{ValueRef}
use Rattle.msi_pool.specs.declared.stringref.ValueRef.TheVariants as cell
use Rattle.msi_tables.specs.Rows.{Row}
use Rattle.msi_tables.specs.Schema.{begins_with, columns_in, columns_name, is_schema, tables_name}
use Rattle.msi_tables.specs.Table.{Table, data_rows, row_data, table_named}
use Rattle.msi_values.specs.Datum.{Datum, text}
use Rattle.msi_recounted.specs.Counts.{with_uses}
use Rattle.msi_recounted.specs.Recounted.{recounted}

module _ (uses : ℕ → ℕ) where
  same_text : (ps : List PoolEntry) (n k : ℕ) → (get_or (with_uses uses n ps) k empty_pool_entry).text ≡ (get_or ps k empty_pool_entry).text
  same_text [] n k = refl
  same_text (p ∷ ps) n zero = refl
  same_text (p ∷ ps) n (suc k) = same_text ps (n + 1) k

  counted_place : (ps : List PoolEntry) (n k : ℕ) → k < length ps → left_at (counts_of (with_uses uses n ps)) k ≡ uses (n + k)
  counted_place [] n k below = absurd (omega (arith, below))
  counted_place (p ∷ ps) n zero below = ap uses (omega arith)
  counted_place (p ∷ ps) n (suc k) below = counted_place ps (n + 1) k (omega (arith, below)) ∙ ap uses (omega arith)

  past_place : (ps : List PoolEntry) (n k : ℕ) → length ps ≤ k → left_at (counts_of (with_uses uses n ps)) k ≡ 0
  past_place [] n k le = refl
  past_place (p ∷ ps) n zero le = absurd (omega (arith, le))
  past_place (p ∷ ps) n (suc k) le = past_place ps (n + 1) k (omega (arith, le))

module _ (P : PackageContent) where
  value_same : (v : ValueRef) → value_at (recounted P).pool v ≡ value_at P.pool v
  value_same cell.Null = refl
  value_same (cell.Int z) = refl
  value_same (cell.Str n) = ap text (same_text (refcounts_of P.tables) P.pool.places 1 (n - 1))
  value_same cell.Binary = refl

  row_same : (row : Row) → row_data (recounted P).pool row ≡ row_data P.pool row
  row_same [] = refl
  row_same (v ∷ vs) = ap₂ (λ (d : Datum) (ds : List Datum). d ∷ ds) (value_same v) (row_same vs)

  pub rows_same : (rows : List Row) → map (row_data (recounted P).pool) rows ≡ map (row_data P.pool) rows
  rows_same [] = refl
  rows_same (r ∷ rs) = ap₂ (λ (d : List Datum) (ds : List (List Datum)). d ∷ ds) (row_same r) (rows_same rs)

  data_same : (o : Option Table) → data_rows (recounted P).pool o ≡ data_rows P.pool o
  data_same None = refl
  data_same (Some t) = rows_same t.rows

  pub named_same : (name : List ℕ) → rows_named (recounted P) name ≡ rows_named P name
  named_same name = data_same (table_named P.tables name)

  pub counted : refcounts_of P.tables 0 ≡ 0 → ((n : ℕ) → length P.pool.places < n → refcounts_of P.tables n ≡ 0) → RefcountsAreExact (recounted P).pool P.tables
  counted none past = (counted_down (recounted P).pool P.tables true none (record { taken = λ _. each; other = λ e. absurd (cc) })).0 refl
    where
      each : (k : ℕ) → left_at (counts_of (recounted P).pool.places) k ≡ refcounts_of P.tables (suc k)
      each k = by (cases_lt k (length P.pool.places))
        where
          by : (k < length P.pool.places) ⊎ (length P.pool.places ≤ k) → left_at (counts_of (recounted P).pool.places) k ≡ refcounts_of P.tables (suc k)
          by (inl below) = counted_place (refcounts_of P.tables) P.pool.places 1 k below ∙ ap (refcounts_of P.tables) (omega arith)
          by (inr le) = past_place (refcounts_of P.tables) P.pool.places 1 k le ∙ sym (past (suc k) (omega (arith, le)))

pub stored : (letters : CaseTable) (tree : Tree) (P : PackageContent) → TreeStoresRest letters tree P → TreeStoresRest letters tree (recounted P)
stored letters tree P s = record {
  class = s.class;
  rising = s.rising;
  names = λ name. subst (λ (rows : List (List Datum)). IsTrue (bytes_eq name tables_name || bytes_eq name columns_name || list_any (begins_with name) rows) ↔ Contains (map (λ t. t.name) P.tables) name)
      (sym (named_same P tables_name)) (s.names name);
  rows = s.rows;
  validation = s.validation;
  validation_is = s.validation_is;
  schema =
      subst (λ (rows : List (List Datum)). IsTrue (is_schema (rows_named (recounted P) tables_name) (rows_named (recounted P) columns_name) rows)) (sym (rows_same P s.validation))
      (subst (λ (rows : List (List Datum)). IsTrue (is_schema (rows_named (recounted P) tables_name) rows (map (row_data P.pool) s.validation))) (sym (named_same P columns_name))
      (subst (λ (rows : List (List Datum)). IsTrue (is_schema rows (rows_named P columns_name) (map (row_data P.pool) s.validation))) (sym (named_same P tables_name)) s.schema));
  columns =
      subst (λ (rows : List (List Datum)). All (λ t. columns_in (rows_named (recounted P) columns_name) rows t.name ≡ Some t.columns) P.tables) (sym (rows_same P s.validation))
      (subst (λ (rows : List (List Datum)). All (λ t. columns_in rows (map (row_data P.pool) s.validation) t.name ≡ Some t.columns) P.tables) (sym (named_same P columns_name)) s.columns);
  streams = s.streams;
  storages = s.storages;
}
