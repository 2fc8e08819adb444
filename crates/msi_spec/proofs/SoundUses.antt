-- In a sound package each table's cells make the uses that the pool counts, beside those of the other tables.
use Rattle.std.proofs.Common.{◌≡◌, ◌∙◌, ℕ, zero, suc, ◌+◌, ◌-◌, ◌*◌, ◌^◌, ◌<◌, Bool, true, false, cond, List, [], ◌∷◌, map, length, get_or, refl, sym, ap, subst, arith, Some, None, if◌then◌else◌}
use Rattle.std.specs.Prelude.{◌==◌, nat_le, slice_get, slice_range}
use Rattle.std.specs.List.{All, remove, sum_by}
use Rattle.std.proofs.lemmas.Bool.Decides.{nat_tests}
use Rattle.std.proofs.lemmas.List.{get_or_past, length-map}
use Rattle.std.proofs.lemmas.List.Elements.{All-map}
use Rattle.std.proofs.lemmas.List.Sums.{sum_by-cons, sum_by-remove}
use Rattle.std.proofs.lemmas.Option.{get_or_from_slice_get, slice_get_within}
use Rattle.msi_pool.specs.Pool.{Pool, pool_entry_at, empty_pool_entry}
use Rattle.msi_pool.specs.declared.stringref.ValueRef.{ValueRef}
use Rattle.msi_pool.specs.declared.stringref.ValueRef.TheVariants as cell
use Rattle.msi_texts.specs.Numbers.{le_number}
use Rattle.msi_columns.specs.Cell.{above, cell_value, place_or_null, width_of}
use Rattle.msi_tables.specs.Rows.{Row, kinds_of, max_rows, numbers_from, row_at, row_count, rows_of}
use Rattle.msi_tables.specs.Table.{Table}
use Rattle.msi_columns.specs.declared.column.ColumnType.{ColumnType}
use Rattle.msi_columns.specs.declared.column.ColumnType.TheVariants as kind
use Rattle.msi_changes.specs.Laws.{RefcountsMatchRows, names_place, uses_in}
use Rattle.cfb_tree.specs.Names.{CaseTable}
use Rattle.cfb_tree.specs.Tree.{Tree}
use Rattle.msi_spec.specs.Package.{PackageContent, TreePacksPackage}
use Rattle.msi_spec.specs.Sound.{IsSoundPackage, IsPlaceUsed, refcounts_of}
use Rattle.msi_changes.proofs.UsesKept.{none_in}

-- whether a cell is a use of a place
abbrev use_of : ℕ → ValueRef → ℕ
use_of n v = cond (names_place n v) 1 0

abbrev row_uses : ℕ → Row → ℕ
row_uses n row = sum_by (use_of n) row

-- ---- rows that are read

above_none : (half n : ℕ) → use_of 0 (above half n) ≡ 0
above_none half zero = refl
above_none half (suc n) = refl

place_none : (n : ℕ) → use_of 0 (place_or_null n) ≡ 0
place_none zero = refl
place_none (suc n) = grind (arith, nat_tests)

cell_none : (k : ColumnType) (n : ℕ) → use_of 0 (cell_value k n) ≡ 0
cell_none kind.Int16 n = above_none (2 ^ 15) n
cell_none kind.Int32 n = above_none (2 ^ 31) n
cell_none (kind.Str m) n = place_none n
cell_none kind.Binary n = refl

module _ (long : Bool) (n : ℕ) (bytes : List ℕ) where
  row_read : (before : ℕ) (ks : List ColumnType) (r : ℕ) → (length (row_at long n bytes before ks r) ≡ length ks) × (row_uses 0 (row_at long n bytes before ks r) ≡ 0)
  row_read before [] r = (refl, refl)
  row_read before (k ∷ ks) r =
      let start = n * before + r * width_of long k in
      let here = cell_value k (le_number (slice_range bytes start (start + width_of long k))) in
      let rest = row_read (before + width_of long k) ks r in
      (ap (λ m. suc m) rest.0, sum_by-cons (use_of 0) here (row_at long n bytes (before + width_of long k) ks r) ∙ omega (arith, cell_none k (le_number (slice_range bytes start (start + width_of long k))), rest.1))

abbrev pub Read : List ColumnType → List Row → Type 0
Read ks rows = All (λ row. length row ≡ length ks) rows × (uses_in rows 0 ≡ 0)

pub rows_read : (long : Bool) (ks : List ColumnType) (bytes : List ℕ) (rows : List Row) → rows_of long ks bytes ≡ Some rows → Read ks rows
rows_read long ks bytes rows is = on (row_count long ks bytes) (nat_le (row_count long ks bytes) max_rows) is
  where
    read : (m : ℕ) (numbers : List ℕ) → Read ks (map (row_at long m bytes 0 ks) numbers)
    read m numbers = (
      All-map (λ row. length row ≡ length ks) (row_at long m bytes 0 ks) numbers (λ k d within. (row_read long m bytes 0 ks (get_or numbers k d)).0),
      none_in (row_uses 0) (map (row_at long m bytes 0 ks) numbers) (All-map (λ row. row_uses 0 row ≡ 0) (row_at long m bytes 0 ks) numbers (λ k d within. (row_read long m bytes 0 ks (get_or numbers k d)).1)),
    )

    on : (m : ℕ) (b : Bool) → (if b then Some (map (row_at long m bytes 0 ks) (numbers_from 0 m)) else None) ≡ Some rows → Read ks rows
    on m true is = (let same : map (row_at long m bytes 0 ks) (numbers_from 0 m) ≡ rows = cc is in subst (Read ks) same (read m (numbers_from 0 m)))
    on m false is = absurd (cc is)

-- ---- places past the last

module _ (pool : Pool) (n : ℕ) (past : length pool.places < n) where
  unused : (v : ValueRef) → IsPlaceUsed pool v → use_of n v ≡ 0
  unused cell.Null used = refl
  unused (cell.Int z) used = refl
  unused (cell.Str m) used = on (m == n) refl
    where
      on : (b : Bool) → (m == n) ≡ b → ◌≡◌ {A = ℕ} (cond b 1 0) 0
      on false differ = refl
      on true same =
          let one : m ≡ n = grind (arith, nat_tests) in
          let none : pool_entry_at pool.places m ≡ empty_pool_entry = get_or_past pool.places (m - 1) empty_pool_entry (omega (arith, one, past)) in
          absurd (let h : 0 < 0 = rw (ap (λ p. p.count) none) at used in omega (arith, h))
  unused cell.Binary used = refl

  rows_unused : (rows : List Row) → All (All (IsPlaceUsed pool)) rows → uses_in rows n ≡ 0
  rows_unused rows used = none_in (row_uses n) rows (λ k d within. none_in (use_of n) (get_or rows k d) (λ i e inside. unused (get_or (get_or rows k d) i e) (used k d within i e inside)))

-- ---- the law

module _ (letters : CaseTable) (tree : Tree) (P : PackageContent) (packs : TreePacksPackage letters tree P) (sound : IsSoundPackage letters tree P packs) where
  tables_unused : (n : ℕ) → length P.pool.places < n → refcounts_of P.tables n ≡ 0
  tables_unused n past = none_in (λ t. uses_in t.rows n) P.tables (λ k d within. rows_unused P.pool n past (get_or P.tables k d).rows (sound.references k d within))

  counted : (n : ℕ) → 0 < n → (pool_entry_at P.pool.places n).count ≡ refcounts_of P.tables n
  counted n at = on (nat_le n (length P.pool.places)) refl
    where
      on : (b : Bool) → nat_le n (length P.pool.places) ≡ b → (pool_entry_at P.pool.places n).count ≡ refcounts_of P.tables n
      on true is = sound.counts n at (grind (arith, nat_tests))
      on false is =
          let past : length P.pool.places < n = grind (arith, nat_tests) in
          ap (λ p. p.count) (get_or_past P.pool.places (n - 1) empty_pool_entry (omega (arith, past))) ∙ sym (tables_unused n past)

  pub table_uses : (k : ℕ) (t : Table) → slice_get P.tables k ≡ Some t → RefcountsMatchRows t.columns (refcounts_of (remove P.tables k)) P.pool t.rows
  table_uses k t is =
      let within : k < length P.tables = slice_get_within P.tables k t is in
      let same : get_or P.tables k t ≡ t = get_or_from_slice_get P.tables k t t is in
      let All_of : Table → Type 0 = λ t. All (λ row. length row ≡ length (kinds_of t.columns)) t.rows × (uses_in t.rows 0 ≡ 0) in
      let read : All_of t = subst All_of same (rows_read P.pool.long (kinds_of (get_or P.tables k t).columns) _ (get_or P.tables k t).rows (packs.rows k t within)) in
      let wide : length (kinds_of t.columns) ≡ length t.columns = length-map t.columns (λ c. c.kind) in
      record {
        cells = λ j d inside. read.0 j d inside ∙ wide;
        none = read.1;
        counts = λ n at. counted n at ∙ joined n within same;
      }
    where
      joined : (n : ℕ) → k < length P.tables → get_or P.tables k t ≡ t → refcounts_of P.tables n ≡ uses_in t.rows n + refcounts_of (remove P.tables k) n
      joined n within same = (let h = sum_by-remove (λ u. uses_in u.rows n) P.tables k t within in let e : uses_in (get_or P.tables k t).rows n ≡ uses_in t.rows n = ap (λ u. uses_in u.rows n) same in omega (arith, h, e))
