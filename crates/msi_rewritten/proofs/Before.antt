-- Before a change the pool counts a table's cells beside those of the other tables.
use Rattle.std.proofs.Common.{◌≡◌, ◌∙◌, ℕ, ◌+◌, ◌-◌, ◌<◌, Bool, true, false, cond, List, length, get_or, refl, sym, ap, subst, arith, Some}
use Rattle.std.specs.Prelude.{◌==◌, ◌||◌, bytes_eq, map, nat_le, slice_get}
use Rattle.std.specs.List.{All, remove, sum_by}
use Rattle.std.proofs.lemmas.Bool.{or_parts}
use Rattle.std.proofs.lemmas.Bool.Decides.{nat_tests}
use Rattle.std.proofs.lemmas.List.{get_or_past, length-map}
use Rattle.std.proofs.lemmas.List.Sums.{sum_by-remove}
use Rattle.std.proofs.lemmas.Option.{get_or_from_slice_get, slice_get_within}
use Rattle.cfb_tree.specs.Names.{CaseTable}
use Rattle.cfb_tree.specs.Tree.{Tree}
use Rattle.msi_changes.specs.Laws.{names_place, uses_in, RefcountsMatchRows, KeepsShape, KeepsUses, StoredAlike}
use Rattle.msi_changes.proofs.UsesKept.{none_in}
use Rattle.msi_pool.specs.Pool.{pool_entry_at, empty_pool_entry, Pool}
use Rattle.msi_pool.specs.PoolKept.{AreFreeEmpty}
use Rattle.msi_pool.specs.declared.stringref.ValueRef.{ValueRef}
use Rattle.msi_pool.specs.declared.stringref.ValueRef.TheVariants as cell
use Rattle.msi_tables.specs.Rows.{kinds_of, Row}
use Rattle.msi_tables.specs.Schema.{columns_name, tables_name, validation_name}
use Rattle.msi_tables.specs.Table.{row_data, Table}
use Rattle.msi_spec.specs.Calls.{is_system}
use Rattle.msi_spec.specs.Package.{PackageContent}
use Rattle.msi_spec.specs.Sound.{refcounts_of, IsPlaceUsed}
use Rattle.msi_spec.specs.Split.{TreeStoresRest}
use Rattle.msi_spec.specs.Uses.{RefcountsAreExact}
use Rattle.msi_spec.proofs.SoundUses.{rows_read}
use Rattle.msi_rewritten.specs.Rewriting.{DescribesAlike, ReplacesTableRows}

abbrev use_of : ℕ → ValueRef → ℕ
use_of n v = cond (names_place n v) 1 0

abbrev row_uses : ℕ → Row → ℕ
row_uses n row = sum_by (use_of n) row

-- ---- places past the last

module _ (pool : Pool) (n : ℕ) (past : length pool.places < n) where
  unused : (v : ValueRef) → IsPlaceUsed pool v → use_of n v ≡ 0
  unused cell.Null used = refl
  unused (cell.Int z) used = refl
  unused (cell.Str m) used = on (m == n) refl
    where
      on : (b : Bool) → (m == n) ≡ b → ◌≡◌ {A = ℕ} (cond b 1 0) 0
      on false differ = refl
      on true same =
          let one : m ≡ n = grind (arith, nat_tests) in
          let none : pool_entry_at pool.places m ≡ empty_pool_entry = get_or_past pool.places (m - 1) empty_pool_entry (omega (arith, one, past)) in
          absurd (let h : 0 < 0 = rw (ap (λ p. p.count) none) at used in omega (arith, h))
  unused cell.Binary used = refl

  rows_unused : (rows : List Row) → All (All (IsPlaceUsed pool)) rows → uses_in rows n ≡ 0
  rows_unused rows used = none_in (row_uses n) rows (λ k d within. none_in (use_of n) (get_or rows k d) (λ i e inside. unused (get_or (get_or rows k d) i e) (used k d within i e inside)))

-- ---- the table's own uses, and those of the others

module _ (letters : CaseTable) (tree : Tree) (P : PackageContent) (stores : TreeStoresRest letters tree P) (counted : RefcountsAreExact P.pool P.tables) where
  counted_at : (n : ℕ) → 0 < n → (pool_entry_at P.pool.places n).count ≡ refcounts_of P.tables n
  counted_at n at = on (nat_le n (length P.pool.places)) refl
    where
      on : (b : Bool) → nat_le n (length P.pool.places) ≡ b → (pool_entry_at P.pool.places n).count ≡ refcounts_of P.tables n
      on true is = counted.counts n at (grind (arith, nat_tests))
      on false is =
          let past : length P.pool.places < n = grind (arith, nat_tests) in
          let none = none_in (λ t. uses_in t.rows n) P.tables (λ k d within. rows_unused P.pool n past (get_or P.tables k d).rows (counted.references k d within)) in
          ap (λ p. p.count) (get_or_past P.pool.places (n - 1) empty_pool_entry (omega (arith, past))) ∙ sym none

  pub uses_before : (k : ℕ) (t : Table) → slice_get P.tables k ≡ Some t → RefcountsMatchRows t.columns (refcounts_of (remove P.tables k)) P.pool t.rows
  uses_before k t is =
      let within : k < length P.tables = slice_get_within P.tables k t is in
      let same : get_or P.tables k t ≡ t = get_or_from_slice_get P.tables k t t is in
      let All_of : Table → Type 0 = λ t. All (λ row. length row ≡ length (kinds_of t.columns)) t.rows × (uses_in t.rows 0 ≡ 0) in
      let read : All_of t = subst All_of same (rows_read P.pool.long (kinds_of (get_or P.tables k t).columns) _ (get_or P.tables k t).rows (stores.rows k t within)) in
      let wide : length (kinds_of t.columns) ≡ length t.columns = length-map t.columns (λ c. c.kind) in
      record {
        cells = λ j d inside. read.0 j d inside ∙ wide;
        none = read.1;
        counts = λ n at. counted_at n at ∙ joined n within same;
      }
    where
      joined : (n : ℕ) → k < length P.tables → get_or P.tables k t ≡ t → refcounts_of P.tables n ≡ uses_in t.rows n + refcounts_of (remove P.tables k) n
      joined n within same = (let h = sum_by-remove (λ u. uses_in u.rows n) P.tables k t within in let e : uses_in (get_or P.tables k t).rows n ≡ uses_in t.rows n = ap (λ u. uses_in u.rows n) same in omega (arith, h, e))

-- a change that keeps uses and shape, and whose rows are stored
pub rewrites : (P : PackageContent) (k : ℕ) (t : Table) → slice_get P.tables k ≡ Some t → AreFreeEmpty P.pool.places
    → (after : List Row × Pool) → KeepsUses P.pool t.columns (refcounts_of (remove P.tables k)) after → KeepsShape P.pool t after
    → (stored : List Row) → StoredAlike after.1 (record t { rows = after.0 }) stored → (bytes_eq t.name tables_name || bytes_eq t.name columns_name) ≡ false
    → (bytes_eq t.name validation_name ≡ true → DescribesAlike (map (row_data P.pool) t.rows) (map (row_data after.1) stored)) → ReplacesTableRows P k t stored after.1
rewrites P k t at free after keeps shape stored alike unlisted described = record {
  at = at;
  unlisted = unlisted;
  described = described;
  long = shape.kept.long;
  uses = alike.uses (refcounts_of (remove P.tables k)) keeps.uses;
  stays = keeps.stays;
  empty = shape.kept.empty free;
}

-- the same of a table that describes no other
pub ordinary_rewrites : (P : PackageContent) (k : ℕ) (t : Table) → slice_get P.tables k ≡ Some t → is_system t.name ≡ false → AreFreeEmpty P.pool.places
    → (after : List Row × Pool) → KeepsUses P.pool t.columns (refcounts_of (remove P.tables k)) after → KeepsShape P.pool t after
    → (stored : List Row) → StoredAlike after.1 (record t { rows = after.0 }) stored → ReplacesTableRows P k t stored after.1
ordinary_rewrites P k t at ordinary free after keeps shape stored alike =
    let both = or_parts (bytes_eq t.name tables_name || bytes_eq t.name columns_name) (bytes_eq t.name validation_name) ordinary in
    rewrites P k t at free after keeps shape stored alike both.0 (λ is. let never : true ≡ false = sym is ∙ both.1 in absurd (cc))
