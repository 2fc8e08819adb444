-- A _Validation that is accepted is new: what is stored of _Columns and _Tables stands behind what was there, and no row limits it.
use Rattle.std.proofs.Common.{◌≡◌, ℕ, ◌+◌, Bool, true, false, List, [], ◌∷◌, ◌++◌, length, map, refl, sym, ap, ap₂, subst, Some, None, Result, Ok, not}
use Rattle.std.specs.Prelude.{◌&&◌, bytes_eq, is_none, nat_le, nat_lt, All}
use Rattle.std.specs.List.{list_all}
use Rattle.std.specs.Str.{chars}
use Rattle.std.specs.List.Sorted.{IsPermutation}
use Rattle.std.proofs.lemmas.Bool.{and_parts}
use Rattle.std.proofs.lemmas.List.Elements.{All-cons, All-head, All-nil, All-tail}
use Rattle.cfb_medium.specs.declared.error.Error.{Error}
use Rattle.cfb_medium.specs.declared.error.Error.TheVariants.{AlreadyExists, InvalidInput}
use Rattle.cfb_tree.specs.Names.{CaseTable}
use Rattle.cfb_tree.specs.Tree.{Tree}
use Rattle.msi_changes.specs.Changes.{rows_counted}
use Rattle.msi_columns.specs.Column.{are_valid, Column}
use Rattle.msi_new_package.proofs.Laid.{names_free}
use Rattle.msi_spec.specs.Calls.{has_table, new_table, rows_put, stored_rows, table_put, with_rows}
use Rattle.msi_spec.specs.Package.{at_name, stream_name, PackageContent}
use Rattle.msi_spec.specs.Sound.{refcounts_of}
use Rattle.msi_pool.specs.Pool.{Pool}
use Rattle.msi_rewritten.proofs.Tables.{other_kept}
use Rattle.msi_stored.specs.Changing.{StoresSoundPackage}
use Rattle.msi_tables.specs.Rows.{max_rows, Row}
use Rattle.msi_tables.specs.Schema.{columns_columns, columns_name, columns_rows, tables_columns, tables_name, validation_name}
use Rattle.msi_tables.specs.Table.{table_named, IsStoredByKeys, Table}
use Rattle.msi_tables.proofs.Writable.{rows_move_by_keys}
use Rattle.msi_texts.specs.Results.{◌>>=◌}
use Rattle.msi_values.specs.Datum.{text, Datum}
use Rattle.msi_table_edits.specs.Created.{with_table}
use Rattle.msi_table_edits.specs.Validating.{listed_columns, listing, validated, with_validation, CanBeStoredTwo, ComeBackTwo}
use Rattle.msi_table_edits.proofs.Accepted.{none_found, passes, same_ok, then_ok, AreCounted}
use Rattle.msi_table_edits.proofs.CreatedFrom.{c_back, none_so, of_columns, of_tables, stored_c, stored_t, t_back}
use Rattle.msi_table_edits.proofs.Given.{are_given, are_shaped, counted_before, AreGiven, AreShaped}
use Rattle.msi_table_edits.proofs.Holding.{all_put, holding}
use Rattle.msi_table_edits.proofs.Limits.{limited_none}
use Rattle.msi_table_edits.proofs.NewTable.{IsNewTable}

-- ---- what is told

-- the rows that list a table, as cells, behind those that were there
pub record AreListed (P : PackageContent) (name : List ℕ) (columns : List Column) (x : (List Row × List Row) × Pool) : Type 0 where
  pub cells : AreCounted P.pool name columns []
  pub unlimited : cells.v.0 ≡ []
  pub c_few : nat_le (length (stored_rows P columns_name) + length columns) max_rows ≡ true
  pub t_few : nat_lt (length (stored_rows P tables_name)) max_rows ≡ true
  pub is : x ≡ ((stored_rows P columns_name ++ cells.c.0, stored_rows P tables_name ++ cells.t.0), cells.v.1)

abbrev Listing : Type 0
Listing = Result ((List Row × List Row) × Pool) Error

pub are_listed : (P : PackageContent) (name : List ℕ) (columns : List Column) (x : (List Row × List Row) × Pool) → listing P name columns ≡ Ok x → AreListed P name columns x
are_listed P name columns x e =
    let both : List Row × Pool → List Row × Pool → (List Row × List Row) × Pool = λ c t. ((stored_rows P columns_name ++ c.0, stored_rows P tables_name ++ t.0), t.1) in
    let last : List Row × Pool → Listing = λ c. rows_counted c.1 ((text name ∷ []) ∷ []) >>= λ t. Ok (both c t) in
    let cs = nat_le (length (stored_rows P columns_name) + length columns) max_rows in
    let ts = nat_lt (length (stored_rows P tables_name)) max_rows in
    let few = passes (cs && ts) InvalidInput (rows_counted P.pool (columns_rows name 1 columns) >>= last) x e in
    let parts = and_parts cs ts few.0 in
    let c = then_ok (rows_counted P.pool (columns_rows name 1 columns)) last x few.1 in
    let t = then_ok (rows_counted c.0.1 ((text name ∷ []) ∷ [])) (λ t. Ok (both c.0 t)) x c.2 in
    record {
      cells = record { c = c.0; t = t.0; v = ([], t.0.1); c_is = c.1; t_is = t.1; v_is = refl };
      unlimited = refl;
      c_few = parts.0;
      t_few = parts.1;
      is = same_ok (both c.0 t.0) x t.2;
    }

-- no table has the name, and no storage stands there
pub record IsAllowed (at_free : Bool) (P : PackageContent) (x : (List Row × List Row) × Pool) : Type 0 where
  pub none : table_named P.tables validation_name ≡ None
  pub free : at_free ≡ true
  pub rows : AreListed P validation_name listed_columns x

pub is_allowed : (at_free : Bool) (P : PackageContent) (x : (List Row × List Row) × Pool) → validated at_free P ≡ Ok x → IsAllowed at_free P x
is_allowed at_free P x e =
    let a = passes (not (has_table P validation_name) && at_free) AlreadyExists (listing P validation_name listed_columns) x e in
    let b = and_parts (not (has_table P validation_name)) at_free a.0 in
    record { none = none_found (table_named P.tables validation_name) b.0; free = b.1; rows = are_listed P validation_name listed_columns x a.1 }

-- ---- the rows fit

pub listed_fit : list_all (are_valid columns_columns) (columns_rows validation_name 1 listed_columns) ≡ true
unfolding chars
listed_fit = refl

pub name_fits : are_valid tables_columns (text validation_name ∷ []) ≡ true
unfolding chars
name_fits = refl

-- ---- a table without rows gets none

none_named : (ts : List Table) (name : List ℕ) → table_named ts name ≡ None → All (λ u. bytes_eq u.name name ≡ false) ts
none_named [] name none = All-nil (λ u. bytes_eq u.name name ≡ false)
none_named (t ∷ ts) name none = by (bytes_eq t.name name) refl (none_named ts name)
  where
    by : (b : Bool) → bytes_eq t.name name ≡ b → (table_named ts name ≡ None → All (λ u. bytes_eq u.name name ≡ false) ts) → All (λ u. bytes_eq u.name name ≡ false) (t ∷ ts)
    by true is rest = (let never : Some t ≡ None = rw is at none in absurd (cc))
    by false is rest = All-cons (λ u. bytes_eq u.name name ≡ false) t ts is (rest (rw is at none))

all_same : (f : Table → Table) (ts : List Table) → All (λ u. f u ≡ u) ts → map f ts ≡ ts
all_same f [] all = refl
all_same f (t ∷ ts) all = ap₂ (λ (u : Table) us. u ∷ us) (All-head (λ u. f u ≡ u) t ts all) (all_same f ts (All-tail (λ u. f u ≡ u) t ts all))

module _ (P : PackageContent) (none : table_named P.tables validation_name ≡ None) where
  abbrev W : Table
  W = new_table validation_name listed_columns

  rows_none : rows_put validation_name [] (table_put W P.tables) ≡ table_put W P.tables
  rows_none = all_same (with_rows validation_name []) (table_put W P.tables)
      (all_put W (λ u. with_rows validation_name [] u ≡ u) P.tables refl (λ j d within. other_kept validation_name [] _ (none_named P.tables validation_name none j d within)))

  pub same_package : (pool : Pool) (c t : List Row) → with_table P validation_name listed_columns pool c t [] ≡ with_validation P pool c t
  same_package pool c t = ap (λ ts. record P { pool = pool; tables = rows_put columns_name c (rows_put tables_name t ts) }) rows_none

-- ---- it is new

module _ (letters : CaseTable) (tree : Tree) (P : PackageContent) (sound : StoresSoundPackage letters tree P) (x : (List Row × List Row) × Pool) (met : IsAllowed (is_none (at_name letters P.storages (stream_name validation_name))) P x) where
  abbrev cells : AreCounted P.pool validation_name listed_columns []
  cells = met.rows.cells

  abbrev next : Pool
  next = cells.v.1

  given : AreGiven P.pool (refcounts_of P.tables) validation_name listed_columns [] next cells.c.0 cells.t.0 []
  given =
      let has = of_columns letters tree P sound in
      subst (λ v. AreGiven P.pool (refcounts_of P.tables) validation_name listed_columns [] next cells.c.0 cells.t.0 v) met.rows.unlimited
      (are_given P.pool validation_name listed_columns [] cells (All-nil (λ (ds : List Datum). length ds ≡ 10)) (refcounts_of P.tables) (counted_before letters tree P sound.stores sound.counted (holding columns_name columns_columns has.rows) has.there))

  shaped : AreShaped P.pool validation_name listed_columns [] cells listed_columns listed_fit name_fits refl
  shaped = are_shaped P.pool validation_name listed_columns [] cells listed_columns listed_fit name_fits refl

  abbrev all : (List Row × List Row) × Pool
  all = ((stored_rows P columns_name ++ cells.c.0, stored_rows P tables_name ++ cells.t.0), next)

  abbrev Stored : (List Row × List Row) × Pool → List Row → List Row → Type 0
  Stored y c t = IsStoredByKeys y.1 columns_columns y.0.0 c × IsStoredByKeys y.1 tables_columns y.0.1 t

  new_by_all : (c t : List Row) → Stored all c t → IsNewTable letters P validation_name listed_columns next c t []
  new_by_all c t stored = record {
    old_c = (of_columns letters tree P sound).rows;
    old_t = (of_tables letters tree P sound).rows;
    old_v = [];
    own = listed_columns;
    columns_there = (of_columns letters tree P sound).there;
    tables_there = (of_tables letters tree P sound).there;
    new_c = cells.c.0;
    new_t = cells.t.0;
    new_v = [];
    c_moved = subst (λ rows. IsPermutation (rows ++ cells.c.0) c) (stored_c letters tree P sound) (rows_move_by_keys next columns_columns all.0.0 c stored.0);
    t_moved = subst (λ rows. IsPermutation (rows ++ cells.t.0) t) (stored_t letters tree P sound) (rows_move_by_keys next tables_columns all.0.1 t stored.1);
    limits = [];
    limited = limited_none letters P sound.usable sound.named met.none sound.stores.rising (none_so (at_name letters P.storages (stream_name validation_name)) met.free) next;
    given = given;
    kept = shaped.kept;
    none = met.none;
    free = names_free.2;
    no_storage = none_so (at_name letters P.storages (stream_name validation_name)) met.free;
  }

  pub is_new : (c t : List Row) → Stored x c t → IsNewTable letters P validation_name listed_columns x.1 c t []
  is_new = subst (λ (y : (List Row × List Row) × Pool). (c t : List Row) → Stored y c t → IsNewTable letters P validation_name listed_columns y.1 c t []) (sym met.rows.is) new_by_all

  back_by_all : (c t : List Row) → Stored all c t → CanBeStoredTwo P all.0 → ComeBackTwo P c t
  back_by_all c t stored can = record {
    columns = c_back P validation_name listed_columns next cells.c.0 cells.t.0 given.c_says met.rows.c_few c stored.0 can.columns can.columns_places;
    tables = t_back P validation_name listed_columns next cells.c.0 cells.t.0 given.t_says met.rows.t_few t stored.1 can.tables can.tables_places;
  }

  pub are_back : (c t : List Row) → Stored x c t → CanBeStoredTwo P x.0 → ComeBackTwo P c t
  are_back = subst (λ (y : (List Row × List Row) × Pool). (c t : List Row) → Stored y c t → CanBeStoredTwo P y.0 → ComeBackTwo P c t) (sym met.rows.is) back_by_all
