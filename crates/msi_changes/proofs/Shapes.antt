-- What changes leave of rows and pool: rows that can be written stay such rows, and a pool keeps its page, its width and its empty free places.
use Rattle.std.proofs.Common.{◌≡◌, ◌∙◌, ℕ, zero, suc, ◌+◌, ◌-◌, ◌≤◌, ◌^◌, Bool, true, false, not, List, [], ◌∷◌, ◌++◌, length, map, filter, refl, sym, ap, ap₂, arith, Option, Some, None, Result, Ok, Err, Vec, if◌then◌else◌, ℤ, pos, negsuc}
use Rattle.std.specs.Prelude.{◌&&◌, ◌||◌, ◌==◌, IfOk, bytes_eq, int_le, is_some, nat_le, nat_lt, option_map, option_to_list, slice_get, slice_set, unwrap_or}
use Rattle.std.specs.List.{All, flat_map, list_all, list_any}
use Rattle.std.proofs.lemmas.Bool.Decides.{nat_tests}
use Rattle.std.proofs.lemmas.List.{length-set}
use Rattle.std.proofs.lemmas.List.Elements.{All-append, All-cons, All-filter, All-head, All-map, All-tail}
use Rattle.std.proofs.Math.Bool.{or-false}
use Rattle.std.specs.declared.alloc.Global.{Global}
use Rattle.cfb_medium.specs.declared.error.Error.{Error}
use Rattle.cfb_medium.specs.declared.error.Error.TheVariants.{AlreadyExists, InvalidData, InvalidInput}
use Rattle.msi_texts.specs.Results.{◌>>=◌, ReturnsOrOutOfMemory, or_refused, unless_not}
use Rattle.msi_values.specs.Datum.{Datum, null, number, text, binary}
use Rattle.msi_pool.specs.Pool.{Pool, pool_entry_at, last_place, place_among, used, with_refcount_down}
use Rattle.msi_pool.proofs.PoolStays.{taken_stay_empty, used_stay_empty}
use Rattle.msi_pool.specs.declared.stringref.ValueRef.{ValueRef}
use Rattle.msi_pool.specs.declared.stringref.ValueRef.TheVariants as cell
use Rattle.msi_columns.specs.Cell.{cell_number, raised}
use Rattle.msi_columns.specs.Column.{Column, are_valid, column_place, is_binary, is_listed, is_valid, is_within, meets_category, number_fits, plain, text_fits}
use Rattle.msi_columns.specs.declared.column.ColumnType.{ColumnType}
use Rattle.msi_columns.specs.declared.column.ColumnType.TheVariants as kind
use Rattle.msi_tables.specs.Held.{rows_held}
use Rattle.msi_tables.specs.Rows.{AreRowsWritable, Row, can_write, kinds_of, max_rows}
use Rattle.msi_tables.specs.Table.{Table, are_distinct, key_values, keys_of}
use Rattle.msi_expr.specs.Formula.{Formula}
use Rattle.msi_expr.specs.Conditions.{knows_condition, matches}
use Rattle.msi_pool.specs.PoolState.{PoolState}
use Rattle.msi_pool.specs.declared.draft.PoolChanges.{PoolChanges}
use Rattle.msi_changes.specs.Prepared.{pool_after}
use Rattle.msi_changes.specs.Changes.{all_taken_back, cell_set, cells_set, counted, deleted, in_turn, inserted, is_valid_set, keys_after, new_keys, option_first, row_counted, row_set, rows_counted, rows_set, sets_key, taken_back, updated}
use Rattle.msi_changes.specs.Laws.{KeepsPlaces, KeepsShape}
use Rattle.msi_changes.proofs.CellUses.{after_ok}
use Rattle.std.proofs.lemmas.Bool.{and_parts}

-- ---- a cell that its column takes can be written

raised_some : (half : ℕ) (z : ℤ) → int_le (negsuc (half - 2)) z ≡ true → int_le z (pos (half - 1)) ≡ true → 2 ≤ half → is_some (raised half z) ≡ true
raised_some half (pos n) low high some = let less : nat_lt n half ≡ true = grind (arith, nat_tests, high, some) in rw less refl
raised_some half (negsuc n) low high some = let less : nat_lt (suc n) half ≡ true = grind (arith, nat_tests, low, some) in rw less refl

number_writes : (long : Bool) (k : ColumnType) (z : ℤ) → number_fits k z ≡ true → is_some (cell_number long k (cell.Int z)) ≡ true
number_writes long kind.Int16 z fits = let parts = and_parts (int_le (negsuc 32766) z) (int_le z (pos 32767)) fits in raised_some (2 ^ 15) z parts.0 parts.1 (omega arith)
number_writes long kind.Int32 z fits = let parts = and_parts (int_le (negsuc 2147483646) z) (int_le z (pos 2147483647)) fits in raised_some (2 ^ 31) z parts.0 parts.1 (omega arith)
number_writes long (kind.Str n) z fits = absurd (cc fits)
number_writes long kind.Binary z fits = absurd (cc fits)

text_writes : (long : Bool) (k : ColumnType) (t : List ℕ) (n : ℕ) → text_fits k t ≡ true → nat_le n (last_place long) ≡ true → is_some (cell_number long k (cell.Str n)) ≡ true
text_writes long kind.Int16 t n fits within = absurd (cc fits)
text_writes long kind.Int32 t n fits within = absurd (cc fits)
text_writes true (kind.Str m) t n fits within = refl
text_writes false (kind.Str m) t n fits within = let less : nat_lt n (2 ^ 16) ≡ true = grind (arith, nat_tests, within) in rw less refl
text_writes long kind.Binary t n fits within = absurd (cc fits)

null_writes : (long : Bool) (k : ColumnType) → not (is_binary k) ≡ true → is_some (cell_number long k cell.Null) ≡ true
null_writes long kind.Int16 other = refl
null_writes long kind.Int32 other = refl
null_writes long (kind.Str n) other = refl
null_writes long kind.Binary other = absurd (cc other)

binary_writes : (long : Bool) (k : ColumnType) → is_binary k ≡ true → is_some (cell_number long k cell.Binary) ≡ true
binary_writes long kind.Int16 is = absurd (cc is)
binary_writes long kind.Int32 is = absurd (cc is)
binary_writes long (kind.Str n) is = absurd (cc is)
binary_writes long kind.Binary is = refl

-- the number of a cell, where it has one
abbrev Writes : Bool → Column → ValueRef → Type 0
Writes long c v = is_some (cell_number long c.kind v) ≡ true

same_pool : (p : Pool) → KeepsPlaces p p
same_pool p = record { page = refl; long = refl; empty = λ h. h }

pub kept_then : (p q r : Pool) → KeepsPlaces p q → KeepsPlaces q r → KeepsPlaces p r
kept_then p q r h k = record { page = k.page ∙ h.page; long = k.long ∙ h.long; empty = λ z. k.empty (h.empty z) }

-- a value that is counted
record Counted (c : Column) (p : Pool) (valid : Bool) (r : ValueRef × Pool) : Type 0 where
  writes : valid ≡ true → Writes p.long c r.0
  keeps : KeepsPlaces p r.1

value_counted : (c : Column) (p : Pool) (d : Datum) → IfOk (counted p d) (Counted c p (is_valid c d))
value_counted c p null = record { writes = λ valid. null_writes p.long c.kind (and_parts c.nullable (not (is_binary c.kind)) valid).1; keeps = same_pool p }
value_counted c p (number z) = record { writes = λ valid. number_writes p.long c.kind z (and_parts (is_within c.range z) (number_fits c.kind z) valid).1; keeps = same_pool p }
value_counted c p (text t) = on (nat_le (place_among t p.places) (last_place p.long)) refl
  where
    on : (b : Bool) → nat_le (place_among t p.places) (last_place p.long) ≡ b
        → IfOk (or_refused {A = ValueRef × Pool} (option_map (λ n. (cell.Str n, used p t)) (if b then Some (place_among t p.places) else None)) InvalidInput) (Counted c p (is_valid c (text t)))
    on true within = record {
      writes = λ valid. text_writes p.long c.kind t (place_among t p.places) (and_parts (meets_category c.category t && is_listed c.choices t) (text_fits c.kind t) valid).1 within;
      keeps = record { page = refl; long = refl; empty = used_stay_empty t p.places };
    }
    on false within = tt
value_counted c p binary = record { writes = λ valid. binary_writes p.long c.kind valid; keeps = same_pool p }

value_taken : (p : Pool) (v : ValueRef) → IfOk (taken_back p v) (KeepsPlaces p)
value_taken p (cell.Str n) = on ((pool_entry_at p.places n).count == 0)
  where
    on : (b : Bool) → IfOk (if b then Err InvalidData else Ok (record p { places = with_refcount_down n p.places })) (KeepsPlaces p)
    on true = tt
    on false = record { page = refl; long = refl; empty = taken_stay_empty n p.places }
value_taken p cell.Null = same_pool p
value_taken p (cell.Int z) = same_pool p
value_taken p cell.Binary = same_pool p

-- ---- rows

-- a row that can be written
pub record Fits (long : Bool) (columns : List Column) (row : Row) : Type 0 where
  pub cells : length row ≡ length columns
  pub numbers : can_write long (kinds_of columns) row ≡ true

-- what stands there now, and the pool
pub record Leaves {Y : Type 0} (ok : Y → Type 0) (p : Pool) (r : Y × Pool) : Type 0 where
  pub fits : ok r.0
  pub keeps : KeepsPlaces p r.1

row_fits : (long : Bool) (columns : List Column) (p : Pool) (ds : List Datum) → p.long ≡ long → are_valid columns ds ≡ true → IfOk (row_counted p ds) (Leaves (Fits long columns) p)
row_fits long [] p [] wide valid = record { fits = record { cells = refl; numbers = refl }; keeps = same_pool p }
row_fits long [] p (d ∷ ds) wide valid = absurd (cc valid)
row_fits long (c ∷ cs) p [] wide valid = absurd (cc valid)
row_fits long (c ∷ cs) p (d ∷ ds) wide valid =
    let are = and_parts (is_valid c d) (are_valid cs ds) valid in
    after_ok _ _ (counted p d) (λ y. in_turn counted y.1 ds >>= λ ys. Ok (y.0 ∷ ys.0, ys.1)) (value_counted c p d)
    (λ y first. after_ok _ _ (in_turn counted y.1 ds) (λ ys. Ok (y.0 ∷ ys.0, ys.1)) (row_fits long cs y.1 ds (first.keeps.long ∙ wide) are.1)
    (λ ys rest. record {
      fits = record {
        cells = ap (λ n. suc n) rest.fits.cells;
        numbers = ap₂ (λ a b. a && b) (ap (λ w. is_some (cell_number w c.kind y.0)) (sym wide) ∙ first.writes are.0) rest.fits.numbers;
      };
      keeps = kept_then p y.1 ys.1 first.keeps rest.keeps;
    }))

module _ (long : Bool) {X Y : Type 0} (f : Pool → X → Result (Y × Pool) Error) (given : X → Type 0) (ok : Y → Type 0)
    (each : (p : Pool) (x : X) → p.long ≡ long → given x → IfOk (f p x) (Leaves ok p)) where
  all_fit : (p : Pool) (xs : List X) → p.long ≡ long → All given xs → IfOk (in_turn f p xs) (Leaves (All ok) p)
  all_fit p [] wide are = record { fits = λ k d within. absurd (omega (arith, within)); keeps = same_pool p }
  all_fit p (x ∷ xs) wide are =
      after_ok _ _ (f p x) (λ y. in_turn f y.1 xs >>= λ ys. Ok (y.0 ∷ ys.0, ys.1)) (each p x wide (All-head given x xs are))
      (λ y first. after_ok _ _ (in_turn f y.1 xs) (λ ys. Ok (y.0 ∷ ys.0, ys.1)) (all_fit y.1 xs (first.keeps.long ∙ wide) (All-tail given x xs are))
      (λ ys rest. record { fits = All-cons ok y.0 ys.0 first.fits rest.fits; keeps = kept_then p y.1 ys.1 first.keeps rest.keeps }))

abbrev IsValidRow : List Column → List Datum → Type 0
IsValidRow columns ds = are_valid columns ds ≡ true

each_valid : {X : Type 0} (p : X → Bool) (xs : List X) → list_all p xs ≡ true → All (λ x. p x ≡ true) xs
each_valid p [] all = λ k d within. absurd (omega (arith, within))
each_valid p (x ∷ xs) all = let are = and_parts (p x) (list_all p xs) all in All-cons (λ x. p x ≡ true) x xs are.0 (each_valid p xs are.1)

-- rows that can be written, one by one
pub each_fits : (long : Bool) (columns : List Column) (rows : List Row) → AreRowsWritable long columns rows → All (Fits long columns) rows
each_fits long columns rows are = λ k d within. record { cells = are.cells k d within; numbers = are.numbers k d within }

pub all_writable : (long : Bool) (columns : List Column) (rows : List Row) → All (Fits long columns) rows → AreRowsWritable long columns rows
all_writable long columns rows are = record { cells = λ k d within. (are k d within).cells; numbers = λ k d within. (are k d within).numbers }

-- ---- inserts

module _ (may : Bool) (pool : Pool) (t : Table) (new_rows : List (List Datum)) where
  insert_leaves : (v d few : Bool) (k : Result (Unit {0}) Error) (c : Result (List Row × Pool) Error) → (v ≡ true → IfOk c (Leaves (All (Fits pool.long t.columns)) pool))
      → IfOk (unless_not v InvalidInput >>= λ _. unless_not d InvalidData >>= λ _. k >>= λ _. unless_not may InvalidInput >>= λ _. unless_not few InvalidInput >>= λ _. c >>= λ r. Ok (t.rows ++ r.0, r.1))
      (KeepsShape pool t)
  insert_leaves v d few k c go = on v refl d k may few c go
    where
      on : (a : Bool) → v ≡ a → (d : Bool) (k : Result (Unit {0}) Error) (m few : Bool) (c : Result (List Row × Pool) Error) → (v ≡ true → IfOk c (Leaves (All (Fits pool.long t.columns)) pool))
          → IfOk (unless_not a InvalidInput >>= λ _. unless_not d InvalidData >>= λ _. k >>= λ _. unless_not m InvalidInput >>= λ _. unless_not few InvalidInput >>= λ _. c >>= λ r. Ok (t.rows ++ r.0, r.1))
          (KeepsShape pool t)
      on false is d k m few c go = tt
      on true is false k m few c go = tt
      on true is true (Err e) m few c go = tt
      on true is true (Ok u) false few c go = tt
      on true is true (Ok u) true false c go = tt
      on true is true (Ok u) true true (Err e) go = tt
      on true is true (Ok u) true true (Ok r) go = record {
        writable = λ old. all_writable pool.long t.columns (t.rows ++ r.0) (All-append (Fits pool.long t.columns) t.rows r.0 (each_fits pool.long t.columns t.rows old) (go is).fits);
        kept = (go is).keeps;
      }

  pub insert_shape : IfOk (inserted may pool t new_rows) (KeepsShape pool t)
  insert_shape =
      insert_leaves (list_all (are_valid t.columns) new_rows) (are_distinct (keys_of pool t)) (nat_le (length t.rows + length new_rows) max_rows)
      (new_keys (keys_of pool t) [] (map (key_values t.columns) new_rows)) (rows_counted pool new_rows)
      (λ valid. all_fit pool.long row_counted (IsValidRow t.columns) (Fits pool.long t.columns) (λ p ds wide is. row_fits pool.long t.columns p ds wide is) pool new_rows refl (each_valid (are_valid t.columns) new_rows valid))

-- ---- deletes

pub cells_taken : (p : Pool) (cells : Row) → IfOk (all_taken_back p cells) (KeepsPlaces p)
cells_taken p [] = same_pool p
cells_taken p (v ∷ vs) = after_ok (KeepsPlaces p) (KeepsPlaces p) (taken_back p v) (λ q. all_taken_back q vs) (value_taken p v) (λ q first. then_rest q first (all_taken_back q vs) (cells_taken q vs))
  where
    then_rest : (q : Pool) → KeepsPlaces p q → (r : Result Pool Error) → IfOk r (KeepsPlaces q) → IfOk r (KeepsPlaces p)
    then_rest q first (Ok r) rest = kept_then p q r first rest
    then_rest q first (Err e) rest = tt

module _ (may : Bool) (pool : Pool) (t : Table) (condition : Option Formula) where
  pub delete_shape : IfOk (deleted may pool t condition) (KeepsShape pool t)
  delete_shape =
      on (knows_condition t.columns condition && may) (all_taken_back pool (flat_map (λ row. row) (filter (matches pool t.columns condition) t.rows)))
      (cells_taken pool (flat_map (λ row. row) (filter (matches pool t.columns condition) t.rows)))
    where
      on : (a : Bool) (c : Result Pool Error) → IfOk c (KeepsPlaces pool)
          → IfOk (unless_not a InvalidInput >>= λ _. c >>= λ p. Ok (filter (λ row. not (matches pool t.columns condition row)) t.rows, p))
          (KeepsShape pool t)
      on false c keeps = tt
      on true (Err e) keeps = tt
      on true (Ok p) keeps = record {
        writable = λ old. all_writable pool.long t.columns (filter (λ row. not (matches pool t.columns condition row)) t.rows)
            (All-filter (λ row. not (matches pool t.columns condition row)) (Fits pool.long t.columns) t.rows (each_fits pool.long t.columns t.rows old));
        kept = keeps;
      }

-- ---- updates

-- the column at a place
record HasColumn (columns : List Column) (i : ℕ) (d : Datum) : Type 0 where
  column : Column
  there : slice_get columns i ≡ Some column
  valid : is_valid column d ≡ true

valid_column : (columns : List Column) (s : List ℕ × Datum) → is_valid_set columns s ≡ true → HasColumn columns (unwrap_or (column_place columns s.0) 0) s.1
valid_column columns s valid = on (column_place columns s.0) valid
  where
    at : (i : ℕ) (o : Option Column) → slice_get columns i ≡ o → list_any (λ c. bytes_eq c.name s.0 && is_valid c s.1) (option_to_list o) ≡ true → HasColumn columns i s.1
    at i None is h = absurd (cc h)
    at i (Some c) is h = record { column = c; there = is; valid = (and_parts (bytes_eq c.name s.0) (is_valid c s.1) (sym (or-false (bytes_eq c.name s.0 && is_valid c s.1)) ∙ h)).1 }

    on : (o : Option ℕ) → list_any (λ c. bytes_eq c.name s.0 && is_valid c s.1) (option_first o columns) ≡ true → HasColumn columns (unwrap_or o 0) s.1
    on None h = absurd (cc h)
    on (Some i) h = at i (slice_get columns i) refl h

set_writes : (long : Bool) (columns : List Column) (row : Row) (i : ℕ) (c : Column) (v : ValueRef) → slice_get columns i ≡ Some c → Writes long c v → can_write long (kinds_of columns) row ≡ true → can_write long (kinds_of columns) (slice_set row i v) ≡ true
set_writes long [] row i c v there writes can = absurd (cc there)
set_writes long (k ∷ ks) [] i c v there writes can = absurd (cc can)
set_writes long (k ∷ ks) (w ∷ ws) zero c v there writes can =
    let same : k ≡ c = cc there in
    let parts = and_parts (is_some (cell_number long k.kind w)) (can_write long (kinds_of ks) ws) can in
    ap₂ (λ a b. a && b) (ap (λ column. is_some (cell_number long column.kind v)) same ∙ writes) parts.1
set_writes long (k ∷ ks) (w ∷ ws) (suc i) c v there writes can =
    let parts = and_parts (is_some (cell_number long k.kind w)) (can_write long (kinds_of ks) ws) can in
    ap₂ (λ a b. a && b) parts.0 (set_writes long ks ws i c v there writes parts.1)

cell_fits : (long : Bool) (columns : List Column) (p : Pool) (row : Row) (s : List ℕ × Datum) → p.long ≡ long → is_valid_set columns s ≡ true → Fits long columns row → IfOk (cell_set columns p row s) (Leaves (Fits long columns) p)
cell_fits long columns p row s wide valid fits =
    let at = unwrap_or (column_place columns s.0) 0 in
    let has = valid_column columns s valid in
    after_ok _ _ (taken_back p (unwrap_or (slice_get row at) cell.Null)) (λ q. counted q s.1 >>= λ v. Ok (slice_set row at v.0, v.1)) (value_taken p (unwrap_or (slice_get row at) cell.Null))
    (λ q first. after_ok _ _ (counted q s.1) (λ v. Ok (slice_set row at v.0, v.1)) (value_counted has.column q s.1)
    (λ v given. record {
      fits = record {
        cells = length-set row at v.0 ∙ fits.cells;
        numbers = set_writes long columns row at has.column v.0 has.there (ap (λ w. is_some (cell_number w has.column.kind v.0)) (sym (first.long ∙ wide)) ∙ given.writes has.valid) fits.numbers;
      };
      keeps = kept_then p q v.1 first given.keeps;
    }))

cells_fit : (long : Bool) (columns : List Column) (p : Pool) (row : Row) (sets : List (List ℕ × Datum)) → p.long ≡ long → list_all (is_valid_set columns) sets ≡ true → Fits long columns row → IfOk (cells_set columns p row sets) (Leaves (Fits long columns) p)
cells_fit long columns p row [] wide valid fits = record { fits = fits; keeps = same_pool p }
cells_fit long columns p row (s ∷ ss) wide valid fits =
    let are = and_parts (is_valid_set columns s) (list_all (is_valid_set columns) ss) valid in
    after_ok _ _ (cell_set columns p row s) (λ r. cells_set columns r.1 r.0 ss) (cell_fits long columns p row s wide are.0 fits)
    (λ r first. then_rest r first (cells_set columns r.1 r.0 ss) (cells_fit long columns r.1 r.0 ss (first.keeps.long ∙ wide) are.1 first.fits))
  where
    then_rest : (r : Row × Pool) → Leaves (Fits long columns) p r → (c : Result (Row × Pool) Error) → IfOk c (Leaves (Fits long columns) r.1) → IfOk c (Leaves (Fits long columns) p)
    then_rest r first (Ok q) rest = record { fits = rest.fits; keeps = kept_then p r.1 q.1 first.keeps rest.keeps }
    then_rest r first (Err e) rest = tt

-- the pool is kept whatever the rows are
ok_so : {A : Type 0} (P Q : A → Type 0) → ((x : A) → P x → Q x) → (r : Result A Error) → IfOk r P → IfOk r Q
ok_so P Q so (Ok x) h = so x h
ok_so P Q so (Err e) h = tt

abbrev Keeps : {Y : Type 0} → Pool → Y × Pool → Type 0
Keeps p r = KeepsPlaces p r.1

value_keeps : (p : Pool) (d : Datum) → IfOk (counted p d) (Keeps p)
value_keeps p d = ok_so (Counted (plain [] kind.Binary) p (is_valid (plain [] kind.Binary) d)) (Keeps p) (λ r given. given.keeps) (counted p d) (value_counted (plain [] kind.Binary) p d)

cells_keep : (columns : List Column) (p : Pool) (row : Row) (sets : List (List ℕ × Datum)) → IfOk (cells_set columns p row sets) (Keeps p)
cells_keep columns p row [] = same_pool p
cells_keep columns p row (s ∷ ss) =
    let at = unwrap_or (column_place columns s.0) 0 in
    after_ok (Keeps p) (Keeps p) (cell_set columns p row s) (λ r. cells_set columns r.1 r.0 ss)
    (after_ok (KeepsPlaces p) (Keeps p) (taken_back p (unwrap_or (slice_get row at) cell.Null)) (λ q. counted q s.1 >>= λ v. Ok (slice_set row at v.0, v.1)) (value_taken p (unwrap_or (slice_get row at) cell.Null))
    (λ q first. after_ok (Keeps q) (Keeps p) (counted q s.1) (λ v. Ok (slice_set row at v.0, v.1)) (value_keeps q s.1) (λ v given. kept_then p q v.1 first given)))
    (λ r first. ok_so (Keeps r.1) (Keeps p) (λ q rest. kept_then p r.1 q.1 first rest) (cells_set columns r.1 r.0 ss) (cells_keep columns r.1 r.0 ss))

row_keeps : (columns : List Column) (sets : List (List ℕ × Datum)) (p : Pool) (row : Row) (b : Bool) → IfOk (row_set columns sets p (row, b)) (Keeps p)
row_keeps columns sets p row true = cells_keep columns p row sets
row_keeps columns sets p row false = same_pool p

rows_keep : (columns : List Column) (sets : List (List ℕ × Datum)) (p : Pool) (rs : List (Row × Bool)) → IfOk (rows_set columns p sets rs) (Keeps p)
rows_keep columns sets p [] = same_pool p
rows_keep columns sets p (r ∷ rs) =
    after_ok (Keeps p) (Keeps p) (row_set columns sets p r) (λ y. in_turn (row_set columns sets) y.1 rs >>= λ ys. Ok (y.0 ∷ ys.0, ys.1)) (row_keeps columns sets p r.0 r.1)
    (λ y first. after_ok (Keeps y.1) (Keeps p) (in_turn (row_set columns sets) y.1 rs) (λ ys. Ok (y.0 ∷ ys.0, ys.1)) (rows_keep columns sets y.1 rs) (λ ys rest. kept_then p y.1 ys.1 first rest))

row_fit : (long : Bool) (columns : List Column) (sets : List (List ℕ × Datum)) → list_all (is_valid_set columns) sets ≡ true → (p : Pool) (row : Row) (b : Bool) → p.long ≡ long → Fits long columns row → IfOk (row_set columns sets p (row, b)) (Leaves (Fits long columns) p)
row_fit long columns sets valid p row true wide fits = cells_fit long columns p row sets wide valid fits
row_fit long columns sets valid p row false wide fits = record { fits = fits; keeps = same_pool p }

module _ (may : Bool) (pool : Pool) (t : Table) (sets : List (List ℕ × Datum)) (condition : Option Formula) where
  abbrev marked : List (Row × Bool)
  marked = map (λ row. (row, matches pool t.columns condition row)) t.rows

  marked_fit : AreRowsWritable pool.long t.columns t.rows → All (λ r. Fits pool.long t.columns r.0) marked
  marked_fit old = All-map (λ r. Fits pool.long t.columns r.0) (λ row. (row, matches pool t.columns condition row)) t.rows (each_fits pool.long t.columns t.rows old)

  update_leaves : (v k d : Bool) (c : Result (List Row × Pool) Error) → IfOk c (Keeps pool) → (v ≡ true → AreRowsWritable pool.long t.columns t.rows → IfOk c (Leaves (All (Fits pool.long t.columns)) pool))
      → IfOk (unless_not (v && k && may) InvalidInput >>= λ _. unless_not d AlreadyExists >>= λ _. c) (KeepsShape pool t)
  update_leaves v k d c keeps go = on v refl k may d c keeps go
    where
      on : (a : Bool) → v ≡ a → (k m d : Bool) (c : Result (List Row × Pool) Error) → IfOk c (Keeps pool) → (v ≡ true → AreRowsWritable pool.long t.columns t.rows → IfOk c (Leaves (All (Fits pool.long t.columns)) pool))
          → IfOk (unless_not (a && k && m) InvalidInput >>= λ _. unless_not d AlreadyExists >>= λ _. c) (KeepsShape pool t)
      on false is k m d c keeps go = tt
      on true is false m d c keeps go = tt
      on true is true false d c keeps go = tt
      on true is true true false c keeps go = tt
      on true is true true true (Err e) keeps go = tt
      on true is true true true (Ok r) keeps go = record { writable = λ old. all_writable pool.long t.columns r.0 (go is old).fits; kept = keeps }

  pub update_shape : IfOk (updated may pool t sets condition) (KeepsShape pool t)
  update_shape =
      update_leaves (list_all (is_valid_set t.columns) sets) (knows_condition t.columns condition) (not (sets_key t.columns sets) || are_distinct (keys_after pool t sets condition))
      (rows_set t.columns pool sets marked) (rows_keep t.columns sets pool marked)
      (λ valid old. all_fit pool.long (row_set t.columns sets) (λ r. Fits pool.long t.columns r.0) (Fits pool.long t.columns) (λ p r wide fits. row_fit pool.long t.columns sets valid p r.0 r.1 wide fits) pool marked refl (marked_fit old))

-- ---- what is answered

pub shape_told : (state : PoolState) (t : Table) (before : List Row) (r : Result (Vec (Vec ValueRef Global) Global × PoolChanges) Error) (expected : Result (List Row × Pool) Error)
    → ReturnsOrOutOfMemory (λ r. (before ++ rows_held r.0.items, pool_after state r.1)) r expected
    → IfOk expected (KeepsShape state.pool t) → AreRowsWritable state.pool.long t.columns t.rows → IfOk r (λ r. AreRowsWritable state.pool.long t.columns (before ++ rows_held r.0.items))
shape_told state t before (Ok r) expected is keeps old = let told : KeepsShape state.pool t (before ++ rows_held r.0.items, pool_after state r.1) = (rw is at keeps) in told.writable old
shape_told state t before (Err e) expected is keeps old = tt
