-- Rows that can be written: those that are read, and those that are told to be.
use Rattle.std.proofs.Common.{◌≡◌, ◌<◌, ◌+◌, ◌*◌, ◌-◌, ◌^◌, ℕ, zero, suc, Bool, true, false, cond, List, [], ◌∷◌, length, map, drop, take, get_or, refl, ap, ap₂, ◌∙◌, Option, Some, None, arith, ℤ, pos, negsuc, nat_lt}
use Rattle.std.specs.Prelude.{IfOk, IsTrue, Result, Ok, Err, Vec, is_some, option_map, slice_index, slice_range, ◌-ℤ◌, ◌&&◌, nat_le}
use Rattle.std.specs.List.{All, list_all}
use Rattle.std.specs.List.Sorted.{IsPermutation}
use Rattle.std.specs.Fmt.{◌++?◌}
use Rattle.std.specs.Ordering.{is_lt}
use Rattle.std.proofs.Math.Nat.{pow-suc}
use Rattle.std.proofs.lemmas.List.{length-map, get_or-drop}
use Rattle.std.proofs.lemmas.List.Elements.{All-cons, All-head, All-map, All-tail}
use Rattle.std.proofs.lemmas.List.Sorted.{All-permutation, IsPermutation-trans}
use Rattle.std.proofs.lemmas.Int.{ints}
use Rattle.std.proofs.lemmas.Bool.Decides.{nat_tests}
use Rattle.std.specs.declared.alloc.Global.{Global}
use Rattle.cfb_medium.specs.declared.error.Error.{Error}
use Rattle.msi_texts.specs.Numbers.{le_bytes, le_number}
use Rattle.msi_pool.specs.Pool.{Pool}
use Rattle.msi_pool.specs.declared.stringref.ValueRef.{ValueRef}
use Rattle.msi_pool.specs.declared.stringref.ValueRef.TheVariants as cell
use Rattle.msi_columns.specs.Cell.{width_of, cell_number, cell_value, above, raised}
use Rattle.msi_columns.specs.Column.{Column}
use Rattle.msi_columns.specs.declared.column.ColumnType.{ColumnType}
use Rattle.msi_columns.specs.declared.column.ColumnType.TheVariants as kind
use Rattle.msi_tables.specs.Rows.{AreRowsWritable, IsRead, IsStored, Row, can_write, column_bytes, first_cells, kinds_of, max_rows, numbers_from, row_at, row_cmp, row_count, rows_bytes, rows_of}
use Rattle.msi_tables.specs.Held.{rows_held}
use Rattle.msi_tables.specs.Table.{IsStoredByKeys, row_key_cmp}
use Rattle.msi_tables.proofs.Arranged.{moved}
use Rattle.msi_tables.proofs.Keys.{key_order}
use Rattle.msi_tables.proofs.Stored.{stored_order}
use Rattle.std.proofs.lemmas.Bool.{and_parts}

-- ---- rows that can be written have bytes

abbrev HasBytes : Option (List ℕ) → Type 0
HasBytes o = (bytes : List ℕ) × (o ≡ Some bytes)

joined : (a b : Option (List ℕ)) → HasBytes a → HasBytes b → HasBytes (a ++? b)
joined (Some x) (Some y) h k = (_, refl)
joined (Some x) None h k = absurd (cc k.1)
joined None b h k = absurd (cc h.1)

column_has : (long : Bool) (k : ColumnType) (vs : Row) → list_all (λ v. is_some (cell_number long k v)) vs ≡ true → HasBytes (column_bytes long k vs)
column_has long k [] h = ([], refl)
column_has long k (v ∷ vs) h =
    on (cell_number long k v) (and_parts (is_some (cell_number long k v)) (list_all (λ v. is_some (cell_number long k v)) vs) h).0
    (column_has long k vs (and_parts (is_some (cell_number long k v)) (list_all (λ v. is_some (cell_number long k v)) vs) h).1)
  where
    on : (o : Option ℕ) → is_some o ≡ true → HasBytes (column_bytes long k vs) → HasBytes (option_map (le_bytes (width_of long k)) o ++? column_bytes long k vs)
    on (Some n) is rest = joined (Some (le_bytes (width_of long k) n)) (column_bytes long k vs) (_, refl) rest
    on None is rest = absurd (cc is)

abbrev AllCan : Bool → List ColumnType → List Row → Type 0
AllCan long ks rows = All (λ row. IsTrue (can_write long ks row)) rows

first_can : (long : Bool) (k : ColumnType) (ks : List ColumnType) (rows : List Row) → AllCan long (k ∷ ks) rows → list_all (λ v. is_some (cell_number long k v)) (first_cells rows) ≡ true
first_can long k ks [] h = refl
first_can long k ks ([] ∷ rows) h = absurd (cc (All-head (λ row. IsTrue (can_write long (k ∷ ks) row)) [] rows h))
first_can long k ks ((v ∷ vs) ∷ rows) h =
    ap₂ (λ x y. x && y) (and_parts (is_some (cell_number long k v)) (can_write long ks vs) (All-head (λ row. IsTrue (can_write long (k ∷ ks) row)) (v ∷ vs) rows h)).0
    (first_can long k ks rows (All-tail (λ row. IsTrue (can_write long (k ∷ ks) row)) (v ∷ vs) rows h))

later_can : (long : Bool) (k : ColumnType) (ks : List ColumnType) (rows : List Row) → AllCan long (k ∷ ks) rows → AllCan long ks (map (drop 1) rows)
later_can long k ks [] h = λ i d below. absurd (omega (arith, below))
later_can long k ks ([] ∷ rows) h = absurd (cc (All-head (λ row. IsTrue (can_write long (k ∷ ks) row)) [] rows h))
later_can long k ks ((v ∷ vs) ∷ rows) h =
    All-cons (λ row. IsTrue (can_write long ks row)) vs (map (drop 1) rows)
    (and_parts (is_some (cell_number long k v)) (can_write long ks vs) (All-head (λ row. IsTrue (can_write long (k ∷ ks) row)) (v ∷ vs) rows h)).1
    (later_can long k ks rows (All-tail (λ row. IsTrue (can_write long (k ∷ ks) row)) (v ∷ vs) rows h))

rows_have : (long : Bool) (ks : List ColumnType) (rows : List Row) → AllCan long ks rows → HasBytes (rows_bytes long ks rows)
rows_have long [] rows h = ([], refl)
rows_have long (k ∷ ks) rows h =
    joined (column_bytes long k (first_cells rows)) (rows_bytes long ks (map (drop 1) rows)) (column_has long k (first_cells rows) (first_can long k ks rows h))
    (rows_have long ks (map (drop 1) rows) (later_can long k ks rows h))

pub writable_rows_have_bytes : (long : Bool) (columns : List Column) (rows : List Row) → AreRowsWritable long columns rows → HasBytes (rows_bytes long (kinds_of columns) rows)
writable_rows_have_bytes long columns rows h = rows_have long (kinds_of columns) rows h.numbers

-- ---- rows that are read can be written

number_below : (w : ℕ) (bytes : List ℕ) → ((i : ℕ) → slice_index bytes i < 256) → le_number (take w bytes) < 256 ^ w
number_below zero bytes small = omega arith
number_below (suc w) [] small = some (256 ^ suc w) (omega (arith, pow-suc 256 w, number_below w [] small))
  where
    some : (n : ℕ) → 0 < n → 0 < n
    some n h = h
number_below (suc w) (b ∷ bs) small =
    let rest = number_below w bs (λ i. small (suc i)) in
    omega (arith, pow-suc 256 w, rest, small 0)

raised_below : (half : ℕ) (z : ℤ) (n : ℕ) → z ≡ pos (suc n) -ℤ pos half → suc n < half + half → is_some (raised half z) ≡ true
raised_below half (pos m) n is below = let less : nat_lt m half ≡ true = (let low : m < half = omega (arith, ints, is) in grind (arith, nat_tests, low)) in rw less refl
raised_below half (negsuc m) n is below = let less : nat_lt (suc m) half ≡ true = (let low : suc m < half = omega (arith, ints, is) in grind (arith, nat_tests, low)) in rw less refl

above_can : (long : Bool) (n half : ℕ) → n < half + half → (v : ValueRef) → v ≡ above half n → (number : ValueRef → Option ℕ) → number cell.Null ≡ Some 0 → ((z : ℤ) → number (cell.Int z) ≡ raised half z) → is_some (number v) ≡ true
above_can long zero half below v is number none some = rw (is, none) refl
above_can long (suc n) half below v is number none some = rw (is, some (pos (suc n) -ℤ pos half)) (raised_below half (pos (suc n) -ℤ pos half) n refl below)

cell_can : (long : Bool) (k : ColumnType) (n : ℕ) → n < 256 ^ width_of long k → is_some (cell_number long k (cell_value k n)) ≡ true
cell_can long kind.Int16 n below = above_can long n (2 ^ 15) (omega (arith, below)) (above (2 ^ 15) n) refl (cell_number long kind.Int16) refl (λ z. refl)
cell_can long kind.Int32 n below = above_can long n (2 ^ 31) (omega (arith, below)) (above (2 ^ 31) n) refl (cell_number long kind.Int32) refl (λ z. refl)
cell_can true (kind.Str m) zero below = refl
cell_can true (kind.Str m) (suc n) below = refl
cell_can false (kind.Str m) zero below = refl
cell_can false (kind.Str m) (suc n) below = let less : nat_lt (suc n) (2 ^ 16) ≡ true = grind (arith, nat_tests, below) in rw less refl
cell_can long kind.Binary n below = refl

module _ (long : Bool) (n : ℕ) (bytes : List ℕ) (small : (i : ℕ) → slice_index bytes i < 256) where
  small_from : (s i : ℕ) → slice_index (drop s bytes) i < 256
  small_from s i = rw (get_or-drop {A = ℕ}) (small (s + i))

  row_can : (before : ℕ) (ks : List ColumnType) (r : ℕ) → can_write long ks (row_at long n bytes before ks r) ≡ true
  row_can before [] r = refl
  row_can before (k ∷ ks) r =
      let w = width_of long k in
      let start = n * before + r * w in
      let width : (start + w) - start ≡ w = omega arith in
      let below : le_number (slice_range bytes start (start + w)) < 256 ^ w = rw width (number_below w (drop start bytes) (small_from start)) in
      ap₂ (λ x y. x && y) (cell_can long k (le_number (slice_range bytes start (start + w))) below) (row_can (before + w) ks r)

  row_cells : (before : ℕ) (ks : List ColumnType) (r : ℕ) → length (row_at long n bytes before ks r) ≡ length ks
  row_cells before [] r = refl
  row_cells before (k ∷ ks) r = ap (λ m. suc m) (row_cells (before + width_of long k) ks r)

each_of : {X : Type 0} (P : Row → Type 0) (f : X → Row) (xs : List X) → ((x : X) → P (f x)) → All P (map f xs)
each_of P f xs all = All-map P f xs (λ i d below. all (get_or xs i d))

module _ (long : Bool) (columns : List Column) (bytes : List ℕ) (small : (i : ℕ) → slice_index bytes i < 256) where
  abbrev count : ℕ
  count = row_count long (kinds_of columns) bytes

  abbrev read : List Row
  read = map (row_at long count bytes 0 (kinds_of columns)) (numbers_from 0 count)

  read_are : AreRowsWritable long columns read
  read_are = record {
    cells = each_of (λ row. length row ≡ length columns) (row_at long count bytes 0 (kinds_of columns)) (numbers_from 0 count)
        (λ r. row_cells long count bytes small 0 (kinds_of columns) r ∙ length-map columns (λ c. c.kind));
    numbers = each_of (λ row. IsTrue (can_write long (kinds_of columns) row)) (row_at long count bytes 0 (kinds_of columns)) (numbers_from 0 count)
        (row_can long count bytes small 0 (kinds_of columns));
  }

  pub read_rows_are_writable : (rows : List Row) → rows_of long (kinds_of columns) bytes ≡ Some rows → AreRowsWritable long columns rows
  read_rows_are_writable rows is = on (nat_le count max_rows) is
    where
      on : (b : Bool) → cond b (Some read) None ≡ Some rows → AreRowsWritable long columns rows
      on true e = let same : read ≡ rows = cc e in rw (← same) read_are
      on false e = absurd (cc e)

  pub shape_read : (r : Result (Vec (Vec ValueRef Global) Global) Error) → IsRead long (kinds_of columns) bytes r → IfOk r (λ rows. AreRowsWritable long columns (rows_held rows.items))
  shape_read (Ok rows) is = read_rows_are_writable (rows_held rows.items) is
  shape_read (Err e) is = tt

-- ---- other orders

pub moved_rows_are_writable : (long : Bool) (columns : List Column) (rows stored : List Row) → IsPermutation rows stored → AreRowsWritable long columns rows → AreRowsWritable long columns stored
moved_rows_are_writable long columns rows stored is h = record {
  cells = All-permutation (λ row. length row ≡ length columns) rows stored is h.cells;
  numbers = All-permutation (λ row. IsTrue (can_write long (kinds_of columns) row)) rows stored is h.numbers;
}

pub stored_rows_move : (columns : List Column) (rows stored : List Row) → IsStored columns rows stored → IsPermutation rows stored
stored_rows_move columns rows stored is = moved (λ x y. is_lt (row_cmp columns x y)) (stored_order columns) (length rows) rows stored (omega arith) is.stable

pub rows_move_by_keys : (pool : Pool) (columns : List Column) (rows stored : List Row) → IsStoredByKeys pool columns rows stored → IsPermutation rows stored
rows_move_by_keys pool columns rows stored is =
    IsPermutation-trans rows is.0 stored (moved (λ x y. is_lt (row_key_cmp pool columns x y)) (key_order pool columns) (length rows) rows is.0 (omega arith) is.1.stable)
    (stored_rows_move columns is.0 stored is.2)
