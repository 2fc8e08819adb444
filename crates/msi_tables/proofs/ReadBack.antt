-- Rows that are written are read as they were.
use Rattle.std.proofs.Common.{◌≡◌, ◌<◌, ◌≤◌, ◌+◌, ◌*◌, ◌-◌, ◌/◌, ◌^◌, ℕ, zero, suc, Bool, true, false, cond, List, [], ◌∷◌, ◌++◌, length, map, drop, take, get_or, refl, sym, ap, ap₂, ◌∙◌, append_assoc, length-append, length-drop, Option, Some, None, arith, ℤ, pos, negsuc, nat_lt, nat_eq, nat_le}
use Rattle.std.specs.Prelude.{IsTrue, option_map, slice_range, ◌-ℤ◌, ◌&&◌}
use Rattle.std.specs.List.{All, list_all}
use Rattle.std.specs.Fmt.{◌++?◌}
use Rattle.std.proofs.Math.Nat.{suc-mul, mul-le-mul_right, mul-div_cancel}
use borrow.Author.Tests.{ltb-true}
use Rattle.std.proofs.Math.Seq.{take-append_seam, drop-append-add}
use Rattle.std.proofs.lemmas.List.{length-map, take-append-le, drop-append-le}
use Rattle.std.proofs.lemmas.List.Elements.{All-cons, All-head, All-tail}
use Rattle.std.proofs.lemmas.Int.{ints}
use Rattle.std.proofs.lemmas.Bool.Decides.{nat_tests}
use Rattle.msi_texts.specs.Numbers.{le_bytes, le_number}
use Rattle.msi_pool.specs.declared.stringref.ValueRef.{ValueRef}
use Rattle.msi_pool.specs.declared.stringref.ValueRef.TheVariants as cell
use Rattle.msi_columns.specs.Cell.{width_of, cell_number, cell_value, above, raised, place_or_null}
use Rattle.msi_tables.specs.Rows.{Row, row_width, row_count, row_at, numbers_from, max_rows, rows_of, first_cells, column_bytes, rows_bytes, HaveCells, has_place, ReadBack}
use Rattle.msi_columns.specs.declared.column.ColumnType.{ColumnType}
use Rattle.msi_columns.specs.declared.column.ColumnType.TheVariants as kind
use Rattle.std.proofs.lemmas.Bool.{and_parts}
use Rattle.msi_texts.proofs.NumberBytes.{le_back, length-le_bytes}

-- ---- a cell

above_some : (half m : ℕ) → 0 < m → above half m ≡ cell.Int (pos m -ℤ pos half)
above_some half zero some = absurd (omega (arith, some))
above_some half (suc m) some = refl

place_some : (n : ℕ) → 0 < n → place_or_null n ≡ cell.Str n
place_some zero some = absurd (omega (arith, some))
place_some (suc n) some = refl

back_up : (n half : ℕ) → pos (n + half) -ℤ pos half ≡ pos n
back_up n half = omega (arith, ints)

back_down : (n half : ℕ) → suc n < half → pos (half - suc n) -ℤ pos half ≡ negsuc n
back_down n half below = omega (arith, ints)

raised_back : (half : ℕ) (z : ℤ) (m : ℕ) → raised half z ≡ Some m → (above half m ≡ cell.Int z) × (m < half + half)
raised_back half (pos n) m is = go (nat_lt n half) refl is
  where
    go : (b : Bool) → nat_lt n half ≡ b → cond b (Some (n + half)) None ≡ Some m → (above half m ≡ cell.Int (pos n)) × (m < half + half)
    go true below is =
        let less : n < half = ltb-true n half below in
        let same : n + half ≡ m = cc is in
        rw (← same) (above_some half (n + half) (omega arith) ∙ ap cell.Int (back_up n half), omega arith)
    go false below is = absurd (cc is)
raised_back half (negsuc n) m is = go (nat_lt (suc n) half) refl is
  where
    go : (b : Bool) → nat_lt (suc n) half ≡ b → cond b (Some (half - suc n)) None ≡ Some m → (above half m ≡ cell.Int (negsuc n)) × (m < half + half)
    go true below is =
        let less : suc n < half = ltb-true (suc n) half below in
        let same : half - suc n ≡ m = cc is in
        rw (← same) (above_some half (half - suc n) (omega arith) ∙ ap cell.Int (back_down n half less), omega arith)
    go false below is = absurd (cc is)

null_back : (w half m : ℕ) → Some 0 ≡ Some m → le_number (le_bytes w 0) ≡ 0 → above half (le_number (le_bytes w m)) ≡ cell.Null
null_back w half m is none = let same : 0 ≡ m = cc is in rw (← same) (ap (above half) none)

no_place : (w m : ℕ) → Some 0 ≡ Some m → le_number (le_bytes w 0) ≡ 0 → place_or_null (le_number (le_bytes w m)) ≡ cell.Null
no_place w m is none = let same : 0 ≡ m = cc is in rw (← same) (ap place_or_null none)

-- the number of a cell is written whole, and the cell comes back from it
cell_back : (long : Bool) (k : ColumnType) (v : ValueRef) (m : ℕ) → cell_number long k v ≡ Some m → has_place v ≡ true → cell_value k (le_number (le_bytes (width_of long k) m)) ≡ v
cell_back long kind.Int16 cell.Null m is place = null_back 2 (2 ^ 15) m is refl
cell_back long kind.Int16 (cell.Int z) m is place = let b = raised_back (2 ^ 15) z m is in rw (le_back 2 m b.1) b.0
cell_back long kind.Int16 (cell.Str n) m is place = absurd (cc is)
cell_back long kind.Int16 cell.Binary m is place = absurd (cc is)
cell_back long kind.Int32 cell.Null m is place = null_back 4 (2 ^ 31) m is refl
cell_back long kind.Int32 (cell.Int z) m is place = let b = raised_back (2 ^ 31) z m is in rw (le_back 4 m b.1) b.0
cell_back long kind.Int32 (cell.Str n) m is place = absurd (cc is)
cell_back long kind.Int32 cell.Binary m is place = absurd (cc is)
cell_back true (kind.Str k) cell.Null m is place = no_place 3 m is refl
cell_back false (kind.Str k) cell.Null m is place = no_place 2 m is refl
cell_back long (kind.Str k) (cell.Int z) m is place = absurd (cc is)
cell_back true (kind.Str k) (cell.Str n) m is place =
    let same : n ≡ m = cc is in
    let low : 0 < n = ltb-true 0 n (and_parts _ _ place).0 in
    let high : n < 2 ^ 24 = ltb-true n (2 ^ 24) (and_parts _ _ place).1 in
    rw (← same) (ap place_or_null (le_back 3 n high) ∙ place_some n low)
cell_back false (kind.Str k) (cell.Str n) m is place = go (nat_lt n (2 ^ 16)) refl is
  where
    go : (b : Bool) → nat_lt n (2 ^ 16) ≡ b → cond b (Some n) None ≡ Some m → place_or_null (le_number (le_bytes 2 m)) ≡ cell.Str n
    go true below is =
        let same : n ≡ m = cc is in
        let low : 0 < n = ltb-true 0 n (and_parts _ _ place).0 in
        rw (← same) (ap place_or_null (le_back 2 n (ltb-true n (2 ^ 16) below)) ∙ place_some n low)
    go false below is = absurd (cc is)
cell_back long (kind.Str k) cell.Binary m is place = absurd (cc is)
cell_back long kind.Binary cell.Null m is place = absurd (cc is)
cell_back long kind.Binary (cell.Int z) m is place = absurd (cc is)
cell_back long kind.Binary (cell.Str n) m is place = absurd (cc is)
cell_back long kind.Binary cell.Binary m is place = refl

-- ---- pieces

split : (a b : Option (List ℕ)) (whole : List ℕ) → a ++? b ≡ Some whole → (x y : List ℕ) × (a ≡ Some x) × (b ≡ Some y) × (whole ≡ x ++ y)
split None b whole is = absurd (cc is)
split (Some x) None whole is = absurd (cc is)
split (Some x) (Some y) whole is = (x, y, refl, refl, cc is)

some_bytes : (w : ℕ) (number : Option ℕ) (x : List ℕ) → option_map (le_bytes w) number ≡ Some x → (m : ℕ) × (number ≡ Some m) × (x ≡ le_bytes w m)
some_bytes w None x is = absurd (cc is)
some_bytes w (Some m) x is = (m, refl, sym (cc is))

-- ---- a column

column_length : (long : Bool) (k : ColumnType) (vs : Row) (b : List ℕ) → column_bytes long k vs ≡ Some b → length b ≡ length vs * width_of long k
column_length long k [] b is = let same : [] ≡ b = cc is in rw (← same) (omega arith)
column_length long k (v ∷ vs) b is =
    let parts = split (option_map (le_bytes (width_of long k)) (cell_number long k v)) (column_bytes long k vs) b is in
    let own = some_bytes (width_of long k) (cell_number long k v) parts.0 parts.2 in
    let front : length parts.0 ≡ width_of long k = ap length own.2 ∙ length-le_bytes (width_of long k) own.0 in
    let rest : length parts.1 ≡ length vs * width_of long k = column_length long k vs parts.1 parts.3 in
    let all : length b ≡ length parts.0 + length parts.1 = ap length parts.4 ∙ length-append parts.0 parts.1 in
    let product : suc (length vs) * width_of long k ≡ length vs * width_of long k + width_of long k = suc-mul (length vs) (width_of long k) in
    omega (arith, front, rest, all, product)

-- a cell stands behind those before it
cell_at : (long : Bool) (k : ColumnType) (vs : Row) (b : List ℕ) (r : ℕ) → column_bytes long k vs ≡ Some b → r < length vs → list_all has_place vs ≡ true →
    cell_value k (le_number (take (width_of long k) (drop (r * width_of long k) b))) ≡ get_or vs r cell.Null
cell_at long k [] b r is below places = absurd (omega (arith, below))
cell_at long k (v ∷ vs) b zero is below places =
    let w = width_of long k in
    let parts = split (option_map (le_bytes w) (cell_number long k v)) (column_bytes long k vs) b is in
    let own = some_bytes w (cell_number long k v) parts.0 parts.2 in
    let front : length parts.0 ≡ w = ap length own.2 ∙ length-le_bytes w own.0 in
    let none : 0 * w ≡ 0 = omega arith in
    let cut : take w (drop (0 * w) b) ≡ le_bytes w own.0 =
    ap₂ (λ n bs. take w (drop n bs)) none parts.4 ∙ ap (λ n. take n (parts.0 ++ parts.1)) (sym front) ∙ take-append_seam parts.0 parts.1 ∙ own.2 in
    rw cut (cell_back long k v own.0 own.1 (and_parts _ _ places).0)
cell_at long k (v ∷ vs) b (suc r) is below places =
    let w = width_of long k in
    let parts = split (option_map (le_bytes w) (cell_number long k v)) (column_bytes long k vs) b is in
    let own = some_bytes w (cell_number long k v) parts.0 parts.2 in
    let front : length parts.0 ≡ w = ap length own.2 ∙ length-le_bytes w own.0 in
    let place : suc r * w ≡ length parts.0 + r * w = omega (arith, suc-mul r w, front) in
    let cut : drop (suc r * w) b ≡ drop (r * w) parts.1 = ap₂ (λ n bs. drop n bs) place parts.4 ∙ drop-append-add parts.0 parts.1 (r * w) in
    rw cut (cell_at long k vs parts.1 r parts.3 (omega (arith, below)) (and_parts _ _ places).1)

-- ---- rows

abbrev AllPlaced : List Row → Type 0
AllPlaced rows = All (λ row. IsTrue (list_all has_place row)) rows

no_rows : (P : Row → Type 0) → All P []
no_rows P = λ k d below. absurd (omega (arith, below))

first_count : (m : ℕ) (rows : List Row) → HaveCells (suc m) rows → length (first_cells rows) ≡ length rows
first_count m [] all = refl
first_count m ([] ∷ rows) all = absurd (cc (All-head (λ row. length row ≡ suc m) [] rows all))
first_count m ((v ∷ vs) ∷ rows) all = ap (λ n. suc n) (first_count m rows (All-tail (λ row. length row ≡ suc m) (v ∷ vs) rows all))

later_count : (m : ℕ) (rows : List Row) → HaveCells (suc m) rows → HaveCells m (map (drop 1) rows)
later_count m [] all = no_rows (λ row. length row ≡ m)
later_count m ([] ∷ rows) all = absurd (cc (All-head (λ row. length row ≡ suc m) [] rows all))
later_count m ((v ∷ vs) ∷ rows) all =
    let own : length (v ∷ vs) ≡ suc m = All-head (λ row. length row ≡ suc m) (v ∷ vs) rows all in
    All-cons (λ row. length row ≡ m) vs (map (drop 1) rows) (omega (arith, own)) (later_count m rows (All-tail (λ row. length row ≡ suc m) (v ∷ vs) rows all))

both : (a b : Bool) → a ≡ true → b ≡ true → (a && b) ≡ true
both a b p q = rw (p, q) refl

first_placed : (rows : List Row) → AllPlaced rows → list_all has_place (first_cells rows) ≡ true
first_placed [] all = refl
first_placed ([] ∷ rows) all = first_placed rows (All-tail (λ row. IsTrue (list_all has_place row)) [] rows all)
first_placed ((v ∷ vs) ∷ rows) all =
    both (has_place v) (list_all has_place (first_cells rows))
    (and_parts (has_place v) (list_all has_place vs) (All-head (λ row. IsTrue (list_all has_place row)) (v ∷ vs) rows all)).0
    (first_placed rows (All-tail (λ row. IsTrue (list_all has_place row)) (v ∷ vs) rows all))

later_placed : (rows : List Row) → AllPlaced rows → AllPlaced (map (drop 1) rows)
later_placed [] all = no_rows (λ row. IsTrue (list_all has_place row))
later_placed ([] ∷ rows) all =
    All-cons (λ row. IsTrue (list_all has_place row)) [] (map (drop 1) rows) refl (later_placed rows (All-tail (λ row. IsTrue (list_all has_place row)) [] rows all))
later_placed ((v ∷ vs) ∷ rows) all =
    All-cons (λ row. IsTrue (list_all has_place row)) vs (map (drop 1) rows)
    (and_parts (has_place v) (list_all has_place vs) (All-head (λ row. IsTrue (list_all has_place row)) (v ∷ vs) rows all)).1
    (later_placed rows (All-tail (λ row. IsTrue (list_all has_place row)) (v ∷ vs) rows all))

-- a row is its first cell and the others
row_parts : (m : ℕ) (rows : List Row) (r : ℕ) → HaveCells (suc m) rows → r < length rows → get_or (first_cells rows) r cell.Null ∷ get_or (map (drop 1) rows) r [] ≡ get_or rows r []
row_parts m [] r all below = absurd (omega (arith, below))
row_parts m ([] ∷ rows) r all below = absurd (cc (All-head (λ row. length row ≡ suc m) [] rows all))
row_parts m ((v ∷ vs) ∷ rows) zero all below = refl
row_parts m ((v ∷ vs) ∷ rows) (suc r) all below = row_parts m rows r (All-tail (λ row. length row ≡ suc m) (v ∷ vs) rows all) (omega (arith, below))

spread : (n a b : ℕ) → n * (a + b) ≡ n * a + n * b
spread n a b = omega arith

-- the bytes of all rows
all_length : (long : Bool) (ks : List ColumnType) (rows : List Row) (bytes : List ℕ) → HaveCells (length ks) rows → rows_bytes long ks rows ≡ Some bytes → length bytes ≡ length rows * row_width long ks
all_length long [] rows bytes all is = let same : [] ≡ bytes = cc is in rw (← same) (omega arith)
all_length long (k ∷ ks) rows bytes all is =
    let parts = split (column_bytes long k (first_cells rows)) (rows_bytes long ks (map (drop 1) rows)) bytes is in
    let own : length parts.0 ≡ length rows * width_of long k = column_length long k (first_cells rows) parts.0 parts.2 ∙ ap (λ n. n * width_of long k) (first_count (length ks) rows all) in
    let rest : length parts.1 ≡ length rows * row_width long ks =
    all_length long ks (map (drop 1) rows) parts.1 (later_count (length ks) rows all) parts.3 ∙ ap (λ n. n * row_width long ks) (length-map rows (drop 1)) in
    let total : length bytes ≡ length parts.0 + length parts.1 = ap length parts.4 ∙ length-append parts.0 parts.1 in
    total ∙ ap₂ (λ a b. a + b) own rest ∙ sym (spread (length rows) (width_of long k) (row_width long ks))

nothing : (xs : Row) → length xs ≡ 0 → [] ≡ xs
nothing [] none = refl
nothing (x ∷ xs) none = absurd (cc none)

-- where a cell's bytes lie
cut_at : (front x y : List ℕ) (w n r s : ℕ) → s ≡ length front + r * w → length x ≡ n * w → r < n →
    slice_range (front ++ (x ++ y)) s (s + w) ≡ take w (drop (r * w) x)
cut_at front x y w n r s place whole below =
    let cells : (r + 1) * w ≤ n * w = mul-le-mul_right w (omega arith) in
    let fits : r * w + w ≤ length x = omega (arith, cells, whole) in
    let left : length (drop (r * w) x) ≡ length x - r * w = length-drop (r * w) x in
    let width : (s + w) - s ≡ w = omega arith in
    rw (width, place, drop-append-add front (x ++ y) (r * w), drop-append-le (r * w) x y (omega (arith, fits)))
    (take-append-le w (drop (r * w) x) y (omega (arith, fits, left)))

-- a row is read where it was written
row_back : (long : Bool) (ks : List ColumnType) (rows : List Row) (front body : List ℕ) (n before r : ℕ) → HaveCells (length ks) rows → AllPlaced rows →
    rows_bytes long ks rows ≡ Some body → n ≡ length rows → length front ≡ n * before → r < n → row_at long n (front ++ body) before ks r ≡ get_or rows r []
row_back long [] rows front body n before r all placed is count offset below = nothing (get_or rows r []) (all r [] (omega (arith, count)))
row_back long (k ∷ ks) rows front body n before r all placed is count offset below =
    let w = width_of long k in
    let parts = split (column_bytes long k (first_cells rows)) (rows_bytes long ks (map (drop 1) rows)) body is in
    let first : length (first_cells rows) ≡ n = first_count (length ks) rows all ∙ sym count in
    let later : n ≡ length (map (drop 1) rows) = count ∙ sym (length-map rows (drop 1)) in
    let whole : length parts.0 ≡ n * w = column_length long k (first_cells rows) parts.0 parts.2 ∙ ap (λ c. c * w) first in
    let place : n * before + r * w ≡ length front + r * w = ap (λ o. o + r * w) (sym offset) in
    let cut : slice_range (front ++ body) (n * before + r * w) (n * before + r * w + w) ≡ take w (drop (r * w) parts.0) =
    ap (λ bs. slice_range (front ++ bs) (n * before + r * w) (n * before + r * w + w)) parts.4 ∙ cut_at front parts.0 parts.1 w n r (n * before + r * w) place whole below in
    let own : cell_value k (le_number (slice_range (front ++ body) (n * before + r * w) (n * before + r * w + w))) ≡ get_or (first_cells rows) r cell.Null =
    rw cut (cell_at long k (first_cells rows) parts.0 r parts.2 (omega (arith, first)) (first_placed rows placed)) in
    let joined : (front ++ parts.0) ++ parts.1 ≡ front ++ body = append_assoc front parts.0 parts.1 ∙ ap (λ b. front ++ b) (sym parts.4) in
    let further : length (front ++ parts.0) ≡ n * (before + w) = length-append front parts.0 ∙ ap₂ (λ a b. a + b) offset whole ∙ sym (spread n before w) in
    let rest : row_at long n ((front ++ parts.0) ++ parts.1) (before + w) ks r ≡ get_or (map (drop 1) rows) r [] =
    row_back long ks (map (drop 1) rows) (front ++ parts.0) parts.1 n (before + w) r (later_count (length ks) rows all) (later_placed rows placed) parts.3 later further below in
    ap₂ (λ v vs. v ∷ vs) own (rw joined at rest) ∙ row_parts (length ks) rows r all (omega (arith, count))

-- ---- all rows

rows_listed : (f : ℕ → Row) (rows : List Row) (s : ℕ) → ((r : ℕ) → r < length rows → f (s + r) ≡ get_or rows r []) → map f (numbers_from s (length rows)) ≡ rows
rows_listed f [] s each = refl
rows_listed f (row ∷ rows) s each =
    let none : s + 0 ≡ s = omega arith in
    let own : f s ≡ row = rw none at (each 0 (omega arith)) in
    let others : (r : ℕ) → r < length rows → f (suc s + r) ≡ get_or rows r [] = λ r below.
    let next : s + suc r ≡ suc s + r = omega arith in rw next at (each (suc r) (omega (arith, below))) in
    ap₂ (λ x xs. x ∷ xs) own (rows_listed f rows (suc s) others)

width_some : (long : Bool) (k : ColumnType) → 2 ≤ width_of long k
width_some long kind.Int16 = omega arith
width_some long kind.Int32 = omega arith
width_some true (kind.Str n) = omega arith
width_some false (kind.Str n) = omega arith
width_some long kind.Binary = omega arith

row_width_some : (long : Bool) (ks : List ColumnType) → 0 < length ks → 0 < row_width long ks
row_width_some long [] some = absurd (omega (arith, some))
row_width_some long (k ∷ ks) some = omega (arith, width_some long k)

nonzero : (w : ℕ) → 0 < w → nat_eq w 0 ≡ false
nonzero w some = grind (arith, nat_tests)

count_back : (w n len : ℕ) → 0 < w → len ≡ n * w → cond (nat_eq w 0) 0 (len / w) ≡ n
count_back w n len some whole = rw (nonzero w some, whole) (mul-div_cancel n some)

few : (n : ℕ) → n ≤ max_rows → nat_le n max_rows ≡ true
few n below = grind (arith, nat_tests)

pub written_back : (long : Bool) (ks : List ColumnType) (rows : List Row) (bytes : List ℕ) → ReadBack ks rows → rows_bytes long ks rows ≡ Some bytes → rows_of long ks bytes ≡ Some rows
written_back long ks rows bytes ok is =
    let count : row_count long ks bytes ≡ length rows =
    count_back (row_width long ks) (length rows) (length bytes) (row_width_some long ks ok.columns) (all_length long ks rows bytes ok.cells is) in
    let read : map (row_at long (length rows) bytes 0 ks) (numbers_from 0 (length rows)) ≡ rows =
    rows_listed (row_at long (length rows) bytes 0 ks) rows 0 (λ r below. let none : 0 + r ≡ r = omega arith in rw none (row_back long ks rows [] bytes (length rows) 0 r ok.cells ok.places is refl (omega arith) below)) in
    rw (count, few (length rows) ok.count) (ap Some read)
