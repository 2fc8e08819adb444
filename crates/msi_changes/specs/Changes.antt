-- What inserts, updates and deletes change: lists of rows, and the pool.
use Rattle.std.specs.Prelude.{ℕ, Bool, not, ◌&&◌, ◌||◌, List, [], ◌∷◌, ◌++◌, map, length, filter, flat_map, nat_le, ◌+◌, ◌==◌, if◌then◌else◌, Option, Some, None, option_map, unwrap_or, Result, Ok, Err, bytes_eq, slice_get, slice_set, option_to_list}
use Rattle.std.specs.List.{list_all, list_any}
use Rattle.msi_texts.specs.Results.{◌>>=◌, unless_not, or_refused}
use Rattle.msi_values.specs.Datum.{Datum, null, number, text, binary}
use Rattle.msi_pool.specs.Pool.{Pool, place, used, with_refcount_down, pool_entry_at}
use Rattle.msi_columns.specs.Column.{Column, are_valid, is_valid, column_place}
use Rattle.msi_tables.specs.Rows.{Row, max_rows}
use Rattle.msi_tables.specs.Table.{Table, row_data, key_values, has_key, are_distinct, keys_of}
use Rattle.msi_expr.specs.Formula.{Formula}
use Rattle.msi_expr.specs.Conditions.{knows_condition, matches}
use Rattle.msi_pool.specs.declared.stringref.ValueRef.{ValueRef}
use Rattle.msi_pool.specs.declared.stringref.ValueRef.TheVariants as cell
use Rattle.cfb_medium.specs.declared.error.Error.{Error}
use Rattle.cfb_medium.specs.declared.error.Error.TheVariants.{InvalidData, InvalidInput, AlreadyExists}

-- ---- uses of texts

-- each in turn over what the one before it left, and the list of what they give; the first refusal ends it
abbrev pub in_turn : {S X Y : Type 0} → (S → X → Result (Y × S) Error) → S → List X → Result (List Y × S) Error
in_turn f s [] = Ok ([], s)
in_turn f s (x ∷ xs) = f s x >>= λ y. in_turn f y.1 xs >>= λ ys. Ok (y.0 ∷ ys.0, ys.1)

-- a value as a cell, with its text counted
abbrev pub counted : Pool → Datum → Result (ValueRef × Pool) Error
counted pool null = Ok (cell.Null, pool)
counted pool (number z) = Ok (cell.Int z, pool)
counted pool (text t) = or_refused (option_map (λ n. (cell.Str n, used pool t)) (place pool t)) InvalidInput
counted pool binary = Ok (cell.Binary, pool)

-- a row of values
abbrev pub row_counted : Pool → List Datum → Result (Row × Pool) Error
row_counted pool ds = in_turn counted pool ds

-- row by row
abbrev pub rows_counted : Pool → List (List Datum) → Result (List Row × Pool) Error
rows_counted pool rs = in_turn row_counted pool rs

-- the use of a cell is taken back
abbrev pub taken_back : Pool → ValueRef → Result Pool Error
taken_back pool (cell.Str n) = if (pool_entry_at pool.places n).count == 0 then Err InvalidData else Ok (record pool { places = with_refcount_down n pool.places })
taken_back pool cell.Null = Ok pool
taken_back pool (cell.Int z) = Ok pool
taken_back pool cell.Binary = Ok pool

-- the uses of all cells of a row are taken back
abbrev pub all_taken_back : Pool → Row → Result Pool Error
all_taken_back pool [] = Ok pool
all_taken_back pool (v ∷ vs) = taken_back pool v >>= λ p. all_taken_back p vs

-- ---- insert

-- each new key in turn: not one that is stored, and not one of an earlier new row
abbrev pub new_keys : List (List Datum) → List (List Datum) → List (List Datum) → Result (Unit {0}) Error
new_keys stored earlier [] = Ok tt
new_keys stored earlier (k ∷ ks) =
    if has_key stored k then Err AlreadyExists
    else (if has_key earlier k then Err InvalidInput
    else new_keys stored (k ∷ earlier) ks)

-- the old rows, the new ones behind them, and the pool; or the first refusal, where may tells whether this table may be changed so
abbrev pub inserted : Bool → Pool → Table → List (List Datum) → Result (List Row × Pool) Error
inserted may pool t new_rows =
    unless_not (list_all (are_valid t.columns) new_rows) InvalidInput >>= λ _.
    unless_not (are_distinct (keys_of pool t)) InvalidData >>= λ _.
    new_keys (keys_of pool t) [] (map (key_values t.columns) new_rows) >>= λ _.
    unless_not may InvalidInput >>= λ _.
    unless_not (nat_le (length t.rows + length new_rows) max_rows) InvalidInput >>= λ _.
    rows_counted pool new_rows >>= λ r. Ok (t.rows ++ r.0, r.1)

-- ---- delete

-- the rows whose condition counts as false, and the pool without the uses of the others
abbrev pub deleted : Bool → Pool → Table → Option Formula → Result (List Row × Pool) Error
deleted may pool t condition =
    unless_not (knows_condition t.columns condition && may) InvalidInput >>= λ _.
    all_taken_back pool (flat_map (λ row. row) (filter (matches pool t.columns condition) t.rows)) >>= λ p.
    Ok (filter (λ row. not (matches pool t.columns condition row)) t.rows, p)

-- ---- update

-- the one column at a place
abbrev pub option_first : Option ℕ → List Column → List Column
option_first None columns = []
option_first (Some i) columns = option_to_list (slice_get columns i)

-- the column is there and takes the value
abbrev pub is_valid_set : List Column → List ℕ × Datum → Bool
is_valid_set columns s = list_any (λ c. bytes_eq c.name s.0 && is_valid c s.1) (option_first (column_place columns s.0) columns)

-- one cell: its use is taken back, and the new value's is counted
abbrev pub cell_set : List Column → Pool → Row → List ℕ × Datum → Result (Row × Pool) Error
cell_set columns pool row s =
    let place = unwrap_or (column_place columns s.0) 0 in
    taken_back pool (unwrap_or (slice_get row place) cell.Null) >>= λ p.
    counted p s.1 >>= λ v. Ok (slice_set row place v.0, v.1)

-- each of the cells in turn
abbrev pub cells_set : List Column → Pool → Row → List (List ℕ × Datum) → Result (Row × Pool) Error
cells_set columns pool row [] = Ok (row, pool)
cells_set columns pool row (s ∷ ss) = cell_set columns pool row s >>= λ r. cells_set columns r.1 r.0 ss

-- the row, changed where it matches
abbrev pub row_set : List Column → List (List ℕ × Datum) → Pool → Row × Bool → Result (Row × Pool) Error
row_set columns sets pool r = if r.1 then cells_set columns pool r.0 sets else Ok (r.0, pool)

-- the matching rows in stored order; which match is judged before the first is changed
abbrev pub rows_set : List Column → Pool → List (List ℕ × Datum) → List (Row × Bool) → Result (List Row × Pool) Error
rows_set columns pool sets rs = in_turn (row_set columns sets) pool rs

-- the same of values alone
abbrev pub values_set : List Column → List Datum → List (List ℕ × Datum) → List Datum
values_set columns values [] = values
values_set columns values (s ∷ ss) = values_set columns (slice_set values (unwrap_or (column_place columns s.0) 0) s.1) ss

-- a key column is among those that are set
abbrev pub sets_key : List Column → List (List ℕ × Datum) → Bool
sets_key columns sets = list_any (λ s. list_any (λ c. c.key) (option_first (column_place columns s.0) columns)) sets

-- the values that an update would leave a row
abbrev pub values_after : Pool → List Column → List (List ℕ × Datum) → Option Formula → Row → List Datum
values_after pool columns sets condition row = if matches pool columns condition row then values_set columns (row_data pool row) sets else row_data pool row

-- its key
abbrev pub key_after : Pool → List Column → List (List ℕ × Datum) → Option Formula → Row → List Datum
key_after pool columns sets condition row = key_values columns (values_after pool columns sets condition row)

-- those of all rows
abbrev pub keys_after : Pool → Table → List (List ℕ × Datum) → Option Formula → List (List Datum)
keys_after pool t sets condition = map (key_after pool t.columns sets condition) t.rows

-- the rows after an update, and the pool; or the first refusal
abbrev pub updated : Bool → Pool → Table → List (List ℕ × Datum) → Option Formula → Result (List Row × Pool) Error
updated may pool t sets condition =
    unless_not (list_all (is_valid_set t.columns) sets && knows_condition t.columns condition && may) InvalidInput >>= λ _.
    unless_not (not (sets_key t.columns sets) || are_distinct (keys_after pool t sets condition)) AlreadyExists >>= λ _.
    rows_set t.columns pool sets (map (λ row. (row, matches pool t.columns condition row)) t.rows)
