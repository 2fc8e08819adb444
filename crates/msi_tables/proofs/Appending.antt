-- The bytes of rows, a cell and a column after the other.
use Rattle.std.proofs.Common.{◌≡◌, ◌<◌, ◌+◌, ℕ, zero, suc, Bool, List, [], ◌∷◌, ◌++◌, length, map, drop, take, get_or, refl, sym, ap, ap₂, ◌∙◌, append_assoc, add-one, drop-cons, Option, Some, None, Vec, inl, inr}
use Rattle.std.proofs.lemmas.List.{get_or-map, length-map}
use Rattle.std.specs.Prelude.{◌⊎◌, option_map}
use Rattle.std.proofs.Math.Seq.{take-append_seam}
use Rattle.std.specs.Fmt.{◌++?◌}
use Rattle.std.specs.declared.alloc.Global.{Global}
use Rattle.msi_texts.specs.Numbers.{le_bytes}
use Rattle.msi_pool.specs.declared.stringref.ValueRef.{ValueRef}
use Rattle.msi_columns.specs.Cell.{width_of, cell_number, AppendsCell, IsInvalidInputOrMemory}
use Rattle.cfb_medium.specs.declared.error.Error.{Error}
use Rattle.cfb_medium.specs.declared.error.Error.TheVariants.{InvalidData, InvalidInput, NotFound, AlreadyExists, UnexpectedEof, Full, Memory, Device, Failed}
use Rattle.msi_tables.specs.Rows.{Row, AllLonger, kinds_of, first_cells, column_bytes, rows_bytes}
use Rattle.msi_columns.specs.Held.{column_of, columns_of}
use Rattle.msi_tables.specs.Held.{rows_held}
use Rattle.msi_columns.specs.declared.column.Column.{Column as HeldColumn}
use Rattle.msi_columns.specs.declared.column.ColumnType.{ColumnType}

-- bytes that are written stand in front of what is to come
pub written_more : (old cell : List ℕ) (rest : Option (List ℕ)) → option_map (λ bs. old ++ bs) (Some cell ++? rest) ≡ option_map (λ bs. (old ++ cell) ++ bs) rest
written_more old cell None = refl
written_more old cell (Some bs) = ap Some (sym (append_assoc old cell bs))

-- the bytes of the cells at a place of each row
abbrev pub bytes_at : Bool → ColumnType → ℕ → List (Vec ValueRef Global) → Option (List ℕ)
bytes_at long k index rows = column_bytes long k (first_cells (map (drop index) (rows_held rows)))

-- those of one row, and of the others
pub next_cell : (long : Bool) (k : ColumnType) (index : ℕ) (rows : List (Vec ValueRef Global)) (i : ℕ) (row : Vec ValueRef Global) (v : ValueRef) →
    i < length rows → row ≡ get_or rows i row → index < length row.items → v ≡ get_or row.items index v →
    bytes_at long k index (drop i rows) ≡ option_map (le_bytes (width_of long k)) (cell_number long k v) ++? bytes_at long k index (drop (i + 1) rows)
next_cell long k index rows i row v in_rows is in_row cell =
    let front : drop i rows ≡ row ∷ drop (i + 1) rows = rw (add-one) (drop-cons rows i row in_rows ∙ ap (λ r. r ∷ drop (suc i) rows) (sym is)) in
    let own : drop index row.items ≡ v ∷ drop (suc index) row.items = drop-cons row.items index v in_row ∙ ap (λ x. x ∷ drop (suc index) row.items) (sym cell) in
    ap (bytes_at long k index) front ∙ ap (λ xs. column_bytes long k (first_cells (xs ∷ map (drop index) (rows_held (drop (i + 1) rows))))) own

drop_one : {X : Type 0} (j : ℕ) (xs : List X) → drop 1 (drop j xs) ≡ drop (suc j) xs
drop_one zero xs = refl
drop_one (suc j) [] = refl
drop_one (suc j) (x ∷ xs) = drop_one j xs

drop_one_each : (j : ℕ) (rows : List Row) → map (drop 1) (map (drop j) rows) ≡ map (drop (suc j)) rows
drop_one_each j [] = refl
drop_one_each j (row ∷ rows) = ap₂ (λ x xs. x ∷ xs) (drop_one j row) (drop_one_each j rows)

pub drop_none_each : (rows : List Row) → map (drop 0) rows ≡ rows
drop_none_each [] = refl
drop_none_each (row ∷ rows) = ap (λ xs. row ∷ xs) (drop_none_each rows)

-- the bytes of the rows from a column on
abbrev pub bytes_from : Bool → ℕ → List HeldColumn → List (Vec ValueRef Global) → Option (List ℕ)
bytes_from long j columns rows = rows_bytes long (kinds_of (columns_of (drop j columns))) (map (drop j) (rows_held rows))

-- those of one column, and of the others
pub next_column : (long : Bool) (columns : List HeldColumn) (rows : List (Vec ValueRef Global)) (j : ℕ) (column : HeldColumn) →
    j < length columns → column ≡ get_or columns j column →
    bytes_from long j columns rows ≡ bytes_at long (column_of column).kind j rows ++? bytes_from long (j + 1) columns rows
next_column long columns rows j column in_columns is =
    let front : drop j columns ≡ column ∷ drop (j + 1) columns = rw (add-one) (drop-cons columns j column in_columns ∙ ap (λ c. c ∷ drop (suc j) columns) (sym is)) in
    let later : map (drop 1) (map (drop j) (rows_held rows)) ≡ map (drop (j + 1)) (rows_held rows) = rw add-one (drop_one_each j (rows_held rows)) in
    ap (λ cs. rows_bytes long (kinds_of (columns_of cs)) (map (drop j) (rows_held rows))) front
    ∙ ap (λ rs. bytes_at long (column_of column).kind j rows ++? rows_bytes long (kinds_of (columns_of (drop (j + 1) columns))) rs) later

-- ---- a piece behind what is written

-- it is written, and the rest is still to come
pub piece_written : (start out new : List ℕ) (piece rest now all : Option (List ℕ)) → now ≡ piece ++? rest → option_map (λ bs. out ++ bs) piece ≡ Some new →
    option_map (λ bs. out ++ bs) now ≡ option_map (λ bs. start ++ bs) all → option_map (λ bs. new ++ bs) rest ≡ option_map (λ bs. start ++ bs) all
piece_written start out new None rest now all parts written so_far = absurd (cc written)
piece_written start out new (Some bytes) rest now all parts written so_far =
    let is : out ++ bytes ≡ new = cc written in
    ap (λ o. option_map (λ bs. o ++ bs) rest) (sym is) ∙ sym (written_more out bytes rest) ∙ ap (option_map (λ bs. out ++ bs)) (sym parts) ∙ so_far

-- there is none, so there is no whole
pub no_piece : (start out : List ℕ) (piece rest now all : Option (List ℕ)) → now ≡ piece ++? rest → piece ≡ None →
    option_map (λ bs. out ++ bs) now ≡ option_map (λ bs. start ++ bs) all → all ≡ None
no_piece start out piece rest now None parts none so_far = refl
no_piece start out piece rest now (Some bytes) parts none so_far =
    let nothing : now ≡ None = parts ∙ ap (λ p. p ++? rest) none in
    absurd (cc (nothing, so_far))

-- the piece of one cell
pub cell_piece : (out new : List ℕ) (long : Bool) (k : ColumnType) (v : ValueRef) → AppendsCell out new long k v →
    option_map (λ bs. out ++ bs) (option_map (le_bytes (width_of long k)) (cell_number long k v)) ≡ Some new
cell_piece out new long k v written = rw (written.1) (ap Some (sym written.2))

-- why a piece isn't written
pub why : (e : Error) (bytes : Option (List ℕ)) → IsInvalidInputOrMemory e → (e ≡ InvalidInput → bytes ≡ None) → (e ≡ Memory) ⊎ ((e ≡ InvalidInput) × (bytes ≡ None))
why InvalidInput bytes kind none = inr (refl, none refl)
why Memory bytes kind none = inl refl
why InvalidData bytes kind none = absurd kind
why NotFound bytes kind none = absurd kind
why AlreadyExists bytes kind none = absurd kind
why UnexpectedEof bytes kind none = absurd kind
why Full bytes kind none = absurd kind
why Device bytes kind none = absurd kind
why Failed bytes kind none = absurd kind

-- what was there stays in front
pub kept_more : (start out new bytes : List ℕ) → (more : List ℕ) × (out ≡ start ++ more) → new ≡ out ++ bytes → (more : List ℕ) × (new ≡ start ++ more)
kept_more start out new bytes kept is = (kept.0 ++ bytes, is ∙ ap (λ o. o ++ bytes) kept.1 ∙ append_assoc start kept.0 bytes)

-- a row has the cell that each row has
pub longer : (index : ℕ) (rows : List (Vec ValueRef Global)) (i : ℕ) (row : Vec ValueRef Global) → AllLonger index (rows_held rows) → i < length rows → row ≡ get_or rows i row → index < length row.items
longer index rows i row all in_rows is =
    let h : index < length (get_or (rows_held rows) i row.items) = all i row.items (rw (length-map rows (λ r. r.items)) in_rows) in
    let e : get_or (rows_held rows) i row.items ≡ row.items = get_or-map (λ r. r.items) rows i row row.items in_rows ∙ ap (λ r. r.items) (sym is) in
    rw e at h

-- cut to its length, it is what was there
pub cut_back : (start new cut : List ℕ) (n : ℕ) → cut ≡ take n new → n ≡ length start → (more : List ℕ) × (new ≡ start ++ more) → cut ≡ start
cut_back start new cut n is count kept = is ∙ ap₂ (λ k xs. take k xs) count kept.1 ∙ take-append_seam start kept.0
