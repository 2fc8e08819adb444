-- Rows whose texts are counted, set or taken back, among the uses of others.
use Rattle.std.proofs.Common.{◌≡◌, ◌∙◌, ℕ, zero, suc, ◌+◌, ◌-◌, ◌<◌, ◌≤◌, Bool, true, false, List, [], ◌∷◌, map, length, get_or, refl, sym, ap, arith, Option, Some, None, Result, Ok, Err, if◌then◌else◌}
use Rattle.std.specs.Prelude.{◌&&◌, bytes_eq, IfOk, slice_get, slice_set, unwrap_or}
use Rattle.std.specs.List.{All, list_all, list_any}
use Rattle.std.proofs.lemmas.List.{length-map, length-set, map-id}
use Rattle.std.proofs.lemmas.List.Elements.{All-set, All-tail}
use Rattle.std.proofs.lemmas.List.Sums.{get_or-le-sum_by, sum_by-cons, sum_by-set}
use Rattle.std.proofs.lemmas.Option.{unwrap_or-slice_get}
use Rattle.cfb_medium.specs.declared.error.Error.{Error}
use Rattle.msi_texts.specs.Results.{◌>>=◌}
use Rattle.msi_values.specs.Datum.{Datum}
use Rattle.msi_pool.specs.Pool.{Pool}
use Rattle.msi_pool.specs.declared.stringref.ValueRef.{ValueRef}
use Rattle.msi_pool.specs.declared.stringref.ValueRef.TheVariants as cell
use Rattle.msi_pool.specs.Refs.{value_at}
use Rattle.msi_columns.specs.Column.{Column, column_place, is_valid}
use Rattle.msi_tables.specs.Rows.{Row}
use Rattle.msi_tables.specs.Table.{row_data}
use Rattle.msi_tables.proofs.Searches.{place_below}
use Rattle.msi_changes.specs.Changes.{all_taken_back, cell_set, cells_set, counted, is_valid_set, option_first, row_counted, row_set, rows_counted, rows_set, taken_back, values_set}
use Rattle.std.proofs.lemmas.Bool.{and_parts}
use Rattle.msi_changes.proofs.CellUses.{HasUses, Stays, Gives, IsPlaced, Leaves, after_ok, all_stay, cell_counted, cell_stays, cell_taken, fewer_stay, same_uses, stays_then, use_of}
use Rattle.msi_changes.proofs.TurnUses.{All-head, list_stays, turns_give, uses_all}

-- the uses that a row makes
abbrev pub row_uses : Row → ℕ → ℕ
row_uses row n = uses_all use_of row n

-- a row of so many cells, each text at a place
pub record IsWhole (width : ℕ) (row : Row) : Type 0 where
  pub cells : length row ≡ width
  pub placed : All IsPlaced row

pub row_stays : (width : ℕ) (p q : Pool) (row : Row) (others : ℕ → ℕ) → IsWhole width row → Stays (λ n. row_uses row n + others n) p q → row_data q row ≡ row_data p row
row_stays width p q row others whole s = list_stays value_at IsPlaced use_of cell_stays p q row others whole.placed s

abbrev pub GivesRow : ℕ → (ℕ → ℕ) → Pool → List Datum → Row × Pool → Type 0
GivesRow width others p ds r = Gives row_data (IsWhole width) row_uses others p ds r

abbrev pub GivesRows : ℕ → (ℕ → ℕ) → Pool → List (List Datum) → List Row × Pool → Type 0
GivesRows width others p rs r = Gives (λ q rows. map (row_data q) rows) (All (IsWhole width)) (uses_all row_uses) others p rs r

-- ---- counted

no_uses : {X : Type 0} (xs : List X) (n : ℕ) → uses_all (λ x m. 0) xs n ≡ 0
no_uses [] n = refl
no_uses (x ∷ xs) n = omega (arith, sum_by-cons (λ y. 0) x xs, no_uses xs n)

beside_none : {X : Type 0} (p : Pool) (xs : List X) (others : ℕ → ℕ) → HasUses p others → HasUses p (λ n. uses_all (λ x m. 0) xs n + others n)
beside_none p xs others h = same_uses (λ n at. (let z = no_uses xs n in omega (arith, z))) h

beside_nothing : (p : Pool) (others : ℕ → ℕ) → HasUses p (λ n. 0 + others n) → HasUses p others
beside_nothing p others h = same_uses (λ n at. omega arith) h

row_given : (width : ℕ) (p : Pool) (ds : List Datum) (others : ℕ → ℕ) → length ds ≡ width → HasUses p others → IfOk (row_counted p ds) (GivesRow width others p ds)
row_given width p ds others wide h = on (row_counted p ds)
    (turns_give counted (λ d n. 0) (λ d. Unit {0}) (λ q d. d) use_of IsPlaced value_at (λ q d more u k. cell_counted more q (beside_nothing q more k) d) (λ q r d more u s. refl) cell_stays
    p ds others (λ k d in_it. tt) (beside_none p ds others h))
  where
    on : (r : Result (Row × Pool) Error) → IfOk r (Gives row_data (All IsPlaced) row_uses others p (map (λ d. d) ds)) → IfOk r (GivesRow width others p ds)
    on (Ok r) g =
        let same : row_data r.1 r.0 ≡ ds = g.reads ∙ map-id ds in
        let many : length (row_data r.1 r.0) ≡ length r.0 = length-map r.0 (value_at r.1) in
        record { counts = g.counts; reads = same; fine = record { cells = sym many ∙ ap length same ∙ wide; placed = g.fine }; stays = g.stays }
    on (Err e) g = tt

pub rows_given : (width : ℕ) (p : Pool) (rs : List (List Datum)) (others : ℕ → ℕ) → All (λ ds. length ds ≡ width) rs → HasUses p others → IfOk (rows_counted p rs) (GivesRows width others p rs)
rows_given width p rs others wide h = on (rows_counted p rs)
    (turns_give row_counted (λ ds n. 0) (λ ds. length ds ≡ width) (λ q ds. ds) row_uses (IsWhole width) row_data (λ q ds more is k. row_given width q ds more is (beside_nothing q more k))
    (λ q r ds more is s. refl) (row_stays width) p rs others wide (beside_none p rs others h))
  where
    on : (r : Result (List Row × Pool) Error) → IfOk r (GivesRows width others p (map (λ ds. ds) rs)) → IfOk r (GivesRows width others p rs)
    on (Ok r) g = record { counts = g.counts; reads = g.reads ∙ map-id rs; fine = g.fine; stays = g.stays }
    on (Err e) g = tt

-- ---- set

-- the uses of a row but those of one cell
abbrev uses_but : Row → ℕ → ℕ → ℕ
uses_but row i n = row_uses row n - use_of (get_or row i cell.Null) n

use_within : (row : Row) (i n : ℕ) → i < length row → use_of (get_or row i cell.Null) n ≤ row_uses row n
use_within row i n within = get_or-le-sum_by (λ v. use_of v n) row i cell.Null within

set_reads : (p q : Pool) (row : Row) (i : ℕ) (w : ValueRef) (d : Datum) (others : ℕ → ℕ) → value_at q w ≡ d → All IsPlaced row → i < length row
    → Stays (λ n. uses_but row i n + others n) p q → row_data q (slice_set row i w) ≡ slice_set (row_data p row) i d
set_reads p q [] i w d others is placed within s = absurd (omega (arith, within))
set_reads p q (v ∷ vs) zero w d others is placed within s =
    let rest : row_data q vs ≡ row_data p vs =
    list_stays value_at IsPlaced use_of cell_stays p q vs others (All-tail IsPlaced v vs placed) (fewer_stay (λ n at some. omega (arith, sum_by-cons (λ x. use_of x n) v vs, some)) s) in
    rw (is, rest) refl
set_reads p q (v ∷ vs) (suc i) w d others is placed within s =
    let inside : i < length vs = omega (arith, within) in
    let here : value_at q v ≡ value_at p v =
    cell_stays p q v others (All-head IsPlaced v vs placed) (fewer_stay (λ n at some. omega (arith, sum_by-cons (λ x. use_of x n) v vs, use_within vs i n inside, some)) s) in
    let rest : row_data q (slice_set vs i w) ≡ slice_set (row_data p vs) i d =
    set_reads p q vs i w d (λ n. use_of v n + others n) is (All-tail IsPlaced v vs placed) inside
    (fewer_stay (λ n at some. omega (arith, sum_by-cons (λ x. use_of x n) v vs, use_within vs i n inside, some)) s) in
    rw (here, rest) refl

module _ (width : ℕ) where
  set_gives : (p q : Pool) (row : Row) (i : ℕ) (d : Datum) (others : ℕ → ℕ) → IsWhole width row → i < length row → Leaves (λ n. uses_but row i n + others n) p q
      → (r : ValueRef × Pool) → Gives value_at IsPlaced use_of (λ n. uses_but row i n + others n) q d r → GivesRow width others p (slice_set (row_data p row) i d) (slice_set row i r.0, r.1)
  set_gives p q row i d others whole within left r given =
      record {
        counts = same_uses (λ n at. omega (arith, sum_by-set (λ v. use_of v n) row i r.0 cell.Null within, use_within row i n within)) given.counts;
        reads = set_reads p r.1 row i r.0 d others given.reads whole.placed within (stays_then left.1 given.stays);
        fine = record { cells = length-set row i r.0 ∙ whole.cells; placed = All-set IsPlaced row i r.0 given.fine whole.placed };
        stays = fewer_stay (λ n at some. omega (arith, some)) (stays_then left.1 given.stays);
      }

  cell_set_gives : (p : Pool) (row : Row) (i : ℕ) (d : Datum) (others : ℕ → ℕ) → IsWhole width row → i < length row → HasUses p (λ n. row_uses row n + others n)
      → IfOk (taken_back p (unwrap_or (slice_get row i) cell.Null) >>= λ q. counted q d >>= λ v. Ok (slice_set row i v.0, v.1)) (GivesRow width others p (slice_set (row_data p row) i d))
  cell_set_gives p row i d others whole within h =
      rw (unwrap_or-slice_get row i cell.Null)
      (after_ok _ _ (taken_back p (get_or row i cell.Null)) (λ q. counted q d >>= λ v. Ok (slice_set row i v.0, v.1))
      (cell_taken (λ n. uses_but row i n + others n) p (get_or row i cell.Null) (whole.placed i cell.Null within) (same_uses (λ n at. omega (arith, use_within row i n within)) h))
      (λ q left. after_ok _ _ (counted q d) (λ v. Ok (slice_set row i v.0, v.1)) (cell_counted (λ n. uses_but row i n + others n) q left.0 d)
      (λ v given. set_gives p q row i d others whole within left v given)))

-- a column that is set is there
set_within : (columns : List Column) (s : List ℕ × Datum) → is_valid_set columns s ≡ true → unwrap_or (column_place columns s.0) 0 < length columns
set_within columns s valid = on (column_place columns s.0) refl valid
  where
    on : (o : Option ℕ) → column_place columns s.0 ≡ o → list_any (λ c. bytes_eq c.name s.0 && is_valid c s.1) (option_first o columns) ≡ true → unwrap_or o 0 < length columns
    on None is valid = absurd (cc valid)
    on (Some i) is valid = place_below columns s.0 i is

module _ (columns : List Column) where
  abbrev pub IsRow : Row → Type 0
  IsRow row = IsWhole (length columns) row

  pub cells_give : (p : Pool) (row : Row) (sets : List (List ℕ × Datum)) (others : ℕ → ℕ) → IsRow row → list_all (is_valid_set columns) sets ≡ true → HasUses p (λ n. row_uses row n + others n)
      → IfOk (cells_set columns p row sets) (GivesRow (length columns) others p (values_set columns (row_data p row) sets))
  cells_give p row [] others whole valid h = record { counts = h; reads = refl; fine = whole; stays = all_stay others p }
  cells_give p row (s ∷ ss) others whole valid h =
      let are = and_parts (is_valid_set columns s) (list_all (is_valid_set columns) ss) valid in
      let place = unwrap_or (column_place columns s.0) 0 in
      let within : place < length row = (let inside = set_within columns s are.0 in rw (whole.cells) inside) in
      after_ok _ _ (cell_set columns p row s) (λ r. cells_set columns r.1 r.0 ss) (cell_set_gives (length columns) p row place s.1 others whole within h)
      (λ r first. then_rest r first (cells_give r.1 r.0 ss others first.fine are.1 first.counts))
    where
      then_rest : (r : Row × Pool) → GivesRow (length columns) others p (slice_set (row_data p row) (unwrap_or (column_place columns s.0) 0) s.1) r
          → IfOk (cells_set columns r.1 r.0 ss) (GivesRow (length columns) others r.1 (values_set columns (row_data r.1 r.0) ss))
          → IfOk (cells_set columns r.1 r.0 ss) (GivesRow (length columns) others p (values_set columns (row_data p row) (s ∷ ss)))
      then_rest r first rest = on (cells_set columns r.1 r.0 ss) rest
        where
          on : (c : Result (Row × Pool) Error) → IfOk c (GivesRow (length columns) others r.1 (values_set columns (row_data r.1 r.0) ss)) → IfOk c (GivesRow (length columns) others p (values_set columns (row_data p row) (s ∷ ss)))
          on (Ok q) g = record { counts = g.counts; reads = g.reads ∙ ap (λ ds. values_set columns ds ss) first.reads; fine = g.fine; stays = stays_then first.stays g.stays }
          on (Err e) g = tt

  module _ (sets : List (List ℕ × Datum)) (valid : list_all (is_valid_set columns) sets ≡ true) where
    -- the values that are wanted of a row
    abbrev pub row_wanted : Pool → Row × Bool → List Datum
    row_wanted p r = if r.1 then values_set columns (row_data p r.0) sets else row_data p r.0

    row_gives : (p : Pool) (r : Row × Bool) (others : ℕ → ℕ) → IsRow r.0 → HasUses p (λ n. row_uses r.0 n + others n) → IfOk (row_set columns sets p r) (GivesRow (length columns) others p (row_wanted p r))
    row_gives p r others whole h = on r.1
      where
        on : (b : Bool) → IfOk (row_set columns sets p (r.0, b)) (GivesRow (length columns) others p (row_wanted p (r.0, b)))
        on true = cells_give p r.0 sets others whole valid h
        on false = record { counts = h; reads = refl; fine = whole; stays = all_stay others p }

    wanted_stays : (p q : Pool) (r : Row × Bool) (others : ℕ → ℕ) → IsRow r.0 → Stays (λ n. row_uses r.0 n + others n) p q → row_wanted q r ≡ row_wanted p r
    wanted_stays p q r others whole s = rw (row_stays (length columns) p q r.0 others whole s) refl

    pub rows_give : (p : Pool) (rs : List (Row × Bool)) (others : ℕ → ℕ) → All (λ r. IsRow r.0) rs → HasUses p (λ n. uses_all (λ r. row_uses r.0) rs n + others n)
        → IfOk (rows_set columns p sets rs) (Gives (λ q rows. map (row_data q) rows) (All IsRow) (uses_all row_uses) others p (map (row_wanted p) rs))
    rows_give p rs others are h = turns_give (row_set columns sets) (λ r. row_uses r.0) (λ r. IsRow r.0) row_wanted row_uses IsRow row_data row_gives wanted_stays (row_stays (length columns)) p rs others are h

-- ---- taken back

pub cells_left : (p : Pool) (cells : Row) (others : ℕ → ℕ) → All IsPlaced cells → HasUses p (λ n. row_uses cells n + others n) → IfOk (all_taken_back p cells) (Leaves others p)
cells_left p [] others placed h = (same_uses (λ n at. omega arith) h, all_stay others p)
cells_left p (v ∷ vs) others placed h =
    after_ok _ _ (taken_back p v) (λ q. all_taken_back q vs)
    (cell_taken (λ n. row_uses vs n + others n) p v (All-head IsPlaced v vs placed) (same_uses (λ n at. omega (arith, sum_by-cons (λ x. use_of x n) v vs)) h))
    (λ q left. then_left q left (all_taken_back q vs) (cells_left q vs others (All-tail IsPlaced v vs placed) left.0))
  where
    then_left : (q : Pool) → Leaves (λ n. row_uses vs n + others n) p q → (r : Result Pool Error) → IfOk r (Leaves others q) → IfOk r (Leaves others p)
    then_left q left (Ok r) rest = (rest.0, stays_then (fewer_stay (λ n at some. omega (arith, some)) left.1) rest.1)
    then_left q left (Err e) rest = tt
