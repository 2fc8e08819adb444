-- Rows that a select answers have a cell for each of its columns, where those of the tables have.
use Rattle.std.proofs.Common.{◌≡◌, ◌∙◌, ℕ, zero, suc, ◌+◌, Bool, true, false, cond, List, [], ◌∷◌, ◌++◌, map, length, refl, sym, ap, subst, Some, None, length-append}
use Rattle.std.proofs.lemmas.List.{length-map}
use Rattle.std.specs.Prelude.{◌&&◌, Option, Result, Ok, Err, filter, flat_map, IfOk, IfSome, slice_get}
use Rattle.std.specs.List.{AllByRecursion, cons_option, filter_map, list_all}
use Rattle.cfb_medium.specs.declared.error.Error.{Error}
use Rattle.cfb_medium.specs.declared.error.Error.TheVariants.{InvalidInput, NotFound}
use Rattle.msi_pool.specs.declared.stringref.ValueRef.TheVariants as cell
use Rattle.msi_columns.specs.Column.{Column, but_null, column_place, has_column, side_column}
use Rattle.msi_expr.specs.Conditions.{has_named_columns, knows_condition, matches}
use Rattle.msi_expr.specs.Formula.{Formula}
use Rattle.msi_pool.specs.Pool.{Pool}
use Rattle.msi_query.specs.Query.{Query, Source, query, table, inner_join, left_join, cut, filtered, inner_joined, left_joined, nulls, or_once, pairs_with, parts_at, projected, selected, side_columns, source_rows}
use Rattle.msi_tables.specs.Rows.{Row}
use Rattle.msi_tables.specs.Table.{Table}
use Rattle.msi_parts.specs.Whole.{HasFullRows, Wide}
use Rattle.msi_texts.specs.Results.{◌>>=◌, or_refused}

wide_filter : (n : ℕ) (keep : Row → Bool) (rows : List Row) → Wide n rows → Wide n (filter keep rows)
wide_filter n keep [] w = tt
wide_filter n keep (row ∷ rows) w = by (keep row) (wide_filter n keep rows w.1)
  where
    by : (b : Bool) → Wide n (filter keep rows) → Wide n (cond b (row ∷ filter keep rows) (filter keep rows))
    by true later = (w.0, later)
    by false later = later

wide_append : (n : ℕ) (xs ys : List Row) → Wide n xs → Wide n ys → Wide n (xs ++ ys)
wide_append n [] ys v w = w
wide_append n (x ∷ xs) ys v w = (v.0, wide_append n xs ys v.1 w)

wide_joined : (m n : ℕ) (left : Row) (rows : List Row) → length left ≡ m → Wide n rows → Wide (m + n) (map (λ r. left ++ r) rows)
wide_joined m n left [] is w = tt
wide_joined m n left (r ∷ rows) is w = (length-append left r ∙ ap (λ k. k + length r) is ∙ ap (λ k. m + k) w.0, wide_joined m n left rows is w.1)

wide_flat : (n : ℕ) (f : Row → List Row) (rows : List Row) → AllByRecursion (λ row. Wide n (f row)) rows → Wide n (flat_map f rows)
wide_flat n f [] w = tt
wide_flat n f (row ∷ rows) w = wide_append n (f row) (flat_map f rows) w.0 (wide_flat n f rows w.1)

-- a fact of each row that has so many cells
of_wide : (n : ℕ) (P : Row → Type 0) → ((row : Row) → length row ≡ n → P row) → (rows : List Row) → Wide n rows → AllByRecursion P rows
of_wide n P h [] w = tt
of_wide n P h (row ∷ rows) w = (h row w.0, of_wide n P h rows w.1)

-- an element is there in both, or in none
abbrev Both : {X Y : Type 0} → Option X → Option Y → Type 0
Both None None = Unit {0}
Both None (Some y) = ⊥
Both (Some x) None = ⊥
Both (Some x) (Some y) = Unit {0}

both : {X Y : Type 0} (xs : List X) (ys : List Y) (k : ℕ) → length xs ≡ length ys → Both (slice_get xs k) (slice_get ys k)
both [] [] k e = tt
both [] (y ∷ ys) k e = absurd (cc)
both (x ∷ xs) [] k e = absurd (cc)
both (x ∷ xs) (y ∷ ys) zero e = tt
both (x ∷ xs) (y ∷ ys) (suc k) e = both xs ys k (cc)

one_more : {X Y : Type 0} (a : Option X) (b : Option Y) (r : List X) (s : List Y) → Both a b → length r ≡ length s → length (cons_option a r) ≡ length (cons_option b s)
one_more None None r s h e = e
one_more None (Some y) r s h e = absurd h
one_more (Some x) None r s h e = absurd h
one_more (Some x) (Some y) r s h e = ap suc e

-- parts at the same places of lists of one length are as many
parts_alike : {X Y : Type 0} (places : List ℕ) (xs : List X) (ys : List Y) → length xs ≡ length ys → length (parts_at places xs) ≡ length (parts_at places ys)
parts_alike [] xs ys same = refl
parts_alike (p ∷ places) xs ys same = one_more (slice_get xs p) (slice_get ys p) (parts_at places xs) (parts_at places ys) (both xs ys p same) (parts_alike places xs ys same)

wide_parts : (places : List ℕ) (columns : List Column) (rows : List Row) → Wide (length columns) rows → Wide (length (parts_at places columns)) (map (parts_at places) rows)
wide_parts places columns [] w = tt
wide_parts places columns (row ∷ rows) w = (parts_alike places row columns w.0, wide_parts places columns rows w.1)

wide_projected : (names : List (List ℕ)) (t : Table) → HasFullRows t → HasFullRows (projected names t)
wide_projected [] t w = w
wide_projected (n ∷ ns) t w = wide_parts (filter_map (column_place t.columns) (n ∷ ns)) t.columns t.rows w

wide_cut : (pool : Pool) (names : List (List ℕ)) (condition : Option Formula) (t : Table) → HasFullRows t → IfOk (cut pool names condition t) HasFullRows
wide_cut pool names condition t w = by (list_all (has_column t.columns) names && knows_condition t.columns condition)
  where
    found : HasFullRows (projected names (filtered pool condition t))
    found = wide_projected names (filtered pool condition t) (wide_filter (length t.columns) (matches pool t.columns condition) t.rows w)

    by : (b : Bool) → IfOk (cond b (Ok (projected names (filtered pool condition t))) (Err InvalidInput)) HasFullRows
    by true = found
    by false = tt

module _ (pool : Pool) (on : Formula) (l r : Table) (v : HasFullRows l) (w : HasFullRows r) where
  -- the rows that one row makes with those of the right side
  wide_pairs : (columns : List Column) (row : Row) → length row ≡ length l.columns → Wide (length l.columns + length r.columns) (pairs_with pool columns on r.rows row)
  wide_pairs columns row is =
      wide_filter (length l.columns + length r.columns) (matches pool columns (Some on)) (map (λ x. row ++ x) r.rows)
      (wide_joined (length l.columns) (length r.columns) row r.rows is w)

  wide_once : (columns : List Column) (row : Row) → length row ≡ length l.columns
      → Wide (length l.columns + length r.columns) (or_once (row ++ nulls r.columns) (pairs_with pool columns on r.rows row))
  wide_once columns row is = by (pairs_with pool columns on r.rows row) (wide_pairs columns row is)
    where
      alone : length (row ++ nulls r.columns) ≡ length l.columns + length r.columns
      alone = length-append row (nulls r.columns) ∙ ap (λ k. k + length (nulls r.columns)) is ∙ ap (λ k. length l.columns + k) (length-map r.columns (λ _. cell.Null))

      by : (rows : List Row) → Wide (length l.columns + length r.columns) rows → Wide (length l.columns + length r.columns) (or_once (row ++ nulls r.columns) rows)
      by [] h = (alone, tt)
      by (x ∷ xs) h = h

  inner_columns : length (side_columns l ++ side_columns r) ≡ length l.columns + length r.columns
  inner_columns =
      length-append (side_columns l) (side_columns r)
      ∙ ap (λ k. k + length (side_columns r)) (length-map l.columns (side_column l.name))
      ∙ ap (λ k. length l.columns + k) (length-map r.columns (side_column r.name))

  left_columns : length (side_columns l ++ map but_null (side_columns r)) ≡ length l.columns + length r.columns
  left_columns =
      length-append (side_columns l) (map but_null (side_columns r))
      ∙ ap (λ k. k + length (map but_null (side_columns r))) (length-map l.columns (side_column l.name))
      ∙ ap (λ k. length l.columns + k) (length-map (side_columns r) but_null ∙ length-map r.columns (side_column r.name))

  abbrev inner_all : List Column
  inner_all = side_columns l ++ side_columns r

  abbrev inner_rows : List Row
  inner_rows = flat_map (pairs_with pool inner_all on r.rows) l.rows

  wide_inner : IfOk (inner_joined pool on l r) HasFullRows
  wide_inner = by (has_named_columns inner_all on)
    where
      by : (b : Bool) → IfOk (cond b (Ok (record { name = []; columns = inner_all; rows = inner_rows })) (Err InvalidInput)) HasFullRows
      by true = subst (λ n. Wide n inner_rows) (sym inner_columns)
          (wide_flat (length l.columns + length r.columns) (pairs_with pool inner_all on r.rows) l.rows
          (of_wide (length l.columns) _ (wide_pairs inner_all) l.rows v))
      by false = tt

  abbrev left_all : List Column
  left_all = side_columns l ++ map but_null (side_columns r)

  abbrev left_each : Row → List Row
  left_each row = or_once (row ++ nulls r.columns) (pairs_with pool left_all on r.rows row)

  wide_left : IfOk (left_joined pool on l r) HasFullRows
  wide_left = by (has_named_columns left_all on)
    where
      by : (b : Bool) → IfOk (cond b (Ok (record { name = []; columns = left_all; rows = flat_map left_each l.rows })) (Err InvalidInput)) HasFullRows
      by true = subst (λ n. Wide n (flat_map left_each l.rows)) (sym left_columns)
          (wide_flat (length l.columns + length r.columns) left_each l.rows
          (of_wide (length l.columns) _ (wide_once left_all) l.rows v))
      by false = tt

on_ok : {A B : Type 0} (P : A → Type 0) (Q : B → Type 0) (r : Result A Error) (f : A → Result B Error) → IfOk r P → ((a : A) → P a → IfOk (f a) Q) → IfOk (r >>= f) Q
on_ok P Q (Ok a) f h k = k a h
on_ok P Q (Err e) f h k = tt

module _ (tables : List ℕ → Option Table) (pool : Pool) (wide : (name : List ℕ) → IfSome (tables name) HasFullRows) where
  named : (o : Option Table) → IfSome o HasFullRows → IfOk (or_refused o NotFound) HasFullRows
  named None h = tt
  named (Some t) h = h

  mutual
    -- so has what a select answers
    pub wide_selected : (q : Query) → IfOk (selected tables pool q) HasFullRows
    wide_selected (query source names condition) = on_ok HasFullRows HasFullRows (source_rows tables pool source) (cut pool names condition) (wide_source source) (wide_cut pool names condition)

    wide_source : (s : Source) → IfOk (source_rows tables pool s) HasFullRows
    wide_source (table name) = named (tables name) (wide name)
    wide_source (inner_join l r on) =
        on_ok HasFullRows HasFullRows (selected tables pool l) (λ a. selected tables pool r >>= λ b. inner_joined pool on a b) (wide_selected l)
        (λ a v. on_ok HasFullRows HasFullRows (selected tables pool r) (λ b. inner_joined pool on a b) (wide_selected r) (λ b w. wide_inner pool on a b v w))
    wide_source (left_join l r on) =
        on_ok HasFullRows HasFullRows (selected tables pool l) (λ a. selected tables pool r >>= λ b. left_joined pool on a b) (wide_selected l)
        (λ a v. on_ok HasFullRows HasFullRows (selected tables pool r) (λ b. left_joined pool on a b) (wide_selected r) (λ b w. wide_left pool on a b v w))
