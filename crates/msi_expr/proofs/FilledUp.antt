-- A row that is filled up with nulls matches as it did.
use Rattle.std.proofs.Common.{◌≡◌, ◌∙◌, sym, ap, ap₂, ℕ, zero, suc, List, [], ◌∷◌, refl, Bool, true, false, arith, cond, length}
use Rattle.std.specs.Prelude.{◌&&◌, bytes_eq, slice_index_or, is_some, option_map, Option, Some, None}
use Rattle.msi_values.specs.Datum.{Datum, null, counts_as_true}
use Rattle.msi_columns.specs.Column.{Column, has_column, column_place}
use Rattle.msi_tables.specs.Row.{cell_named, named_cells}
use Rattle.msi_expr.specs.Formula.{Formula, literal, column, unary, two, both, either, value_of_formula, has_columns, or_null}
use Rattle.msi_tables.proofs.Searches.{position_cons}
use Rattle.msi_expr.specs.Conditions.{has_named_columns, filled_up}

pub filled_length : (n : ℕ) (ds : List Datum) → length (filled_up n ds) ≡ n
filled_length zero ds = refl
filled_length (suc n) [] = grind (arith, filled_length n [])
filled_length (suc n) (d ∷ ds) = grind (arith, filled_length n ds)

named_none : (name : List ℕ) (columns : List Column) → or_null (cell_named name (named_cells columns (filled_up (length columns) []))) ≡ null
named_none name [] = refl
named_none name (c ∷ cs) = go (named_none name cs) (bytes_eq c.name name)
  where
    go : or_null (cell_named name (named_cells cs (filled_up (length cs) []))) ≡ null → (b : Bool) → or_null (cond b (Some null) (cell_named name (named_cells cs (filled_up (length cs) [])))) ≡ null
    go ih true = refl
    go ih false = ih

named_same : (name : List ℕ) (columns : List Column) (ds : List Datum) →
    or_null (cell_named name (named_cells columns (filled_up (length columns) ds))) ≡ or_null (cell_named name (named_cells columns ds))
named_same name [] ds = refl
named_same name (c ∷ cs) [] = named_none name (c ∷ cs)
named_same name (c ∷ cs) (d ∷ ds) = go (named_same name cs ds) (bytes_eq c.name name)
  where
    go : or_null (cell_named name (named_cells cs (filled_up (length cs) ds))) ≡ or_null (cell_named name (named_cells cs ds)) → (b : Bool) →
        or_null (cond b (Some d) (cell_named name (named_cells cs (filled_up (length cs) ds)))) ≡ or_null (cond b (Some d) (cell_named name (named_cells cs ds)))
    go ih true = refl
    go ih false = ih

pub worth_same : (columns : List Column) (ds : List Datum) (f : Formula) → value_of_formula (named_cells columns (filled_up (length columns) ds)) f ≡ value_of_formula (named_cells columns ds) f
worth_same columns ds (literal d) = refl
worth_same columns ds (column name) = named_same name columns ds
worth_same columns ds (unary o a) = rw (worth_same columns ds a) refl
worth_same columns ds (two o a b) = rw (worth_same columns ds a) (rw (worth_same columns ds b) refl)
worth_same columns ds (both a b) = rw (worth_same columns ds a) (rw (worth_same columns ds b) refl)
worth_same columns ds (either a b) = rw (worth_same columns ds a) (rw (worth_same columns ds b) refl)

there : (name : List ℕ) (columns : List Column) (ds : List Datum) → length ds ≡ length columns → is_some (cell_named name (named_cells columns ds)) ≡ has_column columns name
there name [] [] same = refl
there name [] (d ∷ ds) same = absurd (cc same)
there name (c ∷ cs) [] same = absurd (cc same)
there name (c ∷ cs) (d ∷ ds) same = rw (position_cons (λ c. bytes_eq c.name name) c cs) (go (there name cs ds (omega (arith, same))) (bytes_eq c.name name))
  where
    later : (n : Option ℕ) → is_some (option_map (λ i. suc i) n) ≡ is_some n
    later None = refl
    later (Some n) = refl

    go : is_some (cell_named name (named_cells cs ds)) ≡ has_column cs name → (b : Bool) → is_some (cond b (Some d) (cell_named name (named_cells cs ds))) ≡ is_some (cond b (Some 0) (option_map (λ i. suc i) (column_place cs name)))
    go ih true = refl
    go ih false = ih ∙ sym (later (column_place cs name))

pub known_there : (columns : List Column) (ds : List Datum) (f : Formula) → length ds ≡ length columns → has_columns (named_cells columns ds) f ≡ has_named_columns columns f
known_there columns ds (literal d) same = refl
known_there columns ds (column name) same = there name columns ds same
known_there columns ds (unary o a) same = known_there columns ds a same
known_there columns ds (two o a b) same = ap₂ (λ x y. x && y) (known_there columns ds a same) (known_there columns ds b same)
known_there columns ds (both a b) same = ap₂ (λ x y. x && y) (known_there columns ds a same) (known_there columns ds b same)
known_there columns ds (either a b) same = ap₂ (λ x y. x && y) (known_there columns ds a same) (known_there columns ds b same)

-- each column that is known is there
pub all_there : (columns : List Column) (ds : List Datum) (f : Formula) → has_columns (named_cells columns (filled_up (length columns) ds)) f ≡ has_named_columns columns f
all_there columns ds f = known_there columns (filled_up (length columns) ds) f (filled_length (length columns) ds)

-- the value of a column stands at its place; where there is none, null does
pub named_place : (columns : List Column) (ds : List Datum) (name : List ℕ) → cell_named name (named_cells columns (filled_up (length columns) ds)) ≡ option_map (λ i. slice_index_or ds i null) (column_place columns name)
named_place [] ds name = refl
named_place (c ∷ cs) [] name = rw (position_cons (λ c. bytes_eq c.name name) c cs) (go (bytes_eq c.name name) (named_place cs [] name))
  where
    go : (b : Bool) → cell_named name (named_cells cs (filled_up (length cs) [])) ≡ option_map (λ i. slice_index_or [] i null) (column_place cs name)
        → cond b (Some null) (cell_named name (named_cells cs (filled_up (length cs) []))) ≡ option_map (λ i. slice_index_or [] i null) (cond b (Some 0) (option_map (λ i. suc i) (column_place cs name)))
    go true ih = refl
    go false ih = ih ∙ later (column_place cs name)
      where
        later : (o : Option ℕ) → option_map (λ i. slice_index_or [] i null) o ≡ option_map (λ i. slice_index_or [] i null) (option_map (λ i. suc i) o)
        later None = refl
        later (Some i) = refl
named_place (c ∷ cs) (d ∷ ds) name = rw (position_cons (λ c. bytes_eq c.name name) c cs) (go (bytes_eq c.name name) (named_place cs ds name))
  where
    go : (b : Bool) → cell_named name (named_cells cs (filled_up (length cs) ds)) ≡ option_map (λ i. slice_index_or ds i null) (column_place cs name)
        → cond b (Some d) (cell_named name (named_cells cs (filled_up (length cs) ds))) ≡ option_map (λ i. slice_index_or (d ∷ ds) i null) (cond b (Some 0) (option_map (λ i. suc i) (column_place cs name)))
    go true ih = refl
    go false ih = ih ∙ later (column_place cs name)
      where
        later : (o : Option ℕ) → option_map (λ i. slice_index_or ds i null) o ≡ option_map (λ i. slice_index_or (d ∷ ds) i null) (option_map (λ i. suc i) o)
        later None = refl
        later (Some i) = refl

-- what a row is worth, filled up
pub seen_whole : (columns : List Column) (ds : List Datum) (f : Formula) (d : Datum) → d ≡ value_of_formula (named_cells columns (filled_up (length columns) ds)) f →
    counts_as_true d ≡ counts_as_true (value_of_formula (named_cells columns ds) f)
seen_whole columns ds f d is = ap counts_as_true (is ∙ worth_same columns ds f)
