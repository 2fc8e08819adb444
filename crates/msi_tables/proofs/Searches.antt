-- Searches in a list of what elements say are searches in the list of the elements.
use Rattle.std.proofs.Common.{◌≡◌, ℕ, suc, ◌+◌, ◌<◌, List, [], ◌∷◌, length, map, refl, sym, ap, ap₂, ◌∙◌, Bool, true, false, not, arith, cond, nat_lt, Option, Some, None}
use Rattle.std.specs.Prelude.{option_map, option_and_then, slice_get, find, bytes_eq}
use Rattle.std.specs.List.{prefix_len, position_or_len, position}
use Rattle.std.proofs.lemmas.Grind.{common_steps}
use Rattle.std.proofs.lemmas.List.{length-map}
use Rattle.msi_values.specs.Datum.{Datum}
use Rattle.msi_columns.specs.Column.{Column, column_place}
use Rattle.msi_tables.specs.Row.{ValueRow, cell_named, cells_of, named_cells}
use borrow.Author.Tests.{ltb-true}

position_or_len_map : {X Y : Type 0} (p : Y → Bool) (f : X → Y) (xs : List X) → position_or_len p (map f xs) ≡ position_or_len (λ x. p (f x)) xs
position_or_len_map p f [] = refl
position_or_len_map p f (x ∷ xs) = grind (arith, common_steps, position_or_len_map p f xs)

pub position_map : {X Y : Type 0} (p : Y → Bool) (f : X → Y) (xs : List X) → position p (map f xs) ≡ position (λ x. p (f x)) xs
position_map p f xs = ap₂ (λ i n. cond (nat_lt i n) (Some i) None) (position_or_len_map p f xs) (length-map xs f)

pub find_map : {X Y : Type 0} (p : Y → Bool) (f : X → Y) (xs : List X) → find p (map f xs) ≡ option_map f (find (λ x. p (f x)) xs)
find_map p f [] = refl
find_map {X} p f (x ∷ xs) = go (p (f x)) (find_map p f xs)
  where
    go : (b : Bool) → find p (map f xs) ≡ option_map f (find (λ x. p (f x)) xs) →
        cond b (Some (f x)) (find p (map f xs)) ≡ option_map f (cond b (Some x) (find (λ x. p (f x)) xs))
    go true ih = refl
    go false ih = ih

-- the place in a longer list
later : (n m : ℕ) → cond (nat_lt (1 + n) (suc m)) (Some (1 + n)) None ≡ option_map (λ i. suc i) (cond (nat_lt n m) (Some n) None)
later n m = grind (arith, common_steps)

found : (m : ℕ) → ◌≡◌ {A = Option ℕ} (cond {A = Option ℕ} (nat_lt 0 (suc m)) (Some 0) None) (Some 0)
found m = grind (arith, common_steps)

pub position_cons : {X : Type 0} (p : X → Bool) (x : X) (xs : List X) → position p (x ∷ xs) ≡ cond (p x) (Some 0) (option_map (λ i. suc i) (position p xs))
position_cons {X} p x xs = go (p x)
  where
    go : (b : Bool) → (let n = cond (not b) (1 + prefix_len (λ y. not (p y)) xs) 0 in cond (nat_lt n (length (x ∷ xs))) (Some n) None) ≡ cond b (Some 0) (option_map (λ i. suc i) (position p xs))
    go true = found (length xs)
    go false = later (prefix_len (λ y. not (p y)) xs) (length xs)

-- the value of the first column of a name is the one at its place
pub cell_at_place : (name : List ℕ) (columns : List Column) (values : List Datum) → length values ≡ length columns →
    cell_named name (named_cells columns values) ≡ option_and_then (slice_get values) (column_place columns name)
cell_at_place name [] [] same = refl
cell_at_place name [] (v ∷ vs) same = absurd (cc same)
cell_at_place name (c ∷ cs) [] same = absurd (cc same)
cell_at_place name (c ∷ cs) (v ∷ vs) same = go (bytes_eq c.name name) (column_place cs name) (cell_at_place name cs vs (omega (arith, same))) (position_cons (λ c. bytes_eq c.name name) c cs)
  where
    go : (b : Bool) (found : Option ℕ) → cell_named name (named_cells cs vs) ≡ option_and_then (slice_get vs) found →
        column_place (c ∷ cs) name ≡ cond b (Some 0) (option_map (λ i. suc i) found) →
        cond b (Some v) (cell_named name (named_cells cs vs)) ≡ option_and_then (slice_get (v ∷ vs)) (column_place (c ∷ cs) name)
    go true found ih place = rw place refl
    go false None ih place = rw place ih
    go false (Some i) ih place = rw place ih

-- the place of no column
pub nothing_named : (row : ValueRow) (name : List ℕ) → length row.values ≡ length row.columns → column_place row.columns name ≡ None → cell_named name (cells_of row) ≡ None
nothing_named row name same none = cell_at_place name row.columns row.values same ∙ rw none refl

-- the place of a column
pub value_named : (row : ValueRow) (name : List ℕ) (i : ℕ) → length row.values ≡ length row.columns → column_place row.columns name ≡ Some i → cell_named name (cells_of row) ≡ slice_get row.values i
value_named row name i same some = cell_at_place name row.columns row.values same ∙ rw some refl

-- a column's place is below their number
pub place_below : (columns : List Column) (name : List ℕ) (i : ℕ) → column_place columns name ≡ Some i → i < length columns
place_below columns name i is = go (nat_lt n (length columns)) refl is
  where
    n : ℕ
    n = position_or_len (λ c. bytes_eq c.name name) columns

    go : (b : Bool) → nat_lt n (length columns) ≡ b → cond b (Some n) None ≡ Some i → i < length columns
    go true below some = let same : n ≡ i = cc some in rw same at (ltb-true n (length columns) below)
    go false above some = absurd (cc some)

-- what is found, as what it says
pub found_says : {B X Y : Type 0} (now : B → X) (f : X → Y) (r : Option B) (p : Y → Bool) (xs : List X) →
    option_map now r ≡ find (λ x. p (f x)) xs → option_map (λ b. f (now b)) r ≡ find p (map f xs)
found_says {B} now f r p xs is = twice r ∙ ap (option_map f) is ∙ sym (find_map p f xs)
  where
    twice : (r : Option B) → option_map (λ b. f (now b)) r ≡ option_map f (option_map now r)
    twice None = refl
    twice (Some b) = refl
