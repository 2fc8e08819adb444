-- The rows that describe a new table have keys of their own, and speak of it.
use Rattle.std.proofs.Common.{◌≡◌, ◌∙◌, ℕ, suc, ◌<◌, Bool, true, false, cond, List, [], ◌∷◌, map, take, refl, ap₂, arith, not, Some}
use Rattle.std.specs.Prelude.{◌&&◌, ◌||◌, ◌==◌, bytes_eq, find, is_none, pos}
use Rattle.std.specs.List.{list_all, list_any}
use Rattle.std.specs.Ordering.{int_cmp, is_eq, nat_cmp, ordering_then}
use Rattle.std.specs.Cmp.Lexicographic.{slice_cmp}
use Rattle.std.specs.declared.cmp.Ordering.{Ordering}
use Rattle.std.specs.declared.cmp.Ordering.TheVariants.{Less, Equal, Greater}
use Rattle.std.proofs.lemmas.Bool.{and_parts}
use Rattle.std.proofs.lemmas.Bool.Decides.{nat_tests}
use Rattle.std.proofs.lemmas.Cmp.{nat_list_eq_equiv}
use Rattle.std.proofs.lemmas.Map.Text.{is_eq-slice_cmp}
use Rattle.std.proofs.lemmas.Slice.Eq.{bytes_eq-Decides}
use Rattle.msi_values.specs.Datum.{Datum, null, number, text, binary}
use Rattle.msi_columns.specs.Column.{Column}
use Rattle.msi_tables.specs.Schema.{are_keys, begins_with, columns_rows, is_filled, is_for, validation_row}
use Rattle.msi_tables.specs.Table.{are_distinct, has_key, key_cmp}
use Rattle.msi_spec.specs.Calls.{names_distinct}

less_then : (o : Ordering) (p : Ordering) → is_eq (ordering_then o p) ≡ (is_eq o && is_eq p)
less_then Less p = refl
less_then Equal p = refl
less_then Greater p = refl

and_true : (b : Bool) → (b && true) ≡ b
and_true true = refl
and_true false = refl

and_false : (b : Bool) → (b && false) ≡ false
and_false true = refl
and_false false = refl

itself : (t : List ℕ) → bytes_eq t t ≡ true
itself t = (bytes_eq-Decides t t).1 refl

same_number : (m n : ℕ) → is_eq (int_cmp (pos m) (pos n)) ≡ (m == n)
same_number m n = grind (arith, nat_tests)

key_number : (t : List ℕ) (m n : ℕ) → is_eq (key_cmp (text t ∷ number (pos m) ∷ []) (text t ∷ number (pos n) ∷ [])) ≡ (m == n)
key_number t m n =
    less_then (slice_cmp nat_cmp t t) (ordering_then (int_cmp (pos m) (pos n)) Equal)
    ∙ ap₂ (λ a b. a && b) (is_eq-slice_cmp t t ∙ itself t) (less_then (int_cmp (pos m) (pos n)) Equal ∙ and_true (is_eq (int_cmp (pos m) (pos n))) ∙ same_number m n)

key_name : (t a b : List ℕ) → is_eq (key_cmp (text t ∷ text a ∷ []) (text t ∷ text b ∷ [])) ≡ bytes_eq a b
key_name t a b =
    less_then (slice_cmp nat_cmp t t) (ordering_then (slice_cmp nat_cmp a b) Equal)
    ∙ ap₂ (λ x y. x && y) (is_eq-slice_cmp t t ∙ itself t) (less_then (slice_cmp nat_cmp a b) Equal ∙ and_true (is_eq (slice_cmp nat_cmp a b)) ∙ is_eq-slice_cmp a b)

-- ---- rows of _Columns

number_above : (t : List ℕ) (k n : ℕ) (cs : List Column) → k < n → has_key (map (take 2) (columns_rows t n cs)) (text t ∷ number (pos k) ∷ []) ≡ false
number_above t k n [] above = refl
number_above t k n (c ∷ cs) above = ap₂ (λ a b. a || b) (key_number t n k ∙ other) (number_above t k (suc n) cs (omega (arith, above)))
  where
    other : (n == k) ≡ false
    other = grind (arith, nat_tests, above)

pub columns_distinct : (t : List ℕ) (n : ℕ) (cs : List Column) → are_distinct (map (take 2) (columns_rows t n cs)) ≡ true
columns_distinct t n [] = refl
columns_distinct t n (c ∷ cs) = ap₂ (λ a b. not a && b) (number_above t n (suc n) cs (omega arith)) (columns_distinct t (suc n) cs)

pub columns_filled : (t : List ℕ) (n : ℕ) (cs : List Column) → list_all (list_all is_filled) (columns_rows t n cs) ≡ true
columns_filled t n [] = refl
columns_filled t n (c ∷ cs) = columns_filled t (suc n) cs

column_keys_filled : (t : List ℕ) (n : ℕ) (cs : List Column) → list_all (list_all is_filled) (map (take 2) (columns_rows t n cs)) ≡ true
column_keys_filled t n [] = refl
column_keys_filled t n (c ∷ cs) = column_keys_filled t (suc n) cs

pub columns_keys : (t : List ℕ) (n : ℕ) (cs : List Column) → are_keys (map (take 2) (columns_rows t n cs)) ≡ true
columns_keys t n cs = ap₂ (λ a b. a && b) (column_keys_filled t n cs) (columns_distinct t n cs)

pub columns_begin : (t : List ℕ) (n : ℕ) (cs : List Column) → list_all (begins_with t) (columns_rows t n cs) ≡ true
columns_begin t n [] = refl
columns_begin t n (c ∷ cs) = ap₂ (λ a b. a && b) (itself t) (columns_begin t (suc n) cs)

-- ---- rows of _Validation

named_key : (t name : List ℕ) (cs : List Column) → has_key (map (take 2) (map (validation_row t) cs)) (text t ∷ text name ∷ []) ≡ list_any (λ d. bytes_eq d.name name) cs
named_key t name [] = refl
named_key t name (c ∷ cs) = ap₂ (λ a b. a || b) (key_name t c.name name) (named_key t name cs)

validation_distinct : (t : List ℕ) (cs : List Column) → are_distinct (map (take 2) (map (validation_row t) cs)) ≡ names_distinct cs
validation_distinct t [] = refl
validation_distinct t (c ∷ cs) = ap₂ (λ a b. not a && b) (named_key t c.name cs) (validation_distinct t cs)

validation_keys_filled : (t : List ℕ) (cs : List Column) → list_all (list_all is_filled) (map (take 2) (map (validation_row t) cs)) ≡ true
validation_keys_filled t [] = refl
validation_keys_filled t (c ∷ cs) = validation_keys_filled t cs

pub validation_keys : (t : List ℕ) (cs : List Column) → names_distinct cs ≡ true → are_keys (map (take 2) (map (validation_row t) cs)) ≡ true
validation_keys t cs distinct = ap₂ (λ a b. a && b) (validation_keys_filled t cs) (validation_distinct t cs ∙ distinct)

pub validation_begins : (t : List ℕ) (cs : List Column) → list_all (begins_with t) (map (validation_row t) cs) ≡ true
validation_begins t [] = refl
validation_begins t (c ∷ cs) = ap₂ (λ a b. a && b) (itself t) (validation_begins t cs)

-- the key of a new row is that of another where that one is for the column
key_for : (t name : List ℕ) (row : List Datum) → is_for t name row ≡ false → is_eq (key_cmp (text t ∷ text name ∷ []) (take 2 row)) ≡ false
key_for t name [] e = refl
key_for t name (null ∷ []) e = refl
key_for t name (number z ∷ []) e = refl
key_for t name (binary ∷ []) e = refl
key_for t name (text s ∷ []) e = less_then (slice_cmp nat_cmp t s) Greater ∙ and_false (is_eq (slice_cmp nat_cmp t s))
key_for t name (null ∷ d ∷ ds) e = refl
key_for t name (number z ∷ d ∷ ds) e = refl
key_for t name (binary ∷ d ∷ ds) e = refl
key_for t name (text s ∷ null ∷ ds) e = less_then (slice_cmp nat_cmp t s) Greater ∙ and_false (is_eq (slice_cmp nat_cmp t s))
key_for t name (text s ∷ number z ∷ ds) e = less_then (slice_cmp nat_cmp t s) Greater ∙ and_false (is_eq (slice_cmp nat_cmp t s))
key_for t name (text s ∷ binary ∷ ds) e = less_then (slice_cmp nat_cmp t s) Less ∙ and_false (is_eq (slice_cmp nat_cmp t s))
key_for t name (text s ∷ text u ∷ ds) e =
    less_then (slice_cmp nat_cmp t s) (ordering_then (slice_cmp nat_cmp name u) Equal)
    ∙ ap₂ (λ a b. a && b) (is_eq-slice_cmp t s ∙ nat_list_eq_equiv.symm t s)
    (less_then (slice_cmp nat_cmp name u) Equal ∙ and_true (is_eq (slice_cmp nat_cmp name u)) ∙ is_eq-slice_cmp name u ∙ nat_list_eq_equiv.symm name u)
    ∙ e

abbrev Unsaid : List ℕ → List (List Datum) → List Column → Bool
Unsaid t rows cs = list_all (λ c. is_none (find (is_for t c.name) rows)) cs

first_unsaid : (t name : List ℕ) (row : List Datum) (rows : List (List Datum)) → is_none (find (is_for t name) (row ∷ rows)) ≡ true → (is_for t name row ≡ false) × (is_none (find (is_for t name) rows) ≡ true)
first_unsaid t name row rows e = go (is_for t name row) e
  where
    go : (b : Bool) → is_none (cond b (Some row) (find (is_for t name) rows)) ≡ true → (b ≡ false) × (is_none (find (is_for t name) rows) ≡ true)
    go true e = absurd (cc)
    go false e = (refl, e)

row_apart : (t : List ℕ) (row : List Datum) (rows : List (List Datum)) (cs : List Column) → Unsaid t (row ∷ rows) cs ≡ true
    → (has_key (map (take 2) (map (validation_row t) cs)) (take 2 row) ≡ false) × (Unsaid t rows cs ≡ true)
row_apart t row rows [] e = (refl, refl)
row_apart t row rows (c ∷ cs) e =
    let parts = and_parts (is_none (find (is_for t c.name) (row ∷ rows))) (Unsaid t (row ∷ rows) cs) e in
    let one = first_unsaid t c.name row rows parts.0 in
    let others = row_apart t row rows cs parts.1 in
    (ap₂ (λ a b. a || b) (key_for t c.name row one.0) others.0, ap₂ (λ a b. a && b) one.1 others.1)

pub keys_apart : (t : List ℕ) (rows : List (List Datum)) (cs : List Column) → Unsaid t rows cs ≡ true
    → list_all (λ key. not (has_key (map (take 2) (map (validation_row t) cs)) key)) (map (take 2) rows) ≡ true
keys_apart t [] cs e = refl
keys_apart t (row ∷ rows) cs e = let parts = row_apart t row rows cs e in ap₂ (λ a b. not a && b) parts.0 (keys_apart t rows cs parts.1)
