-- Rows of _Validation that differ in their descriptions alone describe tables alike.
use Rattle.std.proofs.Common.{◌≡◌, ◌∙◌, ℕ, zero, suc, Bool, true, false, cond, List, [], ◌∷◌, length, map, take, refl, sym, ap, ap₂, arith, Option, Some, None}
use Rattle.std.specs.Prelude.{◌&&◌, ◌==◌, bytes_eq, filter, find, if◌then◌else◌, is_some, option_and_then, option_map, slice_set, unwrap_or, IsPermutation}
use Rattle.std.specs.Int.{w32, cast_unsigned}
use Rattle.std.specs.List.{list_all}
use Rattle.std.proofs.lemmas.Bool.{and_parts}
use Rattle.std.proofs.lemmas.Bool.Decides.{nat_tests}
use Rattle.std.proofs.lemmas.List.Sorted.{IsPermutation-refl}
use Rattle.msi_changes.specs.Changes.{values_after, values_set}
use Rattle.msi_columns.specs.Column.{column_place, Column}
use Rattle.msi_expr.specs.Conditions.{matches}
use Rattle.msi_expr.specs.Formula.{Formula}
use Rattle.msi_pool.specs.Pool.{Pool}
use Rattle.msi_tables.specs.Rows.{Row}
use Rattle.msi_tables.specs.Schema.{are_keys, column_of_bits, column_read, columns_columns, columns_in, columns_name, columns_read, described, described_by, begins_with, is_filled, is_for, is_number, is_of_listed, is_schema, names_described, schema_of, tables_columns, tables_name}
use Rattle.msi_tables.specs.Table.{are_distinct, row_data}
use Rattle.msi_values.specs.Datum.{Datum, null, number, text, binary}
use Rattle.msi_spec.specs.Calls.{is_column_at}
use Rattle.msi_schema.proofs.Beside.{moved}
use Rattle.msi_schema.proofs.Schemas.{schemas_moved}
use Rattle.msi_rewritten.specs.Rewriting.{DescribesAlike}

-- a row without its description
abbrev pub blank : List Datum → List Datum
blank r = slice_set r 9 null

-- ---- what is read of it

for_blank : (table name : List ℕ) (r : List Datum) → is_for table name (blank r) ≡ is_for table name r
for_blank table name [] = refl
for_blank table name (t ∷ []) = refl
for_blank table name (t ∷ n ∷ ds) = refl

front_blank : (r : List Datum) → take 2 (blank r) ≡ take 2 r
front_blank [] = refl
front_blank (t ∷ []) = refl
front_blank (t ∷ n ∷ ds) = refl

told_blank : (r : List Datum) (x : Column) → described (blank r) x ≡ described r x
told_blank [] x = refl
told_blank (a ∷ []) x = refl
told_blank (a ∷ b ∷ []) x = refl
told_blank (a ∷ b ∷ null ∷ ds) x = refl
told_blank (a ∷ b ∷ number z ∷ ds) x = refl
told_blank (a ∷ b ∷ binary ∷ ds) x = refl
told_blank (a ∷ b ∷ text t ∷ []) x = refl
told_blank (a ∷ b ∷ text t ∷ d ∷ []) x = refl
told_blank (a ∷ b ∷ text t ∷ d ∷ e ∷ []) x = refl
told_blank (a ∷ b ∷ text t ∷ d ∷ e ∷ f ∷ []) x = refl
told_blank (a ∷ b ∷ text t ∷ d ∷ e ∷ f ∷ g ∷ []) x = refl
told_blank (a ∷ b ∷ text t ∷ d ∷ e ∷ f ∷ g ∷ h ∷ []) x = refl
told_blank (a ∷ b ∷ text t ∷ d ∷ e ∷ f ∷ g ∷ h ∷ i ∷ []) x = refl
told_blank (a ∷ b ∷ text t ∷ d ∷ e ∷ f ∷ g ∷ h ∷ i ∷ j ∷ []) x = refl
told_blank (a ∷ b ∷ text t ∷ d ∷ e ∷ f ∷ g ∷ h ∷ i ∷ j ∷ k ∷ ds) x = refl

found_blank : (table name : List ℕ) (vs : List (List Datum)) → find (is_for table name) (map blank vs) ≡ option_map blank (find (is_for table name) vs)
found_blank table name [] = refl
found_blank table name (v ∷ vs) =
    ap (λ b. cond b (Some (blank v)) (find (is_for table name) (map blank vs))) (for_blank table name v) ∙ by (is_for table name v) (found_blank table name vs)
  where
    by : (b : Bool) → find (is_for table name) (map blank vs) ≡ option_map blank (find (is_for table name) vs)
        → cond b (Some (blank v)) (find (is_for table name) (map blank vs)) ≡ option_map blank (cond b (Some v) (find (is_for table name) vs))
    by true rest = refl
    by false rest = rest

by_blank : (o : Option (List Datum)) (k : Option Column) → option_and_then (described_by (option_map blank o)) k ≡ option_and_then (described_by o) k
by_blank o None = refl
by_blank None (Some x) = refl
by_blank (Some r) (Some x) = told_blank r x

module _ (vs : List (List Datum)) where
  read_blank : (row : List Datum) → column_read (map blank vs) row ≡ column_read vs row
  read_blank [] = refl
  read_blank (null ∷ ds) = refl
  read_blank (number z ∷ ds) = refl
  read_blank (binary ∷ ds) = refl
  read_blank (text t ∷ []) = refl
  read_blank (text t ∷ null ∷ ds) = refl
  read_blank (text t ∷ text u ∷ ds) = refl
  read_blank (text t ∷ binary ∷ ds) = refl
  read_blank (text t ∷ number n ∷ []) = refl
  read_blank (text t ∷ number n ∷ null ∷ ds) = refl
  read_blank (text t ∷ number n ∷ number m ∷ ds) = refl
  read_blank (text t ∷ number n ∷ binary ∷ ds) = refl
  read_blank (text t ∷ number n ∷ text u ∷ []) = refl
  read_blank (text t ∷ number n ∷ text u ∷ null ∷ ds) = refl
  read_blank (text t ∷ number n ∷ text u ∷ text s ∷ ds) = refl
  read_blank (text t ∷ number n ∷ text u ∷ binary ∷ ds) = refl
  read_blank (text t ∷ number n ∷ text u ∷ number bits ∷ d ∷ ds) = refl
  read_blank (text t ∷ number n ∷ text u ∷ number bits ∷ []) =
      ap (λ o. option_and_then (described_by o) (column_of_bits u (cast_unsigned w32 bits))) (found_blank t u vs)
      ∙ by_blank (find (is_for t u) vs) (column_of_bits u (cast_unsigned w32 bits))

  reads : column_read (map blank vs) ≡ column_read vs
  reads = λ i row. read_blank row i

  columns_blank : (own : List (List Datum)) (left n : ℕ) → columns_read (map blank vs) own left n ≡ columns_read vs own left n
  columns_blank own zero n = refl
  columns_blank own (suc left) n =
      ap₂ (λ f q. option_and_then (λ c. option_map (λ cs. c ∷ cs) q) (option_and_then f (find (is_number n) own))) reads (columns_blank own left (suc n))

  schema_blank : (columns : List (List Datum)) (name : List ℕ) → schema_of columns (map blank vs) name ≡ schema_of columns vs name
  schema_blank columns name =
      let own = filter (begins_with name) columns in
      ap (cond (length own == 0) None) (columns_blank own (length own) 1)

  in_blank : (columns : List (List Datum)) (name : List ℕ) → columns_in columns (map blank vs) name ≡ columns_in columns vs name
  in_blank columns name =
      ap (λ o. cond (bytes_eq name tables_name) (Some tables_columns) (cond (bytes_eq name columns_name) (Some columns_columns) o)) (schema_blank columns name)

  names_blank : (columns : List (List Datum)) (row : List Datum) → names_described columns (map blank vs) row ≡ names_described columns vs row
  names_blank columns [] = refl
  names_blank columns (null ∷ ds) = refl
  names_blank columns (number z ∷ ds) = refl
  names_blank columns (binary ∷ ds) = refl
  names_blank columns (text s ∷ ds) = ap is_some (schema_blank columns s)

fronts_blank : (vs : List (List Datum)) → map (take 2) (map blank vs) ≡ map (take 2) vs
fronts_blank [] = refl
fronts_blank (v ∷ vs) = ap₂ (λ x xs. x ∷ xs) (front_blank v) (fronts_blank vs)

is_blank : (tables columns vs : List (List Datum)) → is_schema tables columns (map blank vs) ≡ is_schema tables columns vs
is_blank tables columns vs =
    let names : names_described columns (map blank vs) ≡ names_described columns vs = λ i row. names_blank vs columns row i in
    ap₂ (λ keys p. are_keys tables && are_keys (map (take 2) columns) && list_all (list_all is_filled) columns && list_all (is_of_listed tables) columns && are_keys keys && list_all p tables)
    (fronts_blank vs) names

-- ---- other descriptions, in another order

-- no key of _Columns and of _Validation stands twice
pub alone : (tables columns vs : List (List Datum)) → is_schema tables columns vs ≡ true → (are_distinct (map (take 2) columns) ≡ true) × (are_distinct (map (take 2) vs) ≡ true)
alone tables columns vs e =
    let a = are_keys tables in
    let b = are_keys (map (take 2) columns) in
    let c = list_all (list_all is_filled) columns in
    let d = list_all (is_of_listed tables) columns in
    let k = are_keys (map (take 2) vs) in
    let five = and_parts (a && b && c && d && k) (list_all (names_described columns vs) tables) e in
    let four = and_parts (a && b && c && d) k five.0 in
    let three = and_parts (a && b && c) d four.0 in
    let two = and_parts (a && b) c three.0 in
    let one = and_parts a b two.0 in (
      (and_parts (list_all (list_all is_filled) (map (take 2) columns)) (are_distinct (map (take 2) columns)) one.1).1,
      (and_parts (list_all (list_all is_filled) (map (take 2) vs)) (are_distinct (map (take 2) vs)) four.1).1,
    )

pub describe_alike : (old mid new : List (List Datum)) → map blank mid ≡ map blank old → IsPermutation mid new → DescribesAlike old new
describe_alike old mid new same moves = record {
  schema = λ tables columns is. schemas_moved tables tables columns columns mid new (IsPermutation-refl tables) (IsPermutation-refl columns) moves (between tables columns is);
  columns = λ tables columns is name.
      let once = alone tables columns mid (between tables columns is) in
      moved columns columns mid new (IsPermutation-refl columns) moves once.0 once.1 name
      ∙ sym (in_blank mid columns name)
      ∙ ap (λ vs. columns_in columns vs name) same
      ∙ in_blank old columns name;
}
  where
    between : (tables columns : List (List Datum)) → is_schema tables columns old ≡ true → is_schema tables columns mid ≡ true
    between tables columns is = sym (is_blank tables columns mid) ∙ ap (is_schema tables columns) same ∙ is_blank tables columns old ∙ is

-- ---- an update of descriptions

set_twice : (i : ℕ) (r : List Datum) (x y : Datum) → slice_set (slice_set r i x) i y ≡ slice_set r i y
set_twice i [] x y = refl
set_twice zero (d ∷ ds) x y = refl
set_twice (suc i) (d ∷ ds) x y = ap (λ l. d ∷ l) (set_twice i ds x y)

tenth : (o : Option ℕ) → is_column_at 9 o ≡ true → unwrap_or o 0 ≡ 9
tenth None is = (let never : false ≡ true = is in cc)
tenth (Some n) is = grind (arith, nat_tests, is)

module _ (columns : List Column) where
  set_blank : (sets : List (List ℕ × Datum)) → list_all (λ s. is_column_at 9 (column_place columns s.0)) sets ≡ true → (ds : List Datum) → blank (values_set columns ds sets) ≡ blank ds
  set_blank [] all ds = refl
  set_blank (s ∷ ss) all ds =
      let both = and_parts (is_column_at 9 (column_place columns s.0)) (list_all (λ s. is_column_at 9 (column_place columns s.0)) ss) all in
      set_blank ss both.1 (slice_set ds (unwrap_or (column_place columns s.0) 0) s.1)
      ∙ ap (λ i. blank (slice_set ds i s.1)) (tenth (column_place columns s.0) both.0)
      ∙ set_twice 9 ds s.1 null

  after_blank : (pool : Pool) (sets : List (List ℕ × Datum)) (condition : Option Formula) → list_all (λ s. is_column_at 9 (column_place columns s.0)) sets ≡ true
      → (rows : List Row) → map blank (map (values_after pool columns sets condition) rows) ≡ map blank (map (row_data pool) rows)
  after_blank pool sets condition all [] = refl
  after_blank pool sets condition all (row ∷ rows) = ap₂ (λ x xs. x ∷ xs) (by (matches pool columns condition row)) (after_blank pool sets condition all rows)
    where
      by : (b : Bool) → blank (if b then values_set columns (row_data pool row) sets else row_data pool row) ≡ blank (row_data pool row)
      by true = set_blank sets all (row_data pool row)
      by false = refl

  pub descriptions_alike : (pool : Pool) (sets : List (List ℕ × Datum)) (condition : Option Formula) → list_all (λ s. is_column_at 9 (column_place columns s.0)) sets ≡ true
      → (rows : List Row) (mid new : List (List Datum)) → mid ≡ map (values_after pool columns sets condition) rows → IsPermutation mid new → DescribesAlike (map (row_data pool) rows) new
  descriptions_alike pool sets condition all rows mid new read moves =
      describe_alike (map (row_data pool) rows) mid new (ap (map blank) read ∙ after_blank pool sets condition all rows) moves
