-- What is told where a new table is accepted.
use Rattle.std.proofs.Common.{◌≡◌, ℕ, ◌+◌, Bool, true, false, List, [], ◌∷◌, ◌++◌, length, map, refl, sym, ap, Option, Some, None, Result, Ok, Err, not}
use Rattle.std.specs.Prelude.{◌&&◌, ◌==◌, bytes_eq, is_some, nat_le, nat_lt}
use Rattle.std.specs.List.{list_all, list_any}
use Rattle.std.proofs.lemmas.Bool.{and_parts}
use Rattle.cfb_medium.specs.declared.error.Error.{Error}
use Rattle.cfb_medium.specs.declared.error.Error.TheVariants.{AlreadyExists, InvalidInput, NotFound}
use Rattle.msi_changes.specs.Changes.{rows_counted}
use Rattle.msi_columns.specs.Column.{are_valid, Column}
use Rattle.msi_spec.specs.Calls.{created, described, has_table, is_kept, names_distinct, stored_rows, Rows3}
use Rattle.msi_spec.specs.Package.{data_name, pool_name, PackageContent}
use Rattle.msi_pool.specs.Pool.{Pool}
use Rattle.msi_tables.specs.Rows.{max_rows, Row}
use Rattle.msi_tables.specs.Schema.{columns_columns, columns_name, columns_rows, tables_columns, tables_name, validation_name, validation_row}
use Rattle.msi_tables.specs.Table.{has_key, is_valid_table_name, keys_of, table_named, Table}
use Rattle.msi_texts.specs.Category.{is_identifier}
use Rattle.msi_texts.specs.Results.{◌>>=◌, or_refused, unless_not}
use Rattle.msi_values.specs.Datum.{text, Datum}

-- ---- steps of a chain

pub same_ok : {A : Type 0} (x y : A) → ◌≡◌ {A = Result A Error} (Ok x) (Ok y) → y ≡ x
same_ok {A} x y e = ap value (sym e)
  where
    value : Result A Error → A
    value (Ok z) = z
    value (Err f) = x

pub then_ok : {A B : Type 0} (r : Result A Error) (f : A → Result B Error) (x : B) → (r >>= f) ≡ Ok x → (a : A) × (r ≡ Ok a) × (f a ≡ Ok x)
then_ok (Ok a) f x e = (a, refl, e)
then_ok (Err w) f x e = absurd (cc)

pub passes : {B : Type 0} (b : Bool) (w : Error) (r : Result B Error) (x : B) → (unless_not b w >>= λ _. r) ≡ Ok x → (b ≡ true) × (r ≡ Ok x)
passes true w r x e = (refl, e)
passes false w r x e = absurd (cc)

pub finds : {A B : Type 0} (o : Option A) (w : Error) (f : A → Result B Error) (x : B) → (or_refused o w >>= f) ≡ Ok x → (a : A) × (o ≡ Some a) × (f a ≡ Ok x)
finds (Some a) w f x e = (a, refl, e)
finds None w f x e = absurd (cc)

not_true : (b : Bool) → not b ≡ true → b ≡ false
not_true true e = absurd (cc)
not_true false e = refl

pub none_found : (o : Option Table) → not (is_some o) ≡ true → o ≡ None
none_found None e = refl
none_found (Some t) e = absurd (cc)

-- ---- the rows that describe it

-- the rows as cells, whose texts are counted one table after the other
pub record AreCounted (pool : Pool) (name : List ℕ) (columns : List Column) (limits : List (List Datum)) : Type 0 where
  pub c : List Row × Pool
  pub t : List Row × Pool
  pub v : List Row × Pool
  pub c_is : rows_counted pool (columns_rows name 1 columns) ≡ Ok c
  pub t_is : rows_counted c.1 ((text name ∷ []) ∷ []) ≡ Ok t
  pub v_is : rows_counted t.1 limits ≡ Ok v

-- the same behind those that were there
pub record AreDescribed (P : PackageContent) (name : List ℕ) (columns : List Column) (x : Rows3 × Pool) : Type 0 where
  pub new : AreCounted P.pool name columns (map (validation_row name) columns)
  pub c_few : nat_le (length (stored_rows P columns_name) + length columns) max_rows ≡ true
  pub t_few : nat_lt (length (stored_rows P tables_name)) max_rows ≡ true
  pub v_few : nat_le (length (stored_rows P validation_name) + length columns) max_rows ≡ true
  pub is : x ≡ ((stored_rows P columns_name ++ new.c.0, stored_rows P tables_name ++ new.t.0, stored_rows P validation_name ++ new.v.0), new.v.1)

module _ (P : PackageContent) (name : List ℕ) (columns : List Column) where
  abbrev pub both : List Row × Pool → List Row × Pool → List Row × Pool → Rows3 × Pool
  both c t v = ((stored_rows P columns_name ++ c.0, stored_rows P tables_name ++ t.0, stored_rows P validation_name ++ v.0), v.1)

  abbrev pub last : List Row × Pool → List Row × Pool → Result (Rows3 × Pool) Error
  last c t = rows_counted t.1 (map (validation_row name) columns) >>= λ v. Ok (both c t v)

  abbrev pub second : List Row × Pool → Result (Rows3 × Pool) Error
  second c = rows_counted c.1 ((text name ∷ []) ∷ []) >>= λ t. last c t

  abbrev pub first : Result (Rows3 × Pool) Error
  first = rows_counted P.pool (columns_rows name 1 columns) >>= λ c. second c

  abbrev pub fits_rows : Bool
  fits_rows =
      nat_le (length (stored_rows P columns_name) + length columns) max_rows
      && nat_lt (length (stored_rows P tables_name)) max_rows
      && nat_le (length (stored_rows P validation_name) + length columns) max_rows

  pub are_described : (x : Rows3 × Pool) → described P name columns ≡ Ok x → AreDescribed P name columns x
  are_described x e =
      let cs = nat_le (length (stored_rows P columns_name) + length columns) max_rows in
      let ts = nat_lt (length (stored_rows P tables_name)) max_rows in
      let vs = nat_le (length (stored_rows P validation_name) + length columns) max_rows in
      let few = passes (cs && ts && vs) InvalidInput first x e in
      let two = and_parts (cs && ts) vs few.0 in
      let one = and_parts cs ts two.0 in
      let c = then_ok (rows_counted P.pool (columns_rows name 1 columns)) second x few.1 in
      let t = then_ok (rows_counted c.0.1 ((text name ∷ []) ∷ [])) (last c.0) x c.2 in
      let v = then_ok (rows_counted t.0.1 (map (validation_row name) columns)) (λ v. Ok (both c.0 t.0 v)) x t.2 in
      record { new = record { c = c.0; t = t.0; v = v.0; c_is = c.1; t_is = t.1; v_is = v.1 }; c_few = one.0; t_few = one.1; v_few = two.1; is = same_ok (both c.0 t.0 v.0) x v.2 }

-- ---- all tests

pub record AreMet (at_free : Bool) (P : PackageContent) (name : List ℕ) (columns : List Column) (x : Rows3 × Pool) : Type 0 where
  pub valid : is_valid_table_name name ≡ true
  pub some : not (length columns == 0) ≡ true
  pub distinct : names_distinct columns ≡ true
  pub new : table_named P.tables name ≡ None
  pub validation : Table
  pub found : table_named P.tables validation_name ≡ Some validation
  pub columns_fit : list_all (are_valid columns_columns) (columns_rows name 1 columns) ≡ true
  pub name_fits : are_valid tables_columns (text name ∷ []) ≡ true
  pub validation_fits : list_all (are_valid validation.columns) (map (validation_row name) columns) ≡ true
  pub not_pool : not (bytes_eq name pool_name) ≡ true
  pub not_data : not (bytes_eq name data_name) ≡ true
  pub kept : list_all is_kept columns ≡ true
  pub unsaid : list_any (has_key (keys_of P.pool validation)) (map (λ c. text name ∷ text c.name ∷ []) columns) ≡ false
  pub free : at_free ≡ true
  pub rows : AreDescribed P name columns x

module _ (at_free : Bool) (P : PackageContent) (name : List ℕ) (columns : List Column) where
  abbrev pub many : Bool
  many = nat_le (length columns) 32

  abbrev pub keyed : Bool
  keyed = list_any (λ c. c.key) columns

  abbrev pub names : Bool
  names = list_all (λ c. is_identifier c.name) columns

  abbrev pub unsaid_by : Table → Bool
  unsaid_by validation = not (list_any (has_key (keys_of P.pool validation)) (map (λ c. text name ∷ text c.name ∷ []) columns))

  abbrev pub fourth : Table → Result (Rows3 × Pool) Error
  fourth validation = unless_not (unsaid_by validation && at_free) AlreadyExists >>= λ _. described P name columns

  abbrev pub rows_fit : Bool
  rows_fit = list_all (are_valid columns_columns) (columns_rows name 1 columns)

  abbrev pub name_fits : Bool
  name_fits = are_valid tables_columns (text name ∷ [])

  abbrev pub limits_fit : Table → Bool
  limits_fit validation = list_all (are_valid validation.columns) (map (validation_row name) columns)

  abbrev pub third : Table → Result (Rows3 × Pool) Error
  third validation =
      unless_not (rows_fit && name_fits && limits_fit validation && not (bytes_eq name pool_name) && not (bytes_eq name data_name) && list_all is_kept columns) InvalidInput
      >>= λ _. fourth validation

  abbrev pub second_test : Result (Rows3 × Pool) Error
  second_test = or_refused (table_named P.tables validation_name) NotFound >>= λ validation. third validation

  abbrev pub first_test : Result (Rows3 × Pool) Error
  first_test = unless_not (not (has_table P name)) AlreadyExists >>= λ _. second_test

  pub are_met : (x : Rows3 × Pool) → created at_free P name columns ≡ Ok x → AreMet at_free P name columns x
  are_met x e =
      let v = is_valid_table_name name in
      let s = not (length columns == 0) in
      let d = names_distinct columns in
      let a = passes (v && s && many && keyed && names && d) InvalidInput first_test x e in
      let a5 = and_parts (v && s && many && keyed && names) d a.0 in
      let a4 = and_parts (v && s && many && keyed) names a5.0 in
      let a3 = and_parts (v && s && many) keyed a4.0 in
      let a2 = and_parts (v && s) many a3.0 in
      let a1 = and_parts v s a2.0 in
      let b = passes (not (has_table P name)) AlreadyExists second_test x a.1 in
      let f = finds (table_named P.tables validation_name) NotFound third x b.1 in
      let w = f.0 in
      let p = not (bytes_eq name pool_name) in
      let q = not (bytes_eq name data_name) in
      let k = list_all is_kept columns in
      let c = passes (rows_fit && name_fits && limits_fit w && p && q && k) InvalidInput (fourth w) x f.2 in
      let c5 = and_parts (rows_fit && name_fits && limits_fit w && p && q) k c.0 in
      let c4 = and_parts (rows_fit && name_fits && limits_fit w && p) q c5.0 in
      let c3 = and_parts (rows_fit && name_fits && limits_fit w) p c4.0 in
      let c2 = and_parts (rows_fit && name_fits) (limits_fit w) c3.0 in
      let c1 = and_parts rows_fit name_fits c2.0 in
      let g = passes (unsaid_by w && at_free) AlreadyExists (described P name columns) x c.1 in
      let h = and_parts (unsaid_by w) at_free g.0 in
      record {
        valid = a1.0;
        some = a1.1;
        distinct = a5.1;
        new = none_found (table_named P.tables name) b.0;
        validation = w;
        found = f.1;
        columns_fit = c1.0;
        name_fits = c1.1;
        validation_fits = c2.1;
        not_pool = c3.1;
        not_data = c4.1;
        kept = c5.1;
        unsaid = not_true (list_any (has_key (keys_of P.pool w)) (map (λ c. text name ∷ text c.name ∷ []) columns)) h.0;
        free = h.1;
        rows = are_described P name columns x g.1;
      }
