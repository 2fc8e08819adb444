-- The rows of a new package are counted: nothing refuses them.
use Rattle.std.proofs.Common.{◌≡◌, ◌∙◌, ◌++◌, Bool, true, false, List, [], ◌∷◌, map, refl, sym, ap, subst, Ok, Err, Result}
use Rattle.cfb_medium.specs.declared.error.Error.{Error}
use Rattle.msi_changes.specs.Changes.{rows_counted}
use Rattle.msi_pool.specs.Pool.{Pool}
use Rattle.msi_tables.specs.Rows.{Row}
use Rattle.msi_tables.specs.Schema.{columns_rows, validation_columns, validation_name, validation_row}
use Rattle.msi_texts.specs.Results.{◌>>=◌}
use Rattle.msi_texts.specs.declared.codepage.CodePage.TheVariants as page
use Rattle.msi_values.specs.Datum.{text, Datum}
use Rattle.msi_spec.specs.Calls.{Rows3}
use Rattle.msi_new_package.specs.New.{AreTextsCounted}

abbrev pub start : Pool
start = record { page = page.Utf8; long = false; places = [] }

abbrev pub columns_data : List (List Datum)
columns_data = columns_rows validation_name 1 validation_columns

abbrev pub tables_data : List (List Datum)
tables_data = (text validation_name ∷ []) ∷ []

abbrev pub validation_data : List (List Datum)
validation_data = map (validation_row validation_name) validation_columns

abbrev Counted : Type 0
Counted = Result (List Row × Pool) Error

abbrev pool_of : Counted → Pool
pool_of (Ok r) = r.1
pool_of (Err e) = start

abbrev is_done : Counted → Bool
is_done (Ok r) = true
is_done (Err e) = false

-- none of the three is refused
pub columns_refused : (e : Error) → rows_counted start columns_data ≡ Err e → ⊥
columns_refused e is = (let never : true ≡ false = ap is_done is in cc)

pub tables_refused : (e : Error) (c : List Row) (p : Pool) → rows_counted start columns_data ≡ Ok (c, p) → rows_counted p tables_data ≡ Err e → ⊥
tables_refused e c p a is =
    let same : pool_of (rows_counted start columns_data) ≡ p = ap pool_of a in
    let never : true ≡ false = ap is_done (subst (λ q. rows_counted q tables_data ≡ Err e) (sym same) is) in cc

pub validation_refused : (e : Error) (c t : List Row) (p q : Pool) → rows_counted start columns_data ≡ Ok (c, p) → rows_counted p tables_data ≡ Ok (t, q) → rows_counted q validation_data ≡ Err e → ⊥
validation_refused e c t p q a b is =
    let same : pool_of (rows_counted start columns_data) ≡ p = ap pool_of a in
    let then_same : pool_of (rows_counted (pool_of (rows_counted start columns_data)) tables_data) ≡ q = ap pool_of (subst (λ r. rows_counted r tables_data ≡ Ok (t, q)) (sym same) b) in
    let never : true ≡ false = ap is_done (subst (λ r. rows_counted r validation_data ≡ Err e) (sym then_same) is) in cc

abbrev finish : List Row × Pool → List Row × Pool → List Row × Pool → Result (Rows3 × Pool) Error
finish c t v = Ok (([] ++ c.0, [] ++ t.0, [] ++ v.0), v.1)

pub counted_so : (c t v : List Row) (p q r : Pool) → rows_counted start columns_data ≡ Ok (c, p) → rows_counted p tables_data ≡ Ok (t, q) → rows_counted q validation_data ≡ Ok (v, r) → AreTextsCounted r c t v
counted_so c t v p q r a b d = λ kind.
    ap (λ (x : Counted). x >>= λ (c : List Row × Pool). rows_counted c.1 tables_data >>= λ (t : List Row × Pool). rows_counted t.1 validation_data >>= λ (v : List Row × Pool). finish c t v) a
    ∙ ap (λ (x : Counted). x >>= λ (t : List Row × Pool). rows_counted t.1 validation_data >>= λ (v : List Row × Pool). finish (c, p) t v) b
    ∙ ap (λ (x : Counted). x >>= λ (v : List Row × Pool). finish (c, p) (t, q) v) d
