-- What is read of cells whose texts were counted, one after the other.
use Rattle.std.proofs.Common.{◌≡◌, ◌∙◌, ℕ, ◌-◌, Bool, true, false, List, [], ◌∷◌, map, refl, ap, Some, None, Result, Ok, Err, if◌then◌else◌}
use Rattle.std.specs.Prelude.{◌&&◌, nat_le, option_map, IfOk}
use Rattle.std.specs.List.{list_all}
use Rattle.cfb_medium.specs.declared.error.Error.{Error}
use Rattle.cfb_medium.specs.declared.error.Error.TheVariants.{InvalidInput}
use Rattle.msi_texts.specs.Results.{◌>>=◌, or_refused}
use Rattle.msi_values.specs.Datum.{Datum, null, number, text, binary}
use Rattle.msi_pool.specs.Pool.{Pool, last_place, place_among, used}
use Rattle.msi_pool.specs.Refs.{is_counted, value_at}
use Rattle.msi_pool.specs.declared.stringref.ValueRef.{ValueRef}
use Rattle.msi_pool.specs.declared.stringref.ValueRef.TheVariants as cell
use Rattle.msi_tables.specs.Table.{row_data}
use Rattle.msi_tables.specs.Rows.{Row}
use Rattle.msi_changes.specs.Changes.{counted, in_turn, row_counted, rows_counted}
use Rattle.msi_changes.proofs.Kept.{kept_at, stands_at}

-- each counted cell is read as it was, and stays counted
pub record Keeps (old new : Pool) : Type 0 where
  pub cells : (v : ValueRef) → is_counted old v ≡ true → (value_at new v ≡ value_at old v) × (is_counted new v ≡ true)

keeps_all : (p : Pool) → Keeps p p
keeps_all p = record { cells = λ v c. (refl, c) }

keeps_then : (p q r : Pool) → Keeps p q → Keeps q r → Keeps p r
keeps_then p q r a b = record { cells = λ v c. (let one = a.cells v c in let two = b.cells v one.1 in (two.0 ∙ one.0, two.1)) }

use_keeps : (p : Pool) (t : List ℕ) → Keeps p (used p t)
use_keeps p t = record { cells = kept }
  where
    kept : (v : ValueRef) → is_counted p v ≡ true → (value_at (used p t) v ≡ value_at p v) × (is_counted (used p t) v ≡ true)
    kept cell.Null c = (refl, refl)
    kept (cell.Int z) c = (refl, refl)
    kept (cell.Str n) c = (let h = kept_at t p.places (n - 1) c in (ap text h.0, h.1))
    kept cell.Binary c = (refl, refl)

-- the value is read from the new cell, which is counted
abbrev IsGiven : {X Y : Type 0} → (Pool → Y → X) → (Pool → Y → Bool) → Pool → X → Y × Pool → Type 0
IsGiven see ok p x r = Keeps p r.1 × (see r.1 r.0 ≡ x) × (ok r.1 r.0 ≡ true)

cell_given : (p : Pool) (d : Datum) → IfOk (counted p d) (IsGiven value_at is_counted p d)
cell_given p null = (keeps_all p, refl, refl)
cell_given p (number z) = (keeps_all p, refl, refl)
cell_given p (text t) = on (nat_le (place_among t p.places) (last_place p.long))
  where
    on : (b : Bool) → IfOk (or_refused {A = ValueRef × Pool} (option_map (λ n. (cell.Str n, used p t)) (if b then Some (place_among t p.places) else None)) InvalidInput) (IsGiven value_at is_counted p (text t))
    on true = (let h = stands_at t p.places in (use_keeps p t, ap text h.0, h.1))
    on false = tt
cell_given p binary = (keeps_all p, refl, refl)

module _ {X Y : Type 0} (see : Pool → Y → X) (ok : Pool → Y → Bool)
    (stays : (p q : Pool) → Keeps p q → (y : Y) → ok p y ≡ true → (see q y ≡ see p y) × (ok q y ≡ true)) where
  list_stays : (p q : Pool) → Keeps p q → (ys : List Y) → list_all (ok p) ys ≡ true → (map (see q) ys ≡ map (see p) ys) × (list_all (ok q) ys ≡ true)
  list_stays p q k [] c = (refl, refl)
  list_stays p q k (y ∷ ys) c = on (ok p y) refl c (list_stays p q k ys)
    where
      on : (b : Bool) → ok p y ≡ b → (b && list_all (ok p) ys) ≡ true → (list_all (ok p) ys ≡ true → (map (see q) ys ≡ map (see p) ys) × (list_all (ok q) ys ≡ true))
          → (see q y ∷ map (see q) ys ≡ see p y ∷ map (see p) ys) × ((ok q y && list_all (ok q) ys) ≡ true)
      on true is c deeper = (let one = stays p q k y is in let rest = deeper c in (rw (one.0, rest.0) refl, rw (one.1, rest.1) refl))
      on false is c deeper = absurd (cc c)

  list_given : (f : Pool → X → Result (Y × Pool) Error) → ((p : Pool) (x : X) → IfOk (f p x) (IsGiven see ok p x))
      → (p : Pool) (xs : List X) → IfOk (in_turn f p xs) (IsGiven (λ q ys. map (see q) ys) (λ q ys. list_all (ok q) ys) p xs)
  list_given f each p [] = (keeps_all p, refl, refl)
  list_given f each p (x ∷ xs) = on (f p x) (each p x) (λ q. list_given f each q xs)
    where
      then_on : (y : Y) (q : Pool) → IsGiven see ok p x (y, q) → (r : Result (List Y × Pool) Error) → IfOk r (IsGiven (λ q ys. map (see q) ys) (λ q ys. list_all (ok q) ys) q xs)
          → IfOk (r >>= λ ys. Ok (y ∷ ys.0, ys.1)) (IsGiven (λ q ys. map (see q) ys) (λ q ys. list_all (ok q) ys) p (x ∷ xs))
      then_on y q first (Ok r) rest =
          (let same = stays q r.1 rest.0 y first.2 in (keeps_then p q r.1 first.0 rest.0, rw (same.0 ∙ first.1, rest.1) refl, rw (same.1, rest.2) refl))
      then_on y q first (Err e) rest = tt

      on : (r : Result (Y × Pool) Error) → IfOk r (IsGiven see ok p x) → ((q : Pool) → IfOk (in_turn f q xs) (IsGiven (λ q ys. map (see q) ys) (λ q ys. list_all (ok q) ys) q xs))
          → IfOk (r >>= λ y. in_turn f y.1 xs >>= λ ys. Ok (y.0 ∷ ys.0, ys.1)) (IsGiven (λ q ys. map (see q) ys) (λ q ys. list_all (ok q) ys) p (x ∷ xs))
      on (Ok y) first deeper = then_on y.0 y.1 first (in_turn f y.1 xs) (deeper y.1)
      on (Err e) first deeper = tt

cell_stays : (p q : Pool) → Keeps p q → (v : ValueRef) → is_counted p v ≡ true → (value_at q v ≡ value_at p v) × (is_counted q v ≡ true)
cell_stays p q k v c = k.cells v c

abbrev pub row_ok : Pool → Row → Bool
row_ok p row = list_all (is_counted p) row

row_given : (p : Pool) (ds : List Datum) → IfOk (row_counted p ds) (IsGiven row_data row_ok p ds)
row_given p ds = list_given value_at is_counted cell_stays counted cell_given p ds

pub rows_stay : (p q : Pool) → Keeps p q → (rows : List Row) → list_all (row_ok p) rows ≡ true → (map (row_data q) rows ≡ map (row_data p) rows) × (list_all (row_ok q) rows ≡ true)
rows_stay p q k rows c = list_stays row_data row_ok (list_stays value_at is_counted cell_stays) p q k rows c

pub rows_given : (p : Pool) (rs : List (List Datum)) → IfOk (rows_counted p rs) (λ r. Keeps p r.1 × (map (row_data r.1) r.0 ≡ rs) × (list_all (row_ok r.1) r.0 ≡ true))
rows_given p rs = list_given row_data row_ok (list_stays value_at is_counted cell_stays) row_counted row_given p rs
