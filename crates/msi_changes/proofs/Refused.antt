-- An insert into a table that may not be changed is refused as it would be, and else as invalid.
use Rattle.std.proofs.Common.{◌≡◌, ◌+◌, Bool, true, false, ℕ, List, [], ◌∷◌, ◌++◌, map, length, refl, Option, Some, None, Result, Ok, Err}
use Rattle.std.specs.Prelude.{IfErr, MatchResult, nat_le, option_map}
use Rattle.std.specs.List.{list_all}
use Rattle.cfb_medium.specs.declared.error.Error.{Error}
use Rattle.cfb_medium.specs.declared.error.Error.TheVariants.{InvalidData, InvalidInput}
use Rattle.msi_texts.specs.Results.{◌>>=◌, or_refused, unless_not}
use Rattle.msi_values.specs.Datum.{Datum, null, number, text, binary}
use Rattle.msi_pool.specs.Pool.{Pool, place, used}
use Rattle.msi_pool.specs.declared.stringref.ValueRef.{ValueRef}
use Rattle.msi_pool.specs.declared.stringref.ValueRef.TheVariants as cell
use Rattle.msi_columns.specs.Column.{are_valid}
use Rattle.msi_tables.specs.Rows.{Row, max_rows}
use Rattle.msi_tables.specs.Table.{Table, are_distinct, key_values, keys_of}
use Rattle.msi_changes.specs.Changes.{counted, in_turn, inserted, new_keys, row_counted, rows_counted}

-- no other refusal comes
abbrev IsLate : {A : Type 0} → Result A Error → Type 0
IsLate r = IfErr r (λ e. e ≡ InvalidInput)

value_late : (p : Pool) (d : Datum) → IsLate (counted p d)
value_late p null = tt
value_late p (number z) = tt
value_late p (text s) = at (place p s)
  where
    at : (o : Option ℕ) → IsLate (or_refused {A = ValueRef × Pool} (option_map (λ n. (cell.Str n, used p s)) o) InvalidInput)
    at None = refl
    at (Some n) = tt
value_late p binary = tt

module _ {X Y : Type 0} (f : Pool → X → Result (Y × Pool) Error) (each : (p : Pool) (x : X) → IsLate (f p x)) where
  behind : (y : Y) (r : Result (List Y × Pool) Error) → IsLate r → IsLate {A = List Y × Pool} (r >>= λ ys. Ok (y ∷ ys.0, ys.1))
  behind y (Err e) h = h
  behind y (Ok ys) h = tt

  turns_late : (p : Pool) (xs : List X) → IsLate (in_turn f p xs)
  turns_late p [] = tt
  turns_late p (x ∷ xs) = on (f p x) (each p x) (λ q. turns_late q xs)
    where
      on : (r : Result (Y × Pool) Error) → IsLate r → ((q : Pool) → IsLate (in_turn f q xs)) → IsLate {A = List Y × Pool} (r >>= λ y. in_turn f y.1 xs >>= λ ys. Ok (y.0 ∷ ys.0, ys.1))
      on (Err e) h rest = h
      on (Ok y) h rest = behind y.0 (in_turn f y.1 xs) (rest y.1)

rows_late : (p : Pool) (rs : List (List Datum)) → IsLate (rows_counted p rs)
rows_late = turns_late row_counted (turns_late counted value_late)

module _ (pool : Pool) (t : Table) (new_rows : List (List Datum)) where
  abbrev judged : Bool → Bool → Bool → Bool → Result (Unit {0}) Error → Result (List Row × Pool) Error → Result (List Row × Pool) Error
  judged may v d few k c = unless_not v InvalidInput >>= λ _. unless_not d InvalidData >>= λ _. k >>= λ _. unless_not may InvalidInput >>= λ _. unless_not few InvalidInput >>= λ _. c >>= λ r. Ok (t.rows ++ r.0, r.1)

  on : (v d few : Bool) (k : Result (Unit {0}) Error) (c : Result (List Row × Pool) Error) → IsLate c
      → MatchResult (judged true v d few k c) (λ after. judged false v d few k c ≡ Err InvalidInput) (λ e. judged false v d few k c ≡ Err e)
  on false d few k c h = refl
  on true false few k c h = refl
  on true true few (Err e) c h = refl
  on true true false (Ok u) c h = refl
  on true true true (Ok u) (Err e) h = cc h
  on true true true (Ok u) (Ok r) h = refl

  pub refused_likewise : MatchResult (inserted true pool t new_rows) (λ after. inserted false pool t new_rows ≡ Err InvalidInput) (λ e. inserted false pool t new_rows ≡ Err e)
  refused_likewise =
      on (list_all (are_valid t.columns) new_rows) (are_distinct (keys_of pool t)) (nat_le (length t.rows + length new_rows) max_rows)
      (new_keys (keys_of pool t) [] (map (key_values t.columns) new_rows)) (rows_counted pool new_rows) (rows_late pool new_rows)
