-- The uses of texts after an insert.
use Rattle.std.proofs.Common.{◌≡◌, ℕ, suc, ◌+◌, Bool, true, false, List, [], ◌∷◌, ◌++◌, map, length, refl, ap, arith, Result, Ok, Err}
use Rattle.std.specs.Prelude.{nat_le, IfOk}
use Rattle.std.specs.List.{All, list_all}
use Rattle.std.proofs.lemmas.List.Elements.{All-append, All-cons}
use Rattle.std.proofs.lemmas.List.Sums.{sum_by-append}
use Rattle.cfb_medium.specs.declared.error.Error.{Error}
use Rattle.cfb_medium.specs.declared.error.Error.TheVariants.{InvalidData, InvalidInput}
use Rattle.msi_texts.specs.Results.{◌>>=◌, unless_not}
use Rattle.msi_values.specs.Datum.{Datum}
use Rattle.msi_pool.specs.Pool.{Pool}
use Rattle.msi_columns.specs.Column.{Column, are_valid, is_valid}
use Rattle.msi_tables.specs.Rows.{Row, max_rows}
use Rattle.msi_tables.specs.Table.{Table, are_distinct, key_values, keys_of}
use Rattle.msi_changes.specs.Laws.{RefcountsMatchRows, KeepsUses}
use Rattle.msi_changes.specs.Changes.{inserted, new_keys, rows_counted}
use Rattle.msi_changes.proofs.CellUses.{fewer_stay, same_uses}
use Rattle.std.proofs.lemmas.Bool.{and_parts}
use Rattle.msi_changes.proofs.RowUses.{GivesRows, IsWhole, row_uses, rows_given}
use Rattle.msi_changes.proofs.TurnUses.{uses_all}
use Rattle.msi_changes.proofs.UsesKept.{are_whole, have_uses, uses_kept}

valid_length : (columns : List Column) (ds : List Datum) → are_valid columns ds ≡ true → length ds ≡ length columns
valid_length [] [] valid = refl
valid_length [] (d ∷ ds) valid = absurd (cc valid)
valid_length (c ∷ cs) [] valid = absurd (cc valid)
valid_length (c ∷ cs) (d ∷ ds) valid = ap (λ n. suc n) (valid_length cs ds (and_parts (is_valid c d) (are_valid cs ds) valid).1)

valid_lengths : (columns : List Column) (rs : List (List Datum)) → list_all (are_valid columns) rs ≡ true → All (λ ds. length ds ≡ length columns) rs
valid_lengths columns [] valid = λ k d within. absurd (omega (arith, within))
valid_lengths columns (ds ∷ rs) valid =
    let are = and_parts (are_valid columns ds) (list_all (are_valid columns) rs) valid in
    All-cons (λ ds. length ds ≡ length columns) ds rs (valid_length columns ds are.0) (valid_lengths columns rs are.1)

module _ (may : Bool) (pool : Pool) (t : Table) (new_rows : List (List Datum)) (others : ℕ → ℕ) (uses : RefcountsMatchRows t.columns others pool t.rows) where
  abbrev Before : ℕ → ℕ
  Before n = uses_all row_uses t.rows n + others n

  behind : (r : List Row × Pool) → GivesRows (length t.columns) Before pool new_rows r → KeepsUses pool t.columns others (t.rows ++ r.0, r.1)
  behind r g =
      uses_kept t.columns others pool r.1 (t.rows ++ r.0) (All-append (IsWhole (length t.columns)) t.rows r.0 (are_whole t.columns others pool t.rows uses) g.fine)
      (same_uses (λ n at. omega (arith, sum_by-append (λ row. row_uses row n) t.rows r.0)) g.counts) (fewer_stay (λ n at some. omega (arith, some)) g.stays)

  judged_uses : (v d few : Bool) (k : Result (Unit {0}) Error) (c : Result (List Row × Pool) Error) → (v ≡ true → IfOk c (GivesRows (length t.columns) Before pool new_rows))
      → IfOk (unless_not v InvalidInput >>= λ _. unless_not d InvalidData >>= λ _. k >>= λ _. unless_not may InvalidInput >>= λ _. unless_not few InvalidInput >>= λ _. c >>= λ r. Ok (t.rows ++ r.0, r.1)) (KeepsUses pool t.columns others)
  judged_uses v d few k c go = on v refl d k may few c go
    where
      on : (a : Bool) → v ≡ a → (d : Bool) (k : Result (Unit {0}) Error) (m few : Bool) (c : Result (List Row × Pool) Error) → (v ≡ true → IfOk c (GivesRows (length t.columns) Before pool new_rows))
          → IfOk (unless_not a InvalidInput >>= λ _. unless_not d InvalidData >>= λ _. k >>= λ _. unless_not m InvalidInput >>= λ _. unless_not few InvalidInput >>= λ _. c >>= λ r. Ok (t.rows ++ r.0, r.1)) (KeepsUses pool t.columns others)
      on false is d k m few c go = tt
      on true is false k m few c go = tt
      on true is true (Err e) m few c go = tt
      on true is true (Ok u) false few c go = tt
      on true is true (Ok u) true false c go = tt
      on true is true (Ok u) true true (Err e) go = tt
      on true is true (Ok u) true true (Ok r) go = behind r (go is)

  pub keeps_uses : IfOk (inserted may pool t new_rows) (KeepsUses pool t.columns others)
  keeps_uses =
      judged_uses (list_all (are_valid t.columns) new_rows) (are_distinct (keys_of pool t)) (nat_le (length t.rows + length new_rows) max_rows)
      (new_keys (keys_of pool t) [] (map (key_values t.columns) new_rows)) (rows_counted pool new_rows)
      (λ valid. rows_given (length t.columns) pool new_rows Before (valid_lengths t.columns new_rows valid) (have_uses t.columns others pool t.rows uses))
