-- Rows whose first columns take their values.
use Rattle.std.proofs.Common.{◌≡◌, ◌+◌, ◌-◌, ◌<◌, ◌≤◌, ℕ, zero, suc, Bool, true, false, List, [], ◌∷◌, ◌∙◌, length, take, drop, get_or, refl, sym, ap, subst, arith}
use Rattle.std.specs.Prelude.{◌&&◌, MatchOption, Option, Some, None, is_some, not}
use Rattle.command_reasons.specs.Faults.{IsCellFault, IsRowFault, IsWrongFrom}
use Rattle.command_reasons.specs.declared.cells.CellFault.{CellFault}
use Rattle.command_reasons.specs.declared.rows.RowFault.{RowFault}
use Rattle.command_reasons.specs.declared.rows.RowFault.TheVariants as broken
use Rattle.msi_columns.specs.Column.{Column, are_valid, is_valid}
use Rattle.msi_columns.specs.Held.{column_of, columns_of}
use Rattle.msi_columns.specs.declared.column.Column.{Column as HeldColumn}
use Rattle.msi_values.specs.Datum.{Datum, data_of, datum_of}
use Rattle.msi_values.specs.declared.value.Value.{Value}

both : (a b : Bool) → a ≡ true → b ≡ true → (a && b) ≡ true
both true b left right = right
both false b left right = absurd (cc left)

false_behind : (a b : Bool) → b ≡ false → (a && b) ≡ false
false_behind true b is = is
false_behind false b is = refl

false_before : (a b : Bool) → a ≡ false → (a && b) ≡ false
false_before false b is = refl
false_before true b is = absurd (cc is)

second : (a b : Bool) → (a && b) ≡ true → b ≡ true
second true b is = is
second false b is = absurd (cc is)

-- the first column takes its value, and a later one doesn't
wrong_later : (c : Column) (cs : List Column) (d : Datum) (ds : List Datum) (at : ℕ) (f : CellFault) → is_valid c d ≡ true → IsWrongFrom cs ds at f → IsWrongFrom (c ∷ cs) (d ∷ ds) (suc at) f
wrong_later c cs d ds at f valid w =
    record { before = both (is_valid c d) (are_valid (take at cs) (take at ds)) valid w.before; inside = omega (arith, w.inside); column = w.column; there = w.there; value = w.value; stands = w.stands; wrong = w.wrong }

take_all : {X : Type 0} (xs : List X) → take (length xs) xs ≡ xs
take_all [] = refl
take_all (x ∷ xs) = ap (λ l. x ∷ l) (take_all xs)

rest_of : {X : Type 0} (x : X) (xs : List X) → take (length (x ∷ xs) - 1) (drop 1 (x ∷ xs)) ≡ xs
rest_of x xs = let count : length (x ∷ xs) - 1 ≡ length xs = omega arith in ap (λ n. take n xs) count ∙ take_all xs

-- the same of lists that are taken apart
pub wrong_rest : (cs : List HeldColumn) (vs : List Value) (c : HeldColumn) (v : Value) (at : ℕ) (f : CellFault) → 1 ≤ length cs → 1 ≤ length vs → c ≡ get_or cs 0 c → v ≡ get_or vs 0 v
    → is_valid (column_of c) (datum_of v) ≡ true → IsWrongFrom (columns_of (take (length cs - 1) (drop 1 cs))) (data_of (take (length vs - 1) (drop 1 vs))) at f
    → IsWrongFrom (columns_of cs) (data_of vs) (at + 1) f
wrong_rest [] vs c v at f some any one two valid w = absurd (omega (arith, some))
wrong_rest (x ∷ xs) [] c v at f some any one two valid w = absurd (omega (arith, any))
wrong_rest (x ∷ xs) (y ∷ ys) c v at f some any one two valid w =
    let first : is_valid (column_of x) (datum_of y) ≡ true = ap (λ (k : HeldColumn). is_valid (column_of k) (datum_of y)) (sym one) ∙ ap (λ (k : Value). is_valid (column_of c) (datum_of k)) (sym two) ∙ valid in
    let cut : IsWrongFrom (columns_of xs) (data_of (take (length (y ∷ ys) - 1) (drop 1 (y ∷ ys)))) at f =
    subst (λ (l : List HeldColumn). IsWrongFrom (columns_of l) (data_of (take (length (y ∷ ys) - 1) (drop 1 (y ∷ ys)))) at f) (rest_of x xs) w in
    let rest : IsWrongFrom (columns_of xs) (data_of ys) at f = subst (λ (l : List Value). IsWrongFrom (columns_of xs) (data_of l) at f) (rest_of y ys) cut in
    let number : suc at ≡ at + 1 = omega arith in
    subst (λ (n : ℕ). IsWrongFrom (columns_of (x ∷ xs)) (data_of (y ∷ ys)) n f) number (wrong_later (column_of x) (columns_of xs) (datum_of y) (data_of ys) at f first rest)

-- ---- a row at fault isn't taken

wrong_is : (cs : List Column) (ds : List Datum) (at : ℕ) (f : CellFault) → IsWrongFrom cs ds at f → are_valid cs ds ≡ false
wrong_is [] ds at f w = absurd (omega (arith, w.inside))
wrong_is (c ∷ cs) [] at f w = absurd (let none : None ≡ Some w.value = w.stands in cc none)
wrong_is (c ∷ cs) (d ∷ ds) zero f w =
    let column : c ≡ w.column = (let e : Some c ≡ Some w.column = w.there in cc e) in
    let value : d ≡ w.value = (let e : Some d ≡ Some w.value = w.stands in cc e) in
    let isnt : is_valid c d ≡ false = ap (λ (k : Column). is_valid k d) column ∙ ap (λ (k : Datum). is_valid w.column k) value ∙ w.wrong.0 in
    false_before (is_valid c d) (are_valid cs ds) isnt
wrong_is (c ∷ cs) (d ∷ ds) (suc at) f w =
    let rest : IsWrongFrom cs ds at f = record { before = second (is_valid c d) (are_valid (take at cs) (take at ds)) w.before; inside = omega (arith, w.inside); column = w.column; there = w.there; value = w.value; stands = w.stands; wrong = w.wrong } in
    false_behind (is_valid c d) (are_valid cs ds) (wrong_is cs ds at f rest)

lengths_differ : (cs : List Column) (ds : List Datum) → (length ds ≡ length cs → ⊥) → are_valid cs ds ≡ false
lengths_differ [] [] other = absurd (other refl)
lengths_differ [] (d ∷ ds) other = refl
lengths_differ (c ∷ cs) [] other = refl
lengths_differ (c ∷ cs) (d ∷ ds) other = false_behind (is_valid c d) (are_valid cs ds) (lengths_differ cs ds (λ same. other (ap suc same)))

fault_is : (cs : List Column) (ds : List Datum) (f : RowFault) → IsRowFault cs ds f → are_valid cs ds ≡ false
fault_is cs ds (broken.Length values wanted) is = lengths_differ cs ds (λ same. is.2 (sym is.0 ∙ same ∙ is.1))
fault_is cs ds (broken.Cell at f) is = wrong_is cs ds at f is

-- so a fault is told just where the row isn't taken
pub wrong_told : (cs : List Column) (ds : List Datum) (r : Option RowFault) → MatchOption r (are_valid cs ds ≡ true) (IsRowFault cs ds) → is_some r ≡ not (are_valid cs ds)
wrong_told cs ds None valid = ap not (sym valid)
wrong_told cs ds (Some f) fault = ap not (sym (fault_is cs ds f fault))
