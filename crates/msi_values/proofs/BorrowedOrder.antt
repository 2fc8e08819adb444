-- The derived order of values that stand elsewhere is the order of values.
use Rattle.std.proofs.Common.{◌≡◌, List, [], ◌∷◌, refl, ap₂}
use Rattle.std.specs.Ordering.{ordering_then}
use Rattle.std.specs.Cmp.Lexicographic.{slice_cmp}
use Rattle.msi_values.specs.Datum.{datum_cmp}
use Rattle.msi_values.specs.Borrowed.{borrowed_data, borrowed_datum}
use Rattle.msi_values.specs.declared.borrowed.BorrowedValue.{BorrowedValue}
use Rattle.msi_values.specs.declared.borrowed.BorrowedValue.TheVariants as borrowed
use Rattle.msi_values.specs.contracts.borrowed.BorrowedValueOrd.TheImpl.{ghosts}

pub derived_order : (a b : BorrowedValue) → ghosts.cmp a b ≡ datum_cmp (borrowed_datum a) (borrowed_datum b)
derived_order borrowed.Null borrowed.Null = refl
derived_order borrowed.Null (borrowed.Int y) = refl
derived_order borrowed.Null (borrowed.Str t) = refl
derived_order borrowed.Null borrowed.Binary = refl
derived_order (borrowed.Int x) borrowed.Null = refl
derived_order (borrowed.Int x) (borrowed.Int y) = refl
derived_order (borrowed.Int x) (borrowed.Str t) = refl
derived_order (borrowed.Int x) borrowed.Binary = refl
derived_order (borrowed.Str s) borrowed.Null = refl
derived_order (borrowed.Str s) (borrowed.Int y) = refl
derived_order (borrowed.Str s) (borrowed.Str t) = refl
derived_order (borrowed.Str s) borrowed.Binary = refl
derived_order borrowed.Binary borrowed.Null = refl
derived_order borrowed.Binary (borrowed.Int y) = refl
derived_order borrowed.Binary (borrowed.Str t) = refl
derived_order borrowed.Binary borrowed.Binary = refl

-- value by value
pub derived_list_order : (xs ys : List BorrowedValue) → slice_cmp ghosts.cmp xs ys ≡ slice_cmp datum_cmp (borrowed_data xs) (borrowed_data ys)
derived_list_order [] [] = refl
derived_list_order [] (y ∷ ys) = refl
derived_list_order (x ∷ xs) [] = refl
derived_list_order (x ∷ xs) (y ∷ ys) = ap₂ ordering_then (derived_order x y) (derived_list_order xs ys)
