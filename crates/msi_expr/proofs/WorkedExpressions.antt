-- Worked expressions, computed from the definitions.
use Rattle.std.proofs.Common.{◌≡◌, ℕ, List, [], ◌∷◌, refl, pos, negsuc}
use Rattle.std.specs.Prelude.{Some, codes}
use Rattle.std.specs.Fmt.{digits}
use Rattle.msi_values.specs.Datum.{Datum, null, number, text}
use Rattle.msi_expr.specs.Formula.{Formula, literal, column, two, either, value_of_formula, shown, built, built_of_two, names_after}
use Rattle.msi_expr.specs.declared.operators.BinOp.TheVariants as binary_op
use Rattle.msi_expr.specs.declared.operators.UnOp.TheVariants as unary_op

-- expressions
abbrev int : ℕ → Formula
int n = literal (number (pos n))

abbrev row : List (List ℕ × Datum)
row = (codes "Int1", number (pos 42)) ∷ (codes "Int2", number (negsuc 16)) ∷ (codes "Str1", text (codes "foo")) ∷ (codes "Str2", text (codes "bar")) ∷ []

difference_times : value_of_formula row (two binary_op.Mul (two binary_op.Sub (column (codes "Int1")) (column (codes "Int2"))) (column (codes "Int1"))) ≡ number (pos 2478)
difference_times = refl

shift_and_mix : value_of_formula row (two binary_op.BitXor (two binary_op.Shl (column (codes "Int1")) (int 2)) (column (codes "Int2"))) ≡ number (negsuc 184)
shift_and_mix = refl

joined_texts : value_of_formula row (two binary_op.Add (two binary_op.Add (column (codes "Str1")) (literal (text (codes ":")))) (column (codes "Str2"))) ≡ text (codes "foo:bar")
joined_texts = refl

by_zero : value_of_formula row (two binary_op.Div (column (codes "Int2")) (int 0)) ≡ null
by_zero = refl

too_large : value_of_formula row (two binary_op.Add (int 2147483647) (int 1)) ≡ null
too_large = refl

shifted_too_far : value_of_formula row (two binary_op.Shl (int 1) (int 32)) ≡ null
shifted_too_far = refl

lowest_divided : value_of_formula row (two binary_op.Div (literal (number (negsuc 2147483647))) (literal (number (negsuc 0)))) ≡ null
lowest_divided = refl

towards_zero : value_of_formula row (two binary_op.Div (literal (number (negsuc 6))) (int 2)) ≡ number (negsuc 2)
towards_zero = refl

sum_printed : shown 0 (two binary_op.Mul (two binary_op.Add (column (codes "Foo")) (int 10)) (column (codes "Bar"))) ≡ Some (codes "(Foo + 10) * Bar")
unfolding digits
sum_printed = refl

either_printed : shown 0 (either (column (codes "Foo")) (either (column (codes "Bar")) (column (codes "Baz")))) ≡ Some (codes "Foo OR (Bar OR Baz)")
either_printed = refl

strengths_printed : shown 0 (either (two binary_op.Le (two binary_op.Div (column (codes "Foo")) (int 10)) (column (codes "Bar"))) (two binary_op.Ge (column (codes "Baz")) (column (codes "Foo")))) ≡ Some (codes "Foo / 10 <= Bar OR Baz >= Foo")
unfolding digits
strengths_printed = refl

folded_printed : shown 0 (built_of_two binary_op.Add (built unary_op.Neg (literal (number (negsuc 4)))) (column (codes "Foo"))) ≡ Some (codes "5 + Foo")
unfolding digits
folded_printed = refl

lowest_negated : built unary_op.Neg (literal (number (negsuc 2147483647))) ≡ literal null
lowest_negated = refl

names_once : names_after [] (two binary_op.Add (column (codes "B")) (two binary_op.Add (column (codes "A")) (column (codes "B")))) ≡ codes "B" ∷ codes "A" ∷ []
names_once = refl
