-- What an expression is, what it is worth on a row, and how it is printed.
use Rattle.std.specs.Prelude.{ℕ, ◌+◌, ◌^◌, ◌==◌, Bool, true, false, not, List, [], ◌∷◌, ◌++◌, nat_lt, bytes_eq, if◌then◌else◌, Option, Some, None, ℤ, pos, negsuc, ◌+ℤ◌, ◌-ℤ◌, ◌*ℤ◌, neg_ℤ, int_div, string_bytes, codes, ◌&&◌, is_some}
use Rattle.std.specs.List.{list_any}
use Rattle.std.specs.Int.{w32, int_bit_and, int_bit_or, int_bit_xor, int_bit_not, int_shl, int_shr}
use Rattle.std.specs.Ordering.{is_eq, is_ne, is_lt, is_le, is_gt, is_ge}
use Rattle.std.specs.Fmt.{◌++?◌}
use Rattle.msi_values.specs.Datum.{Datum, null, number, text, datum_of, datum_cmp, counts_as_true, truth, datum_text}
use Rattle.msi_tables.specs.Row.{Cells, cell_named}
use Rattle.msi_expr.specs.declared.expr.Expr.{Expr}
use Rattle.msi_expr.specs.declared.ast.Ast.{Ast}
use Rattle.msi_expr.specs.declared.ast.Ast.TheVariants as tree
use Rattle.msi_expr.specs.declared.operators.UnOp.{UnOp}
use Rattle.msi_expr.specs.declared.operators.UnOp.TheVariants as unary_op
use Rattle.msi_expr.specs.declared.operators.BinOp.{BinOp}
use Rattle.msi_expr.specs.declared.operators.BinOp.TheVariants as binary_op

-- an expression without where its parts lie in memory
pub data Formula : Type 0 where
  literal : Datum → Formula
  column : List ℕ → Formula
  unary : UnOp → Formula → Formula
  two : BinOp → Formula → Formula → Formula
  both : Formula → Formula → Formula
  either : Formula → Formula → Formula

-- an expression as what it says: its inner tree, and the whole
abbrev pub ast_formula : Ast → Formula
ast_formula (tree.Literal v) = literal (datum_of v)
ast_formula (tree.Column s) = column (string_bytes s)
ast_formula (tree.UnOp' o p a) = unary o (ast_formula a)
ast_formula (tree.BinOp' o p a q b) = two o (ast_formula a) (ast_formula b)
ast_formula (tree.And' p a q b) = both (ast_formula a) (ast_formula b)
ast_formula (tree.Or' p a q b) = either (ast_formula a) (ast_formula b)

abbrev pub formula_of : Expr → Formula
formula_of e = ast_formula e.ast

-- the value that it is, where it is nothing else
abbrev pub literal_of : Formula → Option Datum
literal_of (literal value) = Some value
literal_of _ = None

-- ---- values

-- a result of more than 32 bits is null
abbrev pub fitting : ℤ → Datum
fitting (pos n) = if nat_lt n (2 ^ 31) then number (pos n) else null
fitting (negsuc n) = if nat_lt n (2 ^ 31) then number (negsuc n) else null

-- anything but two numbers gives null
abbrev pub on_numbers : (ℤ → ℤ → Datum) → Datum → Datum → Datum
on_numbers f (number x) (number y) = f x y
on_numbers f (number x) _ = null
on_numbers f _ b = null

-- anything but a number gives null
abbrev pub on_number : (ℤ → Datum) → Datum → Datum
on_number f (number x) = f x
on_number f _ = null

-- the sum of numbers, or texts joined
abbrev pub sum_of : Datum → Datum → Datum
sum_of (text s) (text t) = text (s ++ t)
sum_of a b = on_numbers (λ x y. fitting (x +ℤ y)) a b

-- cut towards zero
abbrev pub quotient : ℤ → ℤ → Datum
quotient x (pos n) = if n == 0 then null else fitting (int_div x (pos n))
quotient x (negsuc n) = fitting (int_div x (negsuc n))

-- a shift by 0 to 31
abbrev pub shifted : (ℤ → ℕ → ℤ) → ℤ → ℤ → Datum
shifted f x (pos k) = if nat_lt k 32 then number (f x k) else null
shifted f x (negsuc k) = null

-- what an operator makes of a value
abbrev pub one_applied : UnOp → Datum → Datum
one_applied unary_op.Neg a = on_number (λ x. fitting (neg_ℤ x)) a
one_applied unary_op.BitNot a = on_number (λ x. number (int_bit_not w32 x)) a
one_applied unary_op.BoolNot a = truth (not (counts_as_true a))

-- what an operator makes of two values
abbrev pub two_applied : BinOp → Datum → Datum → Datum
two_applied binary_op.Eq a b = truth (is_eq (datum_cmp a b))
two_applied binary_op.Ne a b = truth (is_ne (datum_cmp a b))
two_applied binary_op.Lt a b = truth (is_lt (datum_cmp a b))
two_applied binary_op.Le a b = truth (is_le (datum_cmp a b))
two_applied binary_op.Gt a b = truth (is_gt (datum_cmp a b))
two_applied binary_op.Ge a b = truth (is_ge (datum_cmp a b))
two_applied binary_op.Add a b = sum_of a b
two_applied binary_op.Sub a b = on_numbers (λ x y. fitting (x -ℤ y)) a b
two_applied binary_op.Mul a b = on_numbers (λ x y. fitting (x *ℤ y)) a b
two_applied binary_op.Div a b = on_numbers quotient a b
two_applied binary_op.BitAnd a b = on_numbers (λ x y. number (int_bit_and w32 x y)) a b
two_applied binary_op.BitOr a b = on_numbers (λ x y. number (int_bit_or w32 x y)) a b
two_applied binary_op.BitXor a b = on_numbers (λ x y. number (int_bit_xor w32 x y)) a b
two_applied binary_op.Shl a b = on_numbers (shifted (int_shl w32)) a b
two_applied binary_op.Shr a b = on_numbers (shifted int_shr) a b

-- null where there is no value
abbrev pub or_null : Option Datum → Datum
or_null None = null
or_null (Some d) = d

-- what an expression is worth on a row
abbrev pub value_of_formula : Cells → Formula → Datum
value_of_formula row (literal d) = d
value_of_formula row (column name) = or_null (cell_named name row)
value_of_formula row (unary o a) = one_applied o (value_of_formula row a)
value_of_formula row (two o a b) = two_applied o (value_of_formula row a) (value_of_formula row b)
value_of_formula row (both a b) = truth (counts_as_true (value_of_formula row a) && counts_as_true (value_of_formula row b))
value_of_formula row (either a b) = truth (if counts_as_true (value_of_formula row a) then true else counts_as_true (value_of_formula row b))

-- the row has each column that is named
abbrev pub has_columns : Cells → Formula → Bool
has_columns row (literal d) = true
has_columns row (column name) = is_some (cell_named name row)
has_columns row (unary o a) = has_columns row a
has_columns row (two o a b) = has_columns row a && has_columns row b
has_columns row (both a b) = has_columns row a && has_columns row b
has_columns row (either a b) = has_columns row a && has_columns row b

-- ---- building: an operator on literals alone is applied at once

-- an operator before an expression
abbrev pub built : UnOp → Formula → Formula
built o (literal d) = literal (one_applied o d)
built o a = unary o a

-- an operator between two expressions
abbrev pub built_of_two : BinOp → Formula → Formula → Formula
built_of_two o (literal d) (literal e) = literal (two_applied o d e)
built_of_two o a b = two o a b

-- ---- names

-- a name behind these, where it is not among them
abbrev pub noted : List (List ℕ) → List ℕ → List (List ℕ)
noted names name = if list_any (bytes_eq name) names then names else names ++ name ∷ []

-- these names and behind them those of the expression, in order of first mention
abbrev pub names_after : List (List ℕ) → Formula → List (List ℕ)
names_after names (literal d) = names
names_after names (column name) = noted names name
names_after names (unary o a) = names_after names a
names_after names (two o a b) = names_after (names_after names a) b
names_after names (both a b) = names_after (names_after names a) b
names_after names (either a b) = names_after (names_after names a) b

-- ---- text

-- how strongly an operator binds
abbrev pub strength : BinOp → ℕ
strength binary_op.Eq = 3
strength binary_op.Ne = 3
strength binary_op.Lt = 3
strength binary_op.Le = 3
strength binary_op.Gt = 3
strength binary_op.Ge = 3
strength binary_op.BitOr = 4
strength binary_op.BitXor = 5
strength binary_op.BitAnd = 6
strength binary_op.Shl = 7
strength binary_op.Shr = 7
strength binary_op.Add = 8
strength binary_op.Sub = 8
strength binary_op.Mul = 9
strength binary_op.Div = 9

-- how an operator is written between two expressions
abbrev pub sign_of : BinOp → List ℕ
sign_of binary_op.Eq = codes " = "
sign_of binary_op.Ne = codes " != "
sign_of binary_op.Lt = codes " < "
sign_of binary_op.Le = codes " <= "
sign_of binary_op.Gt = codes " > "
sign_of binary_op.Ge = codes " >= "
sign_of binary_op.BitOr = codes " | "
sign_of binary_op.BitXor = codes " ^ "
sign_of binary_op.BitAnd = codes " & "
sign_of binary_op.Shl = codes " << "
sign_of binary_op.Shr = codes " >> "
sign_of binary_op.Add = codes " + "
sign_of binary_op.Sub = codes " - "
sign_of binary_op.Mul = codes " * "
sign_of binary_op.Div = codes " / "

-- how an operator is written before an expression
abbrev pub prefix_of : UnOp → List ℕ
prefix_of unary_op.Neg = codes "-"
prefix_of unary_op.BitNot = codes "~"
prefix_of unary_op.BoolNot = codes "NOT "

-- a bracket, where an operator of its own strength stands where a greater one is asked for
abbrev pub bracket : ℕ → ℕ → List ℕ → List ℕ
bracket asked own sign = if nat_lt own asked then sign else []

-- in parentheses where its own strength is below the one that is asked for
abbrev pub in_place_text : ℕ → ℕ → Option (List ℕ) → Option (List ℕ)
in_place_text asked own shown = Some (bracket asked own (codes "(")) ++? shown ++? Some (bracket asked own (codes ")"))

-- how an expression is printed where a strength is asked for; texts are known where they are ASCII
abbrev pub shown : ℕ → Formula → Option (List ℕ)
shown asked (literal d) = datum_text d
shown asked (column name) = Some name
shown asked (unary o a) = Some (prefix_of o) ++? shown 10 a
shown asked (two o a b) = in_place_text asked (strength o) (shown (strength o) a ++? Some (sign_of o) ++? shown (strength o + 1) b)
shown asked (both a b) = in_place_text asked 2 (shown 2 a ++? Some (codes " AND ") ++? shown 3 b)
shown asked (either a b) = in_place_text asked 1 (shown 1 a ++? Some (codes " OR ") ++? shown 2 b)

-- how far a shift goes, where it is 0 to 31
abbrev pub count_of : ℤ → Option ℕ
count_of (pos k) = if nat_lt k 32 then Some k else None
count_of (negsuc k) = None

-- an operator on two numbers alone
abbrev pub IsArithmetic : BinOp → Type 0
IsArithmetic binary_op.Eq = ⊥
IsArithmetic binary_op.Ne = ⊥
IsArithmetic binary_op.Lt = ⊥
IsArithmetic binary_op.Le = ⊥
IsArithmetic binary_op.Gt = ⊥
IsArithmetic binary_op.Ge = ⊥
IsArithmetic binary_op.Add = ⊥
IsArithmetic _ = Unit {0}

-- ---- equations of columns

-- the name of a column, where the expression is one
abbrev pub column_name : Formula → Option (List ℕ)
column_name (column name) = Some name
column_name (literal d) = None
column_name (unary o a) = None
column_name (two o a b) = None
column_name (both a b) = None
column_name (either a b) = None

-- the operator asks whether two values are equal
abbrev pub is_equality : BinOp → Bool
is_equality binary_op.Eq = true
is_equality _ = false

-- two names, where both are there
abbrev pub pair_of : Option (List ℕ) → Option (List ℕ) → Option (List ℕ × List ℕ)
pair_of (Some a) (Some b) = Some (a, b)
pair_of (Some a) None = None
pair_of None b = None

-- the two columns of an expression that asks whether they are equal, and nothing else
abbrev pub equated_in : Formula → Option (List ℕ × List ℕ)
equated_in (two o a b) = if is_equality o then pair_of (column_name a) (column_name b) else None
equated_in (literal d) = None
equated_in (column name) = None
equated_in (unary o a) = None
equated_in (both a b) = None
equated_in (either a b) = None
