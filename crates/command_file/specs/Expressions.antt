-- Expressions and selects in a command file.
use Rattle.std.specs.Prelude.{ℕ, List, [], ◌∷◌, Option, Some, None, option_and_then, option_map, codes, bytes_eq, if◌then◌else◌}
use Rattle.serde_json.specs.Data.{Data, Items, no_items, item, Members, no_members, member}
use Rattle.serde_json.specs.Data as json
use Rattle.serde_json.specs.Find.{get, as_str, as_i64}
use Rattle.msi_values.specs.Datum.{null, number, text, truth}
use Rattle.msi_expr.specs.Formula.{Formula, literal, column, both, either, built, built_of_two}
use Rattle.msi_query.specs.Query.{Query, Source, query, table, inner_join, left_join}
use Rattle.msi_expr.specs.declared.operators.BinOp.TheVariants as binary_op
use Rattle.msi_expr.specs.declared.operators.UnOp.TheVariants as unary_op
use Rattle.json_parts.specs.Values.{keys_among, named, in_range, list_in, at_key_or, text_at}

-- operators before an expression
abbrev pub signs : List (List ℕ × (Formula → Formula))
signs = (codes "not", built unary_op.BoolNot) ∷ (codes "neg", built unary_op.Neg) ∷ (codes "bitinv", built unary_op.BitNot) ∷ []

-- operators between two
abbrev pub infixes : List (List ℕ × (Formula → Formula → Formula))
infixes = (codes "eq", built_of_two binary_op.Eq) ∷ (codes "ne", built_of_two binary_op.Ne) ∷ (codes "lt", built_of_two binary_op.Lt) ∷ (codes "le", built_of_two binary_op.Le)
    ∷ (codes "gt", built_of_two binary_op.Gt) ∷ (codes "ge", built_of_two binary_op.Ge) ∷ (codes "and", both) ∷ (codes "or", either)
    ∷ (codes "add", built_of_two binary_op.Add) ∷ (codes "sub", built_of_two binary_op.Sub) ∷ (codes "mul", built_of_two binary_op.Mul) ∷ (codes "div", built_of_two binary_op.Div)
    ∷ (codes "bitand", built_of_two binary_op.BitAnd) ∷ (codes "bitor", built_of_two binary_op.BitOr) ∷ (codes "bitxor", built_of_two binary_op.BitXor)
    ∷ (codes "shl", built_of_two binary_op.Shl) ∷ (codes "shr", built_of_two binary_op.Shr) ∷ []

-- an operator on as many expressions as it takes
abbrev pub applied : List ℕ → List Formula → Option Formula
applied op [] = None
applied op (a ∷ []) = option_map (λ f. f a) (named op signs)
applied op (a ∷ b ∷ []) = option_map (λ f. f a b) (named op infixes)
applied op (a ∷ b ∷ c ∷ rest) = None

-- null, true, false, a number, a text, {"col":X} or {"op":O,"args":[..]}
abbrev mutual
  pub formula_in : Data → Option Formula
  formula_in json.null = Some (literal null)
  formula_in (json.boolean b) = Some (literal (truth b))
  formula_in (json.number n) = option_map (λ z. literal (number z)) (option_and_then in_range (as_i64 n))
  formula_in (json.string s) = Some (literal (text s))
  formula_in (json.array ds) = None
  formula_in (json.object ms) =
      if keys_among (codes "col" ∷ []) ms then option_map column (text_at (codes "col") (json.object ms))
      else (if keys_among (codes "op" ∷ codes "args" ∷ []) ms then option_and_then (λ op. option_and_then (applied op) (args_in ms)) (text_at (codes "op") (json.object ms))
      else None)

  pub args_in : Members → Option (List Formula)
  args_in no_members = None
  args_in (member k d ms) = if bytes_eq k (codes "args") then formulas_in d else args_in ms

  pub formulas_in : Data → Option (List Formula)
  formulas_in (json.array ds) = each_formula ds
  formulas_in json.null = None
  formulas_in (json.boolean b) = None
  formulas_in (json.number n) = None
  formulas_in (json.string s) = None
  formulas_in (json.object ms) = None

  pub each_formula : Items → Option (List Formula)
  each_formula no_items = Some []
  each_formula (item d ds) = option_and_then (λ f. option_map (λ fs. f ∷ fs) (each_formula ds)) (formula_in d)

-- a condition that may be absent
abbrev pub condition_in : Data → Option (Option Formula)
condition_in d = at_key_or None (get (codes "where") d) (λ e. option_map Some (formula_in e))

-- names of columns that may be absent
abbrev pub columns_in : Data → Option (List (List ℕ))
columns_in d = at_key_or [] (get (codes "columns") d) (list_in as_str)

-- a select of a source
abbrev pub query_from : Data → Source → Option Query
query_from d from = option_and_then (λ names. option_map (query from names) (condition_in d)) (columns_in d)

-- two selects joined
abbrev pub joined : Option (List ℕ) → Query → Query → Formula → Option Source
joined (Some kind) l r on = if bytes_eq kind (codes "inner") then Some (inner_join l r on) else (if bytes_eq kind (codes "left") then Some (left_join l r on) else None)
joined None l r on = None

-- the source that members tell, and a side of a join
abbrev mutual
  pub from_in : Members → Option Source
  from_in no_members = None
  from_in (member k d ms) = if bytes_eq k (codes "from") then source_in d else from_in ms

  pub source_in : Data → Option Source
  source_in (json.string s) = Some (table s)
  source_in (json.object ms) =
      if keys_among (codes "join" ∷ codes "left" ∷ codes "right" ∷ codes "on" ∷ []) ms
      then option_and_then (λ l. option_and_then (λ r. option_and_then (joined (text_at (codes "join") (json.object ms)) l r) (option_and_then formula_in (get (codes "on") (json.object ms)))) (side_in (codes "right") ms)) (side_in (codes "left") ms)
      else None
  source_in json.null = None
  source_in (json.boolean b) = None
  source_in (json.number n) = None
  source_in (json.array ds) = None

  pub side_in : List ℕ → Members → Option Query
  side_in side no_members = None
  side_in side (member k d ms) = if bytes_eq k side then side_of d else side_in side ms

  pub side_of : Data → Option Query
  side_of (json.object ms) = if keys_among (codes "from" ∷ codes "columns" ∷ codes "where" ∷ []) ms then option_and_then (query_from (json.object ms)) (from_in ms) else None
  side_of json.null = None
  side_of (json.boolean b) = None
  side_of (json.number n) = None
  side_of (json.string s) = None
  side_of (json.array ds) = None

-- the select that members tell
abbrev pub select_in : Members → Option Query
select_in ms = option_and_then (query_from (json.object ms)) (from_in ms)
