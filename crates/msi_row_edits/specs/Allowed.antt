-- Which updates may change a table: steps of private functions.
use Rattle.std.specs.Prelude.{◌≡◌, ◌&&◌, ◌==◌, ℕ, suc, Bool, true, false, cond, List, [], ◌∷◌, Option, pos}
use Rattle.std.specs.List.{list_all}
use Rattle.msi_changes.specs.Changes.{is_valid_set}
use Rattle.msi_columns.specs.Column.{from_to, plain, Column}
use Rattle.msi_columns.specs.declared.column.ColumnType.TheVariants as kind
use Rattle.msi_expr.specs.Conditions.{knows_condition}
use Rattle.msi_expr.specs.Formula.{Formula}
use Rattle.msi_spec.specs.Calls.{may_update}
use Rattle.msi_tables.specs.Table.{Heading}
use Rattle.msi_values.specs.Datum.{Datum}

-- an update may change the table; or it may not, or is refused anyway before that is asked
pub record IsAllowed (h : Heading) (sets : List (List ℕ × Datum)) (condition : Option Formula) (may : Bool) : Type 0 where
  pub yes : may ≡ true → may_update h.name h.columns sets ≡ true
  pub no : may ≡ false → (list_all (is_valid_set h.columns) sets && knows_condition h.columns condition && may_update h.name h.columns sets) ≡ false

-- a column of the same name that takes no value
abbrev pub closed : Column → Column
closed c = from_to (pos 1) (pos 0) (plain c.name kind.Int16)

-- columns from a place on, all closed but the one at place 9
abbrev pub closed_from : ℕ → List Column → List Column
closed_from k [] = []
closed_from k (c ∷ cs) = cond (k == 9) c (closed c) ∷ closed_from (suc k) cs
