-- How inserts, updates and deletes are printed.
use Rattle.std.specs.Prelude.{ℕ, List, [], ◌∷◌, ◌++◌, map, Option, Some, codes}
use Rattle.std.specs.Fmt.{◌++?◌}
use Rattle.msi_values.specs.Datum.{Datum, datum_text}
use Rattle.msi_expr.specs.Formula.{Formula}
use Rattle.msi_expr.specs.Printed.{condition_text, separated}

-- a delete
abbrev pub delete_text : List ℕ → Option Formula → Option (List ℕ)
delete_text name condition = Some (codes "DELETE FROM " ++ name) ++? condition_text condition

-- the values of a row in parentheses
abbrev pub values_text : List Datum → Option (List ℕ)
values_text ds = Some (codes "(") ++? separated (codes ", ") (map datum_text ds) ++? Some (codes ")")

-- an insert; no rows are not printed
abbrev pub insert_text : List ℕ → List (List Datum) → Option (List ℕ)
insert_text name [] = Some (codes "INSERT INTO " ++ name)
insert_text name (r ∷ rs) = Some (codes "INSERT INTO " ++ name ++ codes " VALUES ") ++? separated (codes ", ") (map values_text (r ∷ rs))

-- a column and its new value
abbrev pub set_text : List ℕ × Datum → Option (List ℕ)
set_text s = Some (s.0 ++ codes " = ") ++? datum_text s.1

-- an update
abbrev pub update_text : List ℕ → List (List ℕ × Datum) → Option Formula → Option (List ℕ)
update_text name sets condition = Some (codes "UPDATE " ++ name ++ codes " SET ") ++? separated (codes ", ") (map set_text sets) ++? condition_text condition
