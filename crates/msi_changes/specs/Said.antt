-- What inserts, updates and deletes in memory say.
use Rattle.std.specs.Prelude.{ℕ, List, map, Option, String, string_bytes}
use Rattle.std.specs.declared.alloc.Global.{Global}
use Rattle.msi_values.specs.Datum.{Datum, data_of, datum_of}
use Rattle.msi_values.specs.declared.value.Value.{Value}
use Rattle.msi_expr.specs.Formula.{Formula}
use Rattle.msi_expr.specs.Conditions.{condition_of}
use Rattle.msi_changes.specs.declared.delete.Delete.{Delete}
use Rattle.msi_changes.specs.declared.insert.Insert.{Insert}
use Rattle.msi_changes.specs.declared.update.Update.{Update}

abbrev pub delete_name : Delete → List ℕ
delete_name d = string_bytes d.table_name

abbrev pub delete_condition : Delete → Option Formula
delete_condition d = condition_of d.condition

abbrev pub insert_name : Insert → List ℕ
insert_name i = string_bytes i.table_name

abbrev pub insert_rows : Insert → List (List Datum)
insert_rows i = map (λ row. data_of row.items) i.new_rows.items

abbrev pub update_name : Update → List ℕ
update_name u = string_bytes u.table_name

-- a column with its new value
abbrev pub set_of : String Global × Value → List ℕ × Datum
set_of s = (string_bytes s.0, datum_of s.1)

-- columns with their new values
abbrev pub sets_of : List (String Global × Value) → List (List ℕ × Datum)
sets_of sets = map set_of sets

abbrev pub update_sets : Update → List (List ℕ × Datum)
update_sets u = sets_of u.updates.items

abbrev pub update_condition : Update → Option Formula
update_condition u = condition_of u.condition
