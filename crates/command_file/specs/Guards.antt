-- Changes of all rows, or of none, that a slip of the pen makes.
use Rattle.std.specs.Prelude.{Bool, true, false, not, ◌||◌, ◌==◌, Option, None, Some, pos, negsuc}
use Rattle.msi_values.specs.Datum.{Datum, null, number, text, binary}
use Rattle.msi_expr.specs.Formula.{Formula, literal_of}
use Rattle.command_file.specs.Request.{Request}
use Rattle.command_file.specs.Request as asked

-- a value that no condition is worth: a text, or a number other than 0 and 1, as which `false` and `true` are read
abbrev pub is_no_answer : Datum → Bool
is_no_answer null = false
is_no_answer (number (pos n)) = not (n == 0 || n == 1)
is_no_answer (number (negsuc n)) = true
is_no_answer (text t) = true
is_no_answer binary = false

-- a condition that is such a value
abbrev pub is_value : Option Datum → Bool
is_value None = false
is_value (Some value) = is_no_answer value

abbrev pub is_slip : Option Formula → Bool
is_slip None = false
is_slip (Some condition) = is_value (literal_of condition)

-- AN UPDATE OR A DELETE whose condition is such a value
abbrev pub slips : Request → Bool
slips (asked.update name sets condition) = is_slip condition
slips (asked.delete name condition) = is_slip condition
slips _ = false
