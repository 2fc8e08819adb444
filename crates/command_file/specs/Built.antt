-- Parts of a column that a file may leave out.
use Rattle.std.specs.Prelude.{ℕ, ℤ, List, [], Option, Some, None, option_and_then, codes}
use Rattle.serde_json.specs.Data.{Data}
use Rattle.serde_json.specs.Find.{as_str, get}
use Rattle.msi_texts.specs.Category.{category_named}
use Rattle.msi_texts.specs.declared.category.Category.{Category}
use Rattle.std.specs.Borrow.{Bor}
use Rattle.msi_columns.specs.Column.{Column, refers_to}
use Rattle.command_file.specs.Commands.{perhaps_in}
use Rattle.json_parts.specs.Values.{at_key_or, int_in, list_in, pair_in}

-- the least and the greatest number
abbrev pub range_in : Data → Option (Option (ℤ × ℤ))
range_in d = perhaps_in (codes "range") (pair_in int_in int_in) d

-- the table and the column that it refers to
abbrev pub foreign_in : Data → Option (Option (List ℕ × ℤ))
foreign_in d = perhaps_in (codes "foreign") (pair_in as_str int_in) d

-- the category
abbrev pub category_in : Data → Option (Option Category)
category_in d = perhaps_in (codes "category") (λ e. option_and_then category_named (as_str e)) d

-- the texts that it takes alone
abbrev pub choices_in : Data → Option (List (List ℕ))
choices_in d = at_key_or [] (get (codes "enum") d) (list_in as_str)

-- a change by what is there
abbrev pub changed_by : {X : Type 0} → Option X → (X → Column → Column) → Column → Column
changed_by None change c = c
changed_by (Some x) change c = change x c

-- a reference to a table and its column
abbrev pub referred : Option (Bor (List ℕ) × ℤ) → Column → Column
referred None c = c
referred (Some key) c = refers_to key.0.now key.1 c
