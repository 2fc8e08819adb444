use Rattle.std.proofs.Common.{◌∙◌, ap, sym, string_bytes, option_map, map}
use Rattle.std.specs.Prelude.{◌==◌}
use Rattle.std.specs.List.{list_any}
use Rattle.msi_columns.specs.Held.{column_of}
use Rattle.msi_table_edits.proofs.HeldTests.{listed_so}
use Rattle.msi_table_edits.proofs.testing.has_semicolon.Goals as goal

pub returns-in-Some : goal.returns-in-Some
returns-in-Some c =
    c.have_semicolon.ensures ∙ listed_so (list_any (λ b. b == 59)) string_bytes c.in-Some.texts.now (column_of c.args.column.now).choices (ap (option_map (λ texts. map string_bytes texts.now)) (sym c.in-Some.is) ∙ c.enum_values.ensures)
