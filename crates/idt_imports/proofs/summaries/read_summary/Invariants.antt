use Rattle.std.proofs.Common.{◌≡◌, map}
use Rattle.idt_rows.specs.Rows.{datum_of}
use Rattle.idt_summaries.specs.Reading.{properties_in}
use Rattle.idt_imports.proofs.SummaryRead.{left_at}
use Rattle.idt_tables.proofs.EachRead.{behind}
use Rattle.msi_props.specs.Held.{pair_in}
use Rattle.idt_imports.proofs.summaries.read_summary.Given as goal

-- the properties so far, and those of the rows that are left
abbrev pub invariant-loop-at : goal.invariant-loop-at
invariant-loop-at l = behind (map pair_in l.summary.properties.items) (left_at (λ row. map datum_of row.items) l.rows l.at) ≡ properties_in (map (λ row. map datum_of row.items) l.rows)
