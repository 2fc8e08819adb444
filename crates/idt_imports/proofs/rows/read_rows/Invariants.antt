use Rattle.std.proofs.Common.{◌≡◌, drop, map}
use Rattle.idt_rows.specs.Rows.{datum_of, row_in}
use Rattle.idt_tables.specs.Tables.{rows_in}
use Rattle.idt_tables.proofs.EachRead.{behind}
use Rattle.idt_imports.proofs.rows.read_rows.Given as goal

-- the rows so far, and those that are left
abbrev pub invariant-loop-at : goal.invariant-loop-at
invariant-loop-at l = behind (map (λ row. map datum_of row.items) l.rows.items) (rows_in l.kinds.items (map (λ p. p.now) (drop l.at l.lines))) ≡ rows_in l.kinds.items (map (λ p. p.now) l.lines)
