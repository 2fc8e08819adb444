use Rattle.std.proofs.Common.{map}
use Rattle.idt_imports.proofs.ColumnsRead.{HasFirst}
use Rattle.idt_imports.proofs.headings.marked_columns.Given as goal

-- the columns so far
abbrev pub invariant-loop-at : goal.invariant-loop-at
invariant-loop-at l = HasFirst (λ n. n.now) l.heading.names.items l.heading.types.items (map (λ k. k.now) l.heading.keys.items) l.at l.columns.items
