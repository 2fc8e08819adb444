use Rattle.std.proofs.Common.{◌≡◌, map, take}
use Rattle.idt_tables.specs.Lines.{trimmed}
use Rattle.idt_tables.proofs.lines.trimmed.Given as goal

-- the lines so far
abbrev pub invariant-loop-part : goal.invariant-loop-part
invariant-loop-part l = map (λ p. p.now) l.lines.items ≡ map trimmed (map (λ p. p.now) (take l.part-index l.parts))
