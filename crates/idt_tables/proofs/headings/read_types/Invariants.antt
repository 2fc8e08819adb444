use Rattle.std.proofs.Common.{◌≡◌, drop, map}
use Rattle.idt_tables.specs.Headings.{types_in}
use Rattle.idt_tables.proofs.EachRead.{behind}
use Rattle.idt_tables.proofs.headings.read_types.Given as goal

-- the types so far, and those that are left
abbrev pub invariant-loop-part : goal.invariant-loop-part
invariant-loop-part l = behind l.types.items (types_in (map (λ p. p.now) (drop l.part-index l.parts))) ≡ types_in (map (λ p. p.now) l.parts)
