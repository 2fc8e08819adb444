use Rattle.std.proofs.Common.{◌∙◌, refl, sym, ap, map}
use Rattle.idt_tables.proofs.LinesRead.{dropped, kept}
use Rattle.idt_tables.proofs.lines.with_last.Goals as goal

pub returns-then-is_empty : goal.returns-then-is_empty
returns-then-is_empty c = dropped (λ p. p.now) _ c.args.parts.items c.args.last refl (sym c.is_empty.ensures ∙ c.if-is_empty.true)

pub returns : goal.returns
returns c = ap (map (λ p. p.now)) c.in_ok-push.ensures.items ∙ kept (λ p. p.now) _ c.args.parts.items c.args.last refl (sym c.is_empty.ensures ∙ c.if-is_empty.false)
