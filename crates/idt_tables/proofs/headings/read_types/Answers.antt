use Rattle.std.proofs.Common.{◌∙◌, sym}
use Rattle.idt_tables.specs.Headings.{type_in}
use Rattle.idt_tables.proofs.EachRead.{all_read, begun, none_read, one_read}
use Rattle.idt_tables.proofs.headings.read_types.Goals as goal

pub loop-part-init : goal.loop-part-init
loop-part-init c = begun _ _ c.new-types.ensures.items

pub loop-part-preserved : goal.loop-part-preserved
loop-part-preserved c =
    one_read type_in (λ p. p.now) c.args.parts.now c.loop-part.part-index _ c.loop-part.types.items c.push.new.self.items c.in-Some.coltype _ c.loop-part-test.true (sym c.read_type.ensures ∙ c.in-Some.is)
    c.in_ok-push-in-Some.ensures.items c.loop-part.invariant

pub returns-in-None : goal.returns-in-None
returns-in-None c = none_read type_in (λ p. p.now) c.args.parts.now c.loop-part.part-index _ c.loop-part.types.items _ c.loop-part-test.true (sym c.read_type.ensures ∙ c.in-None.is) c.loop-part.invariant

pub returns : goal.returns
returns c = all_read type_in (λ p. p.now) c.args.parts.now c.loop-part.part-index c.loop-part.types.items _ c.loop-part-test.false c.loop-part.invariant
