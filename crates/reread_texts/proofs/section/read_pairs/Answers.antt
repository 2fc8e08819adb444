use Rattle.std.proofs.Common.{◌-◌, suc, arith, ◌∙◌, ap, sym}
use Rattle.std.proofs.lemmas.Grind.{common_steps}
use Rattle.msi_props.specs.Props.{pairs_at}
use Rattle.msi_props.proofs.Pairs.{number_refused, offset_refused, repeated, next_pair}
use Rattle.reread_texts.proofs.section.read_pairs.Goals as goal

pub returns-in_err-number-clause-pairs : goal.returns-in_err-number-clause-pairs
returns-in_err-number-clause-pairs c =
    let left = c.args.count - c.loop.counter - 1 in
    let whole = c.loop.invariant (suc left) (omega arith) ∙ number_refused left c.loop.reader.now c.loop.pairs.entries c.in_err-number.field-0.0 c.in_err-number.ensures.errors in
    grind (arith, whole)

pub returns-in_err-offset-clause-pairs : goal.returns-in_err-offset-clause-pairs
returns-in_err-offset-clause-pairs c =
    let left = c.args.count - c.loop.counter - 1 in
    let whole = c.loop.invariant (suc left) (omega arith) ∙ offset_refused left c.loop.reader.now c.loop.pairs.entries c.in_ok-number.number c.read_u32.new.reader.now c.in_ok-number.ensures.ok c.in_err-offset.field-0.0 c.in_err-offset.ensures.errors in
    grind (arith, whole)

pub returns-then-contains_key-clause-pairs : goal.returns-then-contains_key-clause-pairs
returns-then-contains_key-clause-pairs c =
    let left = c.args.count - c.loop.counter - 1 in
    let whole = c.loop.invariant (suc left) (omega arith) ∙ repeated left c.loop.reader.now c.loop.pairs.entries c.in_ok-number.number c.read_u32.new.reader.now c.in_ok-number.ensures.ok c.in_ok-offset.offset c.read_u32-in-loop.new.reader.now c.in_ok-offset.ensures.ok (sym c.contains_key.ensures ∙ c.if-contains_key.true) in
    grind (arith, whole)

pub loop-preserved : goal.loop-preserved
loop-preserved c = λ left total.
    c.loop.invariant (suc left) (omega (arith, total)) ∙ next_pair left c.loop.reader.now c.loop.pairs.entries c.in_ok-number.number c.read_u32.new.reader.now c.in_ok-number.ensures.ok c.in_ok-offset.offset c.read_u32-in-loop.new.reader.now c.in_ok-offset.ensures.ok (sym c.contains_key.ensures ∙ c.if-contains_key.false)
    ∙ ap (pairs_at left c.read_u32-in-loop.new.reader.now) (sym c.in_ok-insert.ensures.entries)

pub returns-clause-pairs : goal.returns-clause-pairs
returns-clause-pairs c = let all = c.loop.invariant 0 (omega arith) in grind (arith, common_steps, all)
