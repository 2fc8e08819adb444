use Rattle.std.proofs.Common.{◌+◌, [], ◌∷◌, ◌++◌, drop, take, get_or, subst, sym, refl}
use Rattle.std.proofs.lemmas.List.{take_more}
use Rattle.cfb_soundness.specs.Marks.{CanTake, MarksEachOnce}
use Rattle.cfb_soundness.proofs.Taking.{can_take_front, can_take_rest, parted, takes_then}
use Rattle.cfb_soundness.proofs.marks.Marks.take_all.Goals as goal

pub returns-then-not-take-clause-refused_only_if : goal.returns-then-not-take-clause-refused_only_if
returns-then-not-take-clause-refused_only_if c = λ no can.
    let parts = c.args.parts.now in
    let i = c.loop-part.part-index in
    let old = c.args.self.now.items.items in
    let now = c.loop-part.self.items.items in
    let rest = can_take_rest (take i parts) ((get_or parts i 0 ∷ []) ++ drop (i + 1) parts) old now c.loop-part.invariant
    (subst (λ xs. CanTake xs old) (parted parts i c.loop-part-test.true) can) in
    c.if-not-take.ensures.refused_only_if refl (can_take_front (get_or parts i 0 ∷ []) (drop (i + 1) parts) now rest)

pub loop-part-preserved : goal.loop-part-preserved
loop-part-preserved c =
    let parts = c.args.parts.now in
    let i = c.loop-part.part-index in
    let old = c.args.self.now.items.items in
    let now = c.loop-part.self.items.items in
    subst (λ xs. MarksEachOnce xs old c.take.new.self.items.items) (sym (take_more parts i 0 c.loop-part-test.true))
    (takes_then (take i parts) (get_or parts i 0 ∷ []) old now c.take.new.self.items.items c.loop-part.invariant (c.if-not-take.ensures.took refl))
