use Rattle.std.proofs.Common.{◌∙◌, arith, ap, map}
use Rattle.std.specs.Prelude.{option_and_then}
use Rattle.product_rules.specs.Trees.{above}
use Rattle.product_rules.proofs.Climbed.{doubled_once, ended, one_step}
use Rattle.product_rules.proofs.trees.far_above.Goals as goal

pub loop-init : goal.loop-init
loop-init c = λ j. one_step c.args.parents.items j

pub loop-preserved : goal.loop-preserved
loop-preserved c = λ j.
    ap (λ xs. above xs j) c.in_ok-ends.ensures
    ∙ ap (λ xs. above (map (option_and_then (above xs)) xs) j) c.deref.ensures.value
    ∙ doubled_once c.args.parents.items c.loop.ends.items c.loop.counter c.loop.invariant j

pub returns : goal.returns
returns c = ended c.args.parents.items c.loop.ends.items c.loop.counter (omega arith) c.loop.invariant
