use Rattle.std.proofs.Common.{◌≡◌, ◌^◌, ℕ}
use Rattle.product_rules.specs.Trees.{above, after_steps}
use Rattle.product_rules.proofs.trees.far_above.Given as goal

-- where so many steps lead, each round twice as many
abbrev pub invariant-loop : goal.invariant-loop
invariant-loop l = (j : ℕ) → above l.ends.items j ≡ after_steps l.fn.parents.items (2 ^ l.counter) j
