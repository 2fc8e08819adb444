use Rattle.std.proofs.Common.{◌≡◌, drop}
use Rattle.std.specs.Prelude.{option_map, find, ◌==◌}
use Rattle.msi_props.proofs.propset.page_offset.Given as goal

-- it is among the pairs to come
abbrev pub invariant-loop-number : goal.invariant-loop-number
invariant-loop-number l = option_map (λ p. p.1) (find (λ p. p.0 == 1) l.pairs) ≡ option_map (λ p. p.1) (find (λ p. p.0 == 1) (drop l.number-index l.pairs))
