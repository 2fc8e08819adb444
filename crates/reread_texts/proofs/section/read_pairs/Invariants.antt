use Rattle.std.proofs.Common.{◌≡◌, ◌+◌, ℕ, []}
use Rattle.msi_props.specs.Props.{pairs_at}
use Rattle.reread_texts.proofs.section.read_pairs.Given as goal

-- the pairs so far, and those to come
abbrev pub invariant-loop : goal.invariant-loop
invariant-loop l = (left : ℕ) → l.counter + left ≡ l.count → pairs_at l.count l.initial.reader.now [] ≡ pairs_at left l.reader.now l.pairs.entries
