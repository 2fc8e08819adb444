use Rattle.std.proofs.Common.{◌≡◌, ◌++◌, [], string_bytes}
use Rattle.std.specs.BTreeSet.{contains_text}
use Rattle.package_rules.specs.Places.{numbered}
use Rattle.package_rules.proofs.Left.{left}
use Rattle.product_rules.proofs.Loose.{loose_at}
use Rattle.product_rules.proofs.unused.unused_streams.Given as goal

-- what was found so far, with what is left, is all
abbrev pub invariant-loop-at : goal.invariant-loop-at
invariant-loop-at l =
    l.found.items ++ left (λ k s. loose_at (contains_text l.used) k (string_bytes s)) l.at l.streams ≡ [] ++ numbered (λ k s. loose_at (contains_text l.used) k (string_bytes s)) l.streams
