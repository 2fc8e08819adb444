use Rattle.std.proofs.Common.{◌≡◌, ℕ, ◌==◌, map, take}
use Rattle.std.specs.Prelude.{nat_eq}
use Rattle.std.specs.Char.{IsScalar}
use Rattle.std.specs.List.{AllByRecursion, IsDistinct}
use Rattle.std.specs.Map.{lookup}
use Rattle.std.specs.Ordering.{nat_cmp}
use Rattle.std.specs.BTreeMap.{get}
use Rattle.cfb_tree.specs.Names.{letter}
use Rattle.cfb_tree.proofs.LetterSteps.{IsAsLong}
use Rattle.cfb_tree.proofs.letters.CaseMapper.new.Given as goal

-- the pairs so far are in the table, and are such as a table may have
abbrev pub invariant-loop-from : goal.invariant-loop-from
invariant-loop-from l = record {
  found : (c : ℕ) → get nat_cmp l.letters c ≡ lookup (λ k. c == k) (take l.from-index l.pairs);
  once : IsDistinct nat_eq (map (λ pair. pair.0) (take l.from-index l.pairs));
  as_long : AllByRecursion IsAsLong (take l.from-index l.pairs);
  scalars : (c : ℕ) → IsScalar c → IsScalar (letter l.letters.entries c);
}
