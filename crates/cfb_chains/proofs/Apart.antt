-- Other chains, where one took in free sectors.
use Rattle.std.proofs.Common.{ℕ, ◌<◌, List, [], ◌∷◌, ◌++◌, length, get_or, zero, suc, sym, subst, arith}
use Rattle.std.specs.List.{AllByRecursion}
use Rattle.cfb_sectors.specs.Sectors.{Chain as IsChain}
use Rattle.cfb_chains.specs.Changes.{AreSubsetOf, AreDisjoint, IsFreeIn, IsNotIn, SameExceptAt}
use Rattle.cfb_chains.proofs.Beside.{none_both}
use Rattle.cfb_chains.proofs.ChainGrowing.{in_use, kept_entry}

free_at : (table xs : List ℕ) (k : ℕ) → k < length xs → AllByRecursion (IsFreeIn table) xs → IsFreeIn table (get_or xs k 0)
free_at table [] k below free = absurd (omega (arith, below))
free_at table (x ∷ xs) zero below free = free.0
free_at table (x ∷ xs) (suc k) below free = free_at table xs k (omega (arith, below)) free.1

pub stays_apart : (entries old new ids more : List ℕ) → SameExceptAt entries old new → AreSubsetOf (ids ++ more) entries → AllByRecursion (IsFreeIn old) more
    → (start : ℕ) (others : List ℕ) → IsChain old start others → AreDisjoint ids others → IsChain new start others × AreDisjoint (ids ++ more) others
stays_apart entries old new ids more stay among free start [] chain none = (chain, tt)
stays_apart entries old new ids more stay among free start (x ∷ others) (is, regular, next, found, rest) none =
    let apart : IsNotIn (ids ++ more) x = none_both ids more x none.0
    (λ k below same. in_use old start (x ∷ others) (get_or more k 0) (is, regular, next, found, rest) (free_at old more k below free) 0 (omega arith) (sym same)) in
    let then = stays_apart entries old new ids more stay among free next others rest none.1 in (
      (is, regular, next, kept_entry entries old new stay start next (subst (IsNotIn entries) is (among x apart)) found, then.0),
      (apart, then.1),
    )
