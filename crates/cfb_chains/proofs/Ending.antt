-- The end of a chain in a table.
use Rattle.std.proofs.Common.{◌≡◌, ℕ, ◌+◌, ◌<◌, ◌-◌, List, [], ◌∷◌, ◌++◌, length, take, get_or, refl, ap, sym, subst, ◌∙◌, arith, length-append}
use Rattle.cfb_sectors.specs.Sectors.{end_of_chain, Chain as IsChain}
use Rattle.cfb_chains.specs.Grown.{IsChainInTable}
use Rattle.cfb_chains.proofs.ChainGrowing.{but_last, last_alone, sector_behind}

-- a chain from any number but "end of chain" has a last sector
pub with_last : (table ids : List ℕ) (n : ℕ) → (n ≡ end_of_chain → ⊥) → IsChain table n ids → (front : List ℕ) × (last : ℕ) × IsChain table n (front ++ last ∷ [])
with_last table [] n some chain = absurd (some chain)
with_last table (x ∷ ids) n some chain = (
  take (length ids) (x ∷ ids),
  get_or (x ∷ ids) (length ids) 0,
  subst (IsChain table n) (but_last (x ∷ ids) (length ids) (omega arith)) chain,
)

-- "end of chain" begins no chain that has a sector
pub no_sector : (table front : List ℕ) (last n : ℕ) → n ≡ end_of_chain → IsChain table n (front ++ last ∷ []) → ⊥
no_sector table [] last n is chain = omega (arith, is, chain.1)
no_sector table (x ∷ front) last n is chain = omega (arith, is, chain.1)

-- the last sector of a chain begins one of its own
pub ends_alone : (table : List ℕ) (start : ℕ) (ids : List ℕ) (last n : ℕ) → IsChain table start (ids ++ last ∷ n ∷ []) → IsChain table n (n ∷ [])
ends_alone table start [] last n (is, regular, next, found, rest) = subst (λ s. IsChain table s (n ∷ [])) (sym rest.0) rest
ends_alone table start (x ∷ ids) last n (is, regular, next, found, rest) = ends_alone table next ids last n rest

-- where a table has a chain, it has one from its last sector on
pub has_end : (table ids : List ℕ) → IsChainInTable table ids → 0 < length ids → (front : List ℕ) × (last : ℕ) × IsChain table (get_or ids (length ids - 1) 0) (front ++ last ∷ [])
has_end table ids linked some = ([], get_or ids (length ids - 1) 0, (last_alone table ids (length ids - 1) (get_or ids (length ids - 1) 0) _ (omega (arith, some)) refl linked).1)

-- the last of a list with a number behind it
pub last_behind : (ids all : List ℕ) (n : ℕ) → all ≡ ids ++ n ∷ [] → get_or all (length all - 1) 0 ≡ n
last_behind ids all n is =
    let size : length all ≡ length ids + 1 = ap length is ∙ length-append ids (n ∷ []) in
    let count : length all - 1 ≡ length ids = omega (arith, size) in
    ap (λ l. get_or l (length all - 1) 0) is ∙ ap (λ k. get_or (ids ++ n ∷ []) k 0) count ∙ sector_behind ids n
