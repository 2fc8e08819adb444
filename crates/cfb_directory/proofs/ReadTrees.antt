-- The chain of the directory.
use Rattle.std.proofs.Common.{ℕ, List, [], ◌∷◌, refl, arith}
use Rattle.cfb_sectors.specs.Sectors.{Chain as IsChain}
use Rattle.cfb_chains.specs.Grown.{IsChainInTable}
use Rattle.cfb_chains.proofs.Extending.{linked_from}

-- a chain's sectors are linked, also where it has none
pub linked_of : (table : List ℕ) (start : ℕ) (ids : List ℕ) → IsChain table start ids → IsChainInTable table ids
linked_of table start [] chain = refl
linked_of table start (id ∷ ids) chain = linked_from table start (id ∷ ids) (omega arith) chain
