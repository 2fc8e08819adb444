-- Mini chains that end sooner.
use Rattle.std.proofs.Common.{ap, ◌≡◌, ℕ, ◌+◌, ◌-◌, ◌<◌, ◌≤◌, List, ◌∷◌, length, drop, take, get_or, set, suc, sym, ◌∙◌, arith, length-drop}
use Rattle.std.proofs.lemmas.List.{take_all, get_or-drop, length-set, get_or-set_other, get_or-set_same}
use Rattle.cfb_sectors.specs.Sectors.{end_of_chain}
use Rattle.cfb_chains.specs.Changes.{AreSubsetOf, DifferOnlyAt, IsNotIn}
use Rattle.cfb_chains.specs.Grown.{IsChainInTable}
use Rattle.cfb_chains.proofs.ChainCutting.{front_stays, is_cut}
use Rattle.cfb_chains.proofs.ChainGrowing.{chain_once}

-- the front of a chain is a chain, where its last number was made an end and then those behind it were changed
pub ended_front : (old new s : List ℕ) (m last : ℕ) → suc m ≤ length s → last ≡ get_or s m 0 → last < length old → DifferOnlyAt (drop (suc m) s) (set old last end_of_chain) new → IsChainInTable old s → IsChainInTable new (take (suc m) s)
ended_front old new s m last inside is below differ linked =
    let rest = drop (suc m) s in
    let was = is_cut old s m last inside is linked in
    let once = chain_once old last (last ∷ rest) was in
    let apart : IsNotIn rest last = λ j there same. let wrong = once 0 (suc j) (omega arith) (omega (arith, there)) (sym same) in omega (arith, wrong) in
    let differs : DifferOnlyAt (last ∷ rest) old new = record {
      size = differ.size ∙ length-set old last end_of_chain;
      others = λ n none. differ.others n (λ j there same. none (suc j) (omega (arith, there)) same) ∙ get_or-set_other old last n end_of_chain 0 (λ same. none 0 (omega arith) (sym same));
    } in
    front_stays old new s rest m last inside is was (differ.others last apart ∙ get_or-set_same old last end_of_chain 0 below) differs linked

-- what is none of a list is none of its rest
pub among_rest : (s : List ℕ) (count : ℕ) → AreSubsetOf s (drop count s)
among_rest s count n none k below same =
    let size = length-drop count s in
    none (count + k) (omega (arith, below, size)) (sym (get_or-drop count s k 0) ∙ same)

-- the rest of a slice
pub rest_of : (xs s : List ℕ) (count : ℕ) → xs ≡ s → take (length xs - count) (drop count xs) ≡ drop count s
rest_of xs s count same = take_all (length xs - count) (drop count xs) (let size = length-drop count xs in omega (arith, size)) ∙ ap (drop count) same
