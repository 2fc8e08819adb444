-- Changes of mini chains, as their owners see them.
use Rattle.std.proofs.Common.{◌≡◌, ℕ, ◌+◌, ◌<◌, ◌≤◌, ◌⊎◌, inl, List, [], ◌∷◌, ◌++◌, length, refl, zero, ap, sym, subst, arith, ⊎_elim}
use Rattle.std.specs.Prelude.{slice_get, Some}
use Rattle.cfb_sectors.specs.Sectors.{filled_part, free}
use Rattle.cfb_chains.specs.Changes.{AreSubsetOf, DifferOnlyAt, IsNotIn}
use Rattle.cfb_chains.specs.Grown.{IsChainInTable}
use Rattle.cfb_chains.specs.Owned.{AreBesideWords, ReplacesChain, ChangesAtMost, SectorLayer}
use Rattle.cfb_chains.proofs.Beside.{none_first}
use Rattle.cfb_chains.proofs.ChainGrowing.{among_more}
use Rattle.cfb_mini.specs.Minis.{all_words, mini_sector}

-- what lies beside a number and begins behind the one before it begins behind it
beyond : (place count w next : ℕ) → 0 < count → w ≤ place → next ≡ w + 4 → (place + count ≤ w) ⊎ (w + 4 ≤ place) → next ≤ place
beyond place count w next some past is beside = ⊎_elim (λ before. absurd (omega (arith, before, some, past))) (λ behind. omega (arith, behind, is)) beside

-- no part of the first bytes lies beside all numbers
nothing_beside : (place count : ℕ) → 0 < count → place + count ≤ 68 → AreBesideWords all_words place count → ⊥
nothing_beside place count some front (a, (b, (c, (d, (e, (f, (h, (i, (j, (k, (l, (m, (n, (o, (p, (q, (r, end))))))))))))))))) =
    let a' = beyond place count 0 4 some (omega arith) refl a in
    let b' = beyond place count 4 8 some a' refl b in
    let c' = beyond place count 8 12 some b' refl c in
    let d' = beyond place count 12 16 some c' refl d in
    let e' = beyond place count 16 20 some d' refl e in
    let f' = beyond place count 20 24 some e' refl f in
    let h' = beyond place count 24 28 some f' refl h in
    let i' = beyond place count 28 32 some h' refl i in
    let j' = beyond place count 32 36 some i' refl j in
    let k' = beyond place count 36 40 some j' refl k in
    let l' = beyond place count 40 44 some k' refl l in
    let m' = beyond place count 44 48 some l' refl m in
    let n' = beyond place count 48 52 some m' refl n in
    let o' = beyond place count 52 56 some n' refl o in
    let p' = beyond place count 56 60 some o' refl p in
    let q' = beyond place count 60 64 some p' refl q in
    let r' = beyond place count 64 68 some q' refl r in
    omega (arith, r', some, front)

header_free : (old new : List ℕ) (place count : ℕ) → place + count ≤ 68 → AreBesideWords (44 ∷ all_words) place count → filled_part new place count ≡ filled_part old place count
header_free old new place zero front beside = refl
header_free old new place count front beside = absurd (nothing_beside place count (omega arith) front beside.1)

-- at most these mini sectors changed, in their numbers or in their bytes
leaves_of : (s t : SectorLayer) (touched : List ℕ) → s.tables ≡ [] → t.tables ≡ [] → length s.bytes ≤ length t.bytes → DifferOnlyAt touched s.table t.table
    → ((n : ℕ) → IsNotIn touched n → mini_sector t.bytes n ≡ mini_sector s.bytes n) → ChangesAtMost mini_sector all_words touched s t
leaves_of s t touched none_s none_t longer differ others = record {
  longer = longer;
  size = let same = differ.size in omega (arith, same);
  entries = λ n below none. differ.others n none;
  sectors = λ n below loose none. others n none;
  apart = λ n below loose. subst (λ l. IsNotIn l n) (sym none_t) (λ k inside same. absurd (omega (arith, inside)));
  still = λ n loose. subst (λ l. IsNotIn l n) (sym none_s) (λ k inside same. absurd (omega (arith, inside)));
  behind = λ n past below none. absurd (let same = differ.size in omega (arith, same, past, below));
  header = header_free s.bytes t.bytes;
}

-- a chain took in a free mini sector
pub becomes_more : (s t : SectorLayer) (minis later : List ℕ) (taken : ℕ) → s.tables ≡ [] → t.tables ≡ [] → t.bytes ≡ s.bytes → DifferOnlyAt (minis ++ taken ∷ []) s.table t.table → slice_get s.table taken ≡ Some free
    → later ≡ minis ++ taken ∷ [] → IsChainInTable t.table later → ReplacesChain mini_sector all_words minis (taken ∷ []) later s t
becomes_more s t minis later taken none_s none_t same differ found are linked = record {
  leaves = leaves_of s t (minis ++ taken ∷ []) none_s none_t (let size = ap length same in omega (arith, size)) differ (λ n none. ap (λ l. mini_sector l n) same);
  were_free = (inl found, tt);
  spare = (subst (λ l. IsNotIn l taken) (sym none_t) (λ k inside is. absurd (omega (arith, inside))), tt);
  linked = linked;
  among = λ n none. subst (λ l. IsNotIn l n) (sym are) none;
}

-- mini sectors of a chain changed, in their numbers or in their bytes
module _ (s t : SectorLayer) (minis : List ℕ) (none_s : s.tables ≡ []) (none_t : t.tables ≡ []) (longer : length s.bytes ≤ length t.bytes) (differ : DifferOnlyAt minis s.table t.table)
    (others : (n : ℕ) → IsNotIn minis n → mini_sector t.bytes n ≡ mini_sector s.bytes n) where
  mini_leaves : ChangesAtMost mini_sector all_words (minis ++ []) s t
  mini_leaves = leaves_of s t (minis ++ []) none_s none_t longer (record { size = differ.size; others = λ n none. differ.others n (none_first minis [] n none) }) (λ n none. others n (none_first minis [] n none))

  -- it has no mini sectors any more
  pub becomes_none : ReplacesChain mini_sector all_words minis [] [] s t
  becomes_none = record { leaves = mini_leaves; were_free = tt; spare = tt; linked = refl; among = λ n none k below same. absurd (omega (arith, below)) }

  -- it has those that it had
  pub becomes_same : IsChainInTable t.table minis → ReplacesChain mini_sector all_words minis [] minis s t
  becomes_same linked = record { leaves = mini_leaves; were_free = tt; spare = tt; linked = linked; among = among_more minis [] minis (λ n none. none) }

  -- it has some that it had
  pub becomes_fewer : (later : List ℕ) → AreSubsetOf minis later → IsChainInTable t.table later → ReplacesChain mini_sector all_words minis [] later s t
  becomes_fewer later among linked = record { leaves = mini_leaves; were_free = tt; spare = tt; linked = linked; among = among_more minis [] later among }
