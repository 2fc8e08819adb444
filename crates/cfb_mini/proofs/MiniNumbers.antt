-- Numbers of the mini FAT that are set.
use Rattle.std.proofs.Common.{◌≡◌, ℕ, ◌+◌, ◌*◌, ◌/◌, ◌<◌, ◌≤◌, ◌^◌, inl, inr, List, [], ◌∷◌, length, take, drop, get_or, ap, sym, subst, ◌∙◌, arith, ⊎_elim, length-take}
use Rattle.std.specs.Int.{w32, from_le_bytes, to_le_bytes}
use Rattle.std.proofs.Math.ListN.{set}
use Rattle.std.proofs.lemmas.Bool.Decides.{eqb_tells, leb_tells}
use Rattle.std.proofs.lemmas.List.{ext_get_or, get_or-take, length-set, get_or-set_same, get_or-set_other}
use Rattle.std.proofs.lemmas.Nat.{from_le_bytes-to_le_bytes_4}
use Rattle.cfb_medium.specs.Bytes.{overwritten}
use Rattle.cfb_medium.specs.Numbers.{numbers}
use Rattle.cfb_sectors.specs.Sectors.{filled_part}
use Rattle.cfb_chains.specs.Changes.{DifferOnlyAt, HaveEntry}
use Rattle.cfb_chains.proofs.ChainWriting.{length_within}
use Rattle.cfb_chains.proofs.Overwriting.{beside, written}
use Rattle.cfb_fat.proofs.FatEntries.{get_number, length-numbers}
use Rattle.cfb_fat.proofs.Words.{filled_is}

-- the number at a place of bytes that are there
number_is : (c : List ℕ) (m : ℕ) → m < length c / 4 → get_or (numbers c) m 0 ≡ from_le_bytes w32 (filled_part c (4 * m) 4)
number_is c m below =
    get_number c m below ∙ ap (λ p. from_le_bytes w32 (take 4 (drop p c))) (omega arith)
    ∙ ap (from_le_bytes w32) (sym (filled_is c (4 * m) 4 (omega (arith, below))))

-- one number is written
pub numbers_set : (c : List ℕ) (n x : ℕ) → 4 * n + 4 ≤ length c → x < 2 ^ 32 → numbers (overwritten c (4 * n) (to_le_bytes w32 x)) ≡ set (numbers c) n x
numbers_set c n x fits small =
    let bytes = to_le_bytes w32 x in
    let after = overwritten c (4 * n) bytes in
    let same : length after ≡ length c = length_within c bytes (4 * n) (omega (arith, fits)) in
    let size = length-numbers after in
    let old = length-numbers c in
    ext_get_or 0 _ _ (size ∙ ap (λ k. k / 4) same ∙ sym old ∙ sym (length-set (numbers c) n x)) (λ m below.
    let there : m < length after / 4 = omega (arith, below, size) in
    let was : m < length c / 4 = subst (λ k. m < k / 4) same there in
    number_is after m there ∙ ⊎_elim
    (λ here.
    ap (λ k. from_le_bytes w32 (filled_part after (4 * k) 4)) here.1 ∙ ap (from_le_bytes w32) (written c bytes (4 * n)) ∙ from_le_bytes-to_le_bytes_4 x small
    ∙ sym (ap (λ k. get_or (set (numbers c) n x) k 0) here.1 ∙ get_or-set_same (numbers c) n x 0 (omega (arith, old, fits))))
    (λ other.
    ap (from_le_bytes w32) (beside c bytes (4 * n) (4 * m) 4 (⊎_elim (λ le. inl (omega (arith, le.1, other.1))) (λ gt. inr (omega (arith, gt.1))) (leb_tells m n)))
    ∙ sym (number_is c m was) ∙ sym (get_or-set_other (numbers c) n m x 0 other.1))
    (eqb_tells m n))

-- at most its own is changed then
pub differ_set : (table now : List ℕ) (n x : ℕ) → now ≡ set table n x → DifferOnlyAt (n ∷ []) table now
differ_set table now n x is = record {
  size = ap length is ∙ length-set table n x;
  others = λ m none. ap (λ l. get_or l m 0) is ∙ get_or-set_other table n m x 0 (λ same. none 0 (omega arith) (sym same));
}

-- one number more of a list has this entry
pub have_more : (x : ℕ) (table now ids : List ℕ) (i : ℕ) → HaveEntry x table (take i ids) → now ≡ set table (get_or ids i 0) x → i < length ids → get_or ids i 0 < length table → HaveEntry x now (take (i + 1) ids)
have_more x table now ids i was is there inside k below =
    let size = length-take (i + 1) ids in
    let before = length-take i ids in
    ap (λ n. get_or now n 0) (get_or-take (i + 1) ids k 0 (omega (arith, below, size))) ∙ ap (λ l. get_or l (get_or ids k 0) 0) is
    ∙ ⊎_elim
    (λ same. ap (λ n. get_or (set table (get_or ids i 0) x) n 0) same.1 ∙ get_or-set_same table (get_or ids i 0) x 0 inside)
    (λ differ. ⊎_elim
    (λ le. absurd (differ.1 (ap (λ n. get_or ids n 0) (let at : k ≡ i = omega (arith, le.1, below, size) in at))))
    (λ less. get_or-set_other table (get_or ids i 0) (get_or ids k 0) x 0 differ.1 ∙ ap (λ n. get_or table n 0) (sym (get_or-take i ids k 0 less.1)) ∙ was k (omega (arith, less.1, before, there)))
    (leb_tells i k))
    (eqb_tells (get_or ids k 0) (get_or ids i 0))
