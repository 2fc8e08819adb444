-- The bytes of mini sectors, one after the other.
use Rattle.std.proofs.Common.{◌≡◌, ℕ, ◌+◌, ◌-◌, ◌*◌, ◌/◌, ◌%◌, ◌<◌, ◌≤◌, inl, inr, List, [], ◌∷◌, ◌++◌, length, take, drop, get_or, zero, suc, ap, sym, subst, ◌∙◌, arith, ⊎_elim, length-append, length-take, length-drop}
use Rattle.std.proofs.Math.Seq.{get_or-append_right}
use Rattle.std.proofs.lemmas.Bool.Decides.{eqb_tells, leb_tells}
use Rattle.std.proofs.lemmas.List.{ext_get_or, get_or_append_left, get_or-drop, get_or-take}
use Rattle.cfb_medium.specs.Bytes.{overwritten}
use Rattle.cfb_chains.specs.Changes.{AreDistinct}
use Rattle.cfb_chains.proofs.ChainWriting.{length_within}
use Rattle.cfb_chains.proofs.Overwriting.{beside, get_before, get_behind, get_filled, get_written, length-filled}
use Rattle.cfb_mini.specs.Minis.{mini_joined, mini_sector}

pub length-mini_joined : (s ids : List ℕ) → length (mini_joined s ids) ≡ 64 * length ids
length-mini_joined s [] = omega arith
length-mini_joined s (x ∷ ids) =
    let one = length-filled s (64 * x) 64 in
    let rest = length-mini_joined s ids in
    let sum = length-append (mini_sector s x) (mini_joined s ids) in
    omega (arith, one, rest, sum)

-- a byte of a mini chain is one of the mini stream
pub get_mini : (s ids : List ℕ) (q r : ℕ) → q < length ids → r < 64 → get_or (mini_joined s ids) (64 * q + r) 0 ≡ get_or s (64 * get_or ids q 0 + r) 0
get_mini s [] q r below inside = absurd (omega (arith, below))
get_mini s (x ∷ ids) zero r below inside =
    let one = length-filled s (64 * x) 64 in
    let at : 64 * 0 + r ≡ r = omega arith in
    ap (λ k. get_or (mini_sector s x ++ mini_joined s ids) k 0) at
    ∙ get_or_append_left (mini_sector s x) (mini_joined s ids) 0 r (omega (arith, one, inside)) ∙ get_filled s (64 * x) 64 r inside
get_mini s (x ∷ ids) (suc q) r below inside =
    let one = length-filled s (64 * x) 64 in
    let at : 64 * suc q + r - length (mini_sector s x) ≡ 64 * q + r = omega (arith, one) in
    get_or-append_right (mini_sector s x) (mini_joined s ids) (64 * suc q + r) 0 (omega (arith, one))
    ∙ ap (λ k. get_or (mini_joined s ids) k 0) at ∙ get_mini s ids q r (omega (arith, below)) inside

-- a part of a mini stream is one of a mini chain
pub mini_part : (s ids : List ℕ) (position count place : ℕ) → position < 64 * length ids → count ≤ 64 - position % 64 → place ≡ 64 * get_or ids (position / 64) 0 + position % 64 → place + count ≤ length s
    → take count (drop place s) ≡ take count (drop position (mini_joined s ids))
mini_part s ids position count place inside few is there =
    let long = length-mini_joined s ids in
    let first : length (take count (drop place s)) ≡ count = let a = length-take count (drop place s) in let b = length-drop place s in omega (arith, a, b, there) in
    let second : length (take count (drop position (mini_joined s ids))) ≡ count = let a = length-take count (drop position (mini_joined s ids)) in let b = length-drop position (mini_joined s ids) in omega (arith, a, b, long, inside, few) in
    ext_get_or 0 _ _ (first ∙ sym second) (λ k below.
    let less : k < count = omega (arith, below, first) in
    let q = position / 64 in
    let r = position % 64 in
    let here : position + k ≡ 64 * q + (r + k) = omega arith in
    let at : place + k ≡ 64 * get_or ids q 0 + (r + k) = omega (arith, is) in
    get_or-take count (drop place s) k 0 less ∙ get_or-drop place s k 0 ∙ ap (λ n. get_or s n 0) at
    ∙ sym (get_mini s ids q (r + k) (omega (arith, inside)) (omega (arith, less, few)))
    ∙ ap (λ n. get_or (mini_joined s ids) n 0) (sym here)
    ∙ sym (get_or-take count (drop position (mini_joined s ids)) k 0 less ∙ get_or-drop position (mini_joined s ids) k 0))

module _ (s ids xs : List ℕ) (position place : ℕ) (once : AreDistinct ids) (inside : position < 64 * length ids) (few : length xs ≤ 64 - position % 64)
    (is : place ≡ 64 * get_or ids (position / 64) 0 + position % 64) (there : place + length xs ≤ length s) where
  -- the byte of a mini sector after a write in one of a chain
  byte_over : (q r : ℕ) → q < length ids → r < 64
      → get_or (overwritten s place xs) (64 * get_or ids q 0 + r) 0 ≡ get_or (overwritten (mini_joined s ids) position xs) (64 * q + r) 0
  byte_over q r below room =
      let i = position / 64 in
      let o = position % 64 in
      let n = get_or ids q 0 in
      let m = get_or ids i 0 in
      let old = get_mini s ids q r below room in
      ⊎_elim
      (λ same.
      let equal : n ≡ m = ap (λ k. get_or ids k 0) same.1 in
      ⊎_elim
      (λ behind. get_behind s place xs (64 * n + r) (omega (arith, behind.1, is, equal)) ∙ sym old ∙ sym (get_behind (mini_joined s ids) position xs (64 * q + r) (omega (arith, behind.1, same.1))))
      (λ front. ⊎_elim
      (λ after.
      let here : 64 * n + r ≡ place + (r - o) = omega (arith, after.1, is, equal) in
      let at : 64 * q + r ≡ position + (r - o) = omega (arith, after.1, same.1) in
      let within : r - o < length xs = omega (arith, front.1, after.1) in
      ap (λ k. get_or (overwritten s place xs) k 0) here ∙ get_written s place xs (r - o) within
      ∙ sym (ap (λ k. get_or (overwritten (mini_joined s ids) position xs) k 0) at ∙ get_written (mini_joined s ids) position xs (r - o) within))
      (λ before. get_before s place xs (64 * n + r) (omega (arith, before.1, is, equal)) ∙ sym old ∙ sym (get_before (mini_joined s ids) position xs (64 * q + r) (omega (arith, before.1, same.1))))
      (leb_tells o r))
      (leb_tells (o + length xs) r))
      (λ other.
      let differ : n ≡ m → ⊥ = λ equal. other.1 (once q i below (omega (arith, inside)) equal) in
      let stream : get_or (overwritten s place xs) (64 * n + r) 0 ≡ get_or s (64 * n + r) 0 =
      ⊎_elim (λ equal. absurd (differ equal.1)) (λ apart. ⊎_elim
      (λ le. get_before s place xs (64 * n + r) (omega (arith, le.1, apart.1, is, room)))
      (λ gt. get_behind s place xs (64 * n + r) (omega (arith, gt.1, is, few)))
      (leb_tells n m)) (eqb_tells n m) in
      let chain : get_or (overwritten (mini_joined s ids) position xs) (64 * q + r) 0 ≡ get_or (mini_joined s ids) (64 * q + r) 0 =
      ⊎_elim
      (λ le. get_before (mini_joined s ids) position xs (64 * q + r) (omega (arith, le.1, other.1, room)))
      (λ gt. get_behind (mini_joined s ids) position xs (64 * q + r) (omega (arith, gt.1, few)))
      (leb_tells q i) in
      stream ∙ sym old ∙ sym chain)
      (eqb_tells q i)

  -- what is written in one mini sector of a chain is written in the chain
  pub mini_overwritten : mini_joined (overwritten s place xs) ids ≡ overwritten (mini_joined s ids) position xs
  mini_overwritten =
      let long = length-mini_joined s ids in
      let fits : position + length xs ≤ length (mini_joined s ids) = omega (arith, long, inside, few) in
      let size = length-mini_joined (overwritten s place xs) ids in
      ext_get_or 0 _ _ (size ∙ sym (length_within (mini_joined s ids) xs position fits ∙ long)) (λ k below.
      let q = k / 64 in
      let r = k % 64 in
      let there_q : q < length ids = omega (arith, below, size) in
      let at : 64 * q + r ≡ k = omega arith in
      subst (λ n. get_or (mini_joined (overwritten s place xs) ids) n 0 ≡ get_or (overwritten (mini_joined s ids) position xs) n 0) at
      (get_mini (overwritten s place xs) ids q r there_q (omega arith) ∙ byte_over q r there_q (omega arith)))

-- a mini sector that isn't written stays
pub mini_beside : (s xs : List ℕ) (n m o place : ℕ) → (n ≡ m → ⊥) → place ≡ 64 * m + o → o + length xs ≤ 64 → mini_sector (overwritten s place xs) n ≡ mini_sector s n
mini_beside s xs n m o place differ is fits = beside s xs place (64 * n) 64 (⊎_elim
    (λ equal. absurd (differ equal.1))
    (λ apart. ⊎_elim (λ le. inl (omega (arith, le.1, apart.1, is))) (λ gt. inr (omega (arith, gt.1, is, fits))) (leb_tells n m))
    (eqb_tells n m))
