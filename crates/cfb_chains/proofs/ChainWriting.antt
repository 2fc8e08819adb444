-- A write in one sector of a chain is that write in the chain's bytes.
use Rattle.std.proofs.Common.{◌≡◌, ℕ, inl, inr, ◌+◌, ◌-◌, ◌*◌, ◌/◌, ◌%◌, ◌<◌, ◌≤◌, ◌⊎◌, List, [], ◌∷◌, ◌++◌, length, take, drop, replicate, get_or, suc, refl, sym, ap, subst, ◌∙◌, arith, ⊎_elim, length-take, length-append, length-drop}
use Rattle.std.proofs.lemmas.List.{ext_get_or, get_or-drop, get_or-take, length-replicate, take-replicate}
use Rattle.std.proofs.lemmas.Bool.Decides.{eqb_tells, leb_tells}
use Rattle.cfb_medium.specs.Bytes.{overwritten}
use Rattle.cfb_medium.specs.declared.version.Version.{Version}
use Rattle.cfb_medium.specs.declared.version.Version.TheVariants.{V3, V4}
use Rattle.cfb_medium.specs.Versions.{sector_len}
use Rattle.cfb_sectors.specs.Sectors.{joined, sector, sector_start}
use Rattle.cfb_sectors.proofs.Counts.{longest}
use Rattle.cfb_chains.specs.Changes.{AreDistinct}
use Rattle.cfb_chains.specs.Positions.{left_in, place_in, tail_in}
use Rattle.cfb_chains.proofs.ChainParts.{chain_part}
use Rattle.cfb_chains.proofs.Overwriting.{get_before, get_behind, get_filled, get_written}

-- a position is an index of a sector and an offset in it
pub split : (v : Version) (k : ℕ) → (k / sector_len v * sector_len v + k % sector_len v ≡ k) × (k % sector_len v < sector_len v)
split V3 k = (omega arith, omega arith)
split V4 k = (omega arith, omega arith)

pub split_below : (v : Version) (k n : ℕ) → k < n * sector_len v → k / sector_len v < n
split_below V3 k n below = omega arith
split_below V4 k n below = omega arith

earlier : (v : Version) (i o q r : ℕ) → q < i → r < sector_len v → q * sector_len v + r < i * sector_len v + o
earlier V3 i o q r before inside = omega arith
earlier V4 i o q r before inside = omega arith

later : (v : Version) (i o q r m : ℕ) → i < q → o + m ≤ sector_len v → i * sector_len v + o + m ≤ q * sector_len v + r
later V3 i o q r m behind fits = omega arith
later V4 i o q r m behind fits = omega arith

pub length-joined : (v : Version) (b ids : List ℕ) → length (joined v b ids) ≡ length ids * sector_len v
length-joined v b [] = omega arith
length-joined v b (x ∷ ids) =
    let size : length (sector v b x) ≡ sector_len v = simp (length-take, length-append, length-replicate) (omega arith) in
    let rest = length-joined v b ids in
    sum (sector_len v) (length (sector v b x)) (length (joined v b ids)) (length ids) (length-append (sector v b x) (joined v b ids)) size rest
  where
    sum : (len s j n : ℕ) → length (sector v b x ++ joined v b ids) ≡ s + j → s ≡ len → j ≡ n * len → length (sector v b x ++ joined v b ids) ≡ suc n * len
    sum len s j n e f h = omega arith

-- a byte of the chain is one of the file
pub get_joined : (v : Version) (b ids : List ℕ) (q r : ℕ) → q < length ids → r < sector_len v
    → get_or (joined v b ids) (q * sector_len v + r) 0 ≡ get_or b (sector_start v (get_or ids q 0) + r) 0
get_joined v b ids q r below inside =
    let place = sector_start v (get_or ids q 0) + r in
    let k = q * sector_len v + r in
    let same_k : k + 0 ≡ k = omega arith in
    let same_place : place + 0 ≡ place = omega arith in
    let one : 0 < 1 = omega arith in
    ap (λ n. get_or (joined v b ids) n 0) (sym same_k) ∙ sym (get_or-drop k (joined v b ids) 0 0)
    ∙ sym (get_or-take 1 (drop k (joined v b ids)) 0 0 one)
    ∙ ap (λ l. get_or l 0 0) (sym (chain_part v b ids q r 1 below (omega arith)))
    ∙ get_filled b place 1 0 one ∙ ap (λ n. get_or b n 0) same_place

-- the length of what was written over within
pub length_within : (b xs : List ℕ) (at : ℕ) → at + length xs ≤ length b → length (overwritten b at xs) ≡ length b
length_within b [] at within = refl
length_within b (x ∷ xs) at within = simp (length-append, length-take, length-drop, length-replicate) (omega arith)

-- bytes beside what was written
aside : (b xs : List ℕ) (at k : ℕ) → (k < at) ⊎ (at + length xs ≤ k) → get_or (overwritten b at xs) k 0 ≡ get_or b k 0
aside b xs at k apart = ⊎_elim (λ before. get_before b at xs k before) (λ behind. get_behind b at xs k behind) apart

module _ (v : Version) (b ids xs : List ℕ) (i o : ℕ) (below : i < length ids) (fits : o + length xs ≤ sector_len v) (once : AreDistinct ids) where
  abbrev at : ℕ
  at = sector_start v (get_or ids i 0) + o

  abbrev p : ℕ
  p = i * sector_len v + o

  -- in the same sector
  same_sector : (r : ℕ) → r < sector_len v
      → get_or (joined v (overwritten b at xs) ids) (i * sector_len v + r) 0 ≡ get_or (overwritten (joined v b ids) p xs) (i * sector_len v + r) 0
  same_sector r inside =
      let start = sector_start v (get_or ids i 0) in
      let base = i * sector_len v in
      get_joined v (overwritten b at xs) ids i r below inside
      ∙ ⊎_elim
      (λ behind. aside b xs at (start + r) (inr (omega (arith, behind.1))) ∙ sym (aside (joined v b ids) xs p (base + r) (inr (omega (arith, behind.1))) ∙ get_joined v b ids i r below inside))
      (λ in_front. ⊎_elim
      (λ after.
      let here : start + r ≡ at + (r - o) = omega (arith, after.1) in
      let there : base + r ≡ p + (r - o) = omega (arith, after.1) in
      let within : r - o < length xs = omega (arith, in_front.1, after.1) in
      ap (λ k. get_or (overwritten b at xs) k 0) here ∙ get_written b at xs (r - o) within
      ∙ sym (ap (λ k. get_or (overwritten (joined v b ids) p xs) k 0) there ∙ get_written (joined v b ids) p xs (r - o) within))
      (λ before. aside b xs at (start + r) (inl (omega (arith, before.1))) ∙ sym (aside (joined v b ids) xs p (base + r) (inl (omega (arith, before.1))) ∙ get_joined v b ids i r below inside))
      (leb_tells o r))
      (leb_tells (o + length xs) r)

  -- in another sector
  other_sector : (q r : ℕ) → q < length ids → r < sector_len v → (q ≡ i → ⊥)
      → get_or (joined v (overwritten b at xs) ids) (q * sector_len v + r) 0 ≡ get_or (overwritten (joined v b ids) p xs) (q * sector_len v + r) 0
  other_sector q r there inside differs =
      let x = get_or ids q 0 in
      let y = get_or ids i 0 in
      let file : (sector_start v x + r < at) ⊎ (at + length xs ≤ sector_start v x + r) =
      ⊎_elim (λ same. absurd (differs (once q i there below same.1)))
      (λ other. ⊎_elim (λ le. inl (earlier v (y + 1) o (x + 1) r (omega (arith, le.1, other.1)) inside)) (λ gt. inr (later v (y + 1) o (x + 1) r (length xs) (omega (arith, gt.1)) fits)) (leb_tells x y))
      (eqb_tells x y) in
      let chain : (q * sector_len v + r < p) ⊎ (p + length xs ≤ q * sector_len v + r) =
      ⊎_elim (λ le. inl (earlier v i o q r (strict q i le.1 differs) inside)) (λ gt. inr (later v i o q r (length xs) (omega (arith, gt.1)) fits)) (leb_tells q i) in
      get_joined v (overwritten b at xs) ids q r there inside ∙ aside b xs at (sector_start v x + r) file
      ∙ sym (aside (joined v b ids) xs p (q * sector_len v + r) chain ∙ get_joined v b ids q r there inside)
    where
      strict : (q i : ℕ) → q ≤ i → (q ≡ i → ⊥) → q < i
      strict q i le differs = ⊎_elim (λ same. absurd (differs same.1)) (λ other. omega (arith, le, other.1)) (eqb_tells q i)

  pub joined_overwritten : joined v (overwritten b at xs) ids ≡ overwritten (joined v b ids) p xs
  joined_overwritten = ext_get_or 0 _ _ (length-joined v (overwritten b at xs) ids ∙ sym (length_within (joined v b ids) xs p within ∙ length-joined v b ids)) (λ k k_below.
      let parts = split v k in
      let q = k / sector_len v in
      let there : q < length ids = split_below v k (length ids) (subst (λ n. k < n) (length-joined v (overwritten b at xs) ids) k_below) in
      subst (λ n. get_or (joined v (overwritten b at xs) ids) n 0 ≡ get_or (overwritten (joined v b ids) p xs) n 0) parts.0
      (⊎_elim
      (λ same. subst (λ s. get_or (joined v (overwritten b at xs) ids) (s * sector_len v + k % sector_len v) 0 ≡ get_or (overwritten (joined v b ids) p xs) (s * sector_len v + k % sector_len v) 0) (sym same.1) (same_sector (k % sector_len v) parts.1))
      (λ other. other_sector q (k % sector_len v) there parts.1 other.1)
      (eqb_tells q i)))
    where
      within : p + length xs ≤ length (joined v b ids)
      within = subst (λ n. p + length xs ≤ n) (sym (length-joined v b ids)) (room v i o (length ids) (length xs) below fits)
        where
          room : (u : Version) (i o n m : ℕ) → i < n → o + m ≤ sector_len u → i * sector_len u + o + m ≤ n * sector_len u
          room V3 i o n m below fits = omega arith
          room V4 i o n m below fits = omega arith

-- what was written in the sector at a position
pub written_at : (v : Version) (b after ids xs : List ℕ) (position place : ℕ) → position < length ids * sector_len v → length xs ≤ left_in v position → AreDistinct ids
    → place ≡ place_in v ids position → after ≡ overwritten b place xs → joined v after ids ≡ overwritten (joined v b ids) position xs
written_at v b after ids xs position place inside fits once at is =
    let parts = split v position in
    let room : position % sector_len v + length xs ≤ sector_len v = omega (arith, parts.1, fits) in
    ap (λ l. joined v l ids) (is ∙ ap (λ p. overwritten b p xs) at)
    ∙ joined_overwritten v b ids xs (position / sector_len v) (position % sector_len v) (split_below v position (length ids) inside) room once
    ∙ ap (λ p. overwritten (joined v b ids) p xs) parts.0

-- where a sector ends within there is a tail, else none
pub tail_left : (v : Version) (len : ℕ) → (len % sector_len v ≡ 0 → ⊥) → tail_in v len ≡ left_in v len
tail_left V3 len some = omega arith
tail_left V4 len some = omega arith

pub inside_yet : (v : Version) (len n : ℕ) → len ≤ n * sector_len v → (len % sector_len v ≡ 0 → ⊥) → len < n * sector_len v
inside_yet V3 len n most some = omega arith
inside_yet V4 len n most some = omega arith

pub zeros_there : (v : Version) (len left : ℕ) → left ≡ left_in v len → (len % sector_len v ≡ 0 → ⊥) → take {A = ℕ} left (replicate 4096 0) ≡ replicate (tail_in v len) 0
zeros_there v len left is some =
    let few = longest v in
    take-replicate left 4096 0 (omega (arith, is, few)) ∙ ap (λ n. replicate n 0) (is ∙ sym (tail_left v len some))
