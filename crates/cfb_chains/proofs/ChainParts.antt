-- A part of a chain's bytes lies in one sector.
use Rattle.std.proofs.Common.{◌≡◌, ℕ, ◌+◌, ◌-◌, ◌*◌, ◌<◌, ◌≤◌, List, [], ◌∷◌, ◌++◌, length, take, drop, replicate, get_or, zero, suc, refl, sym, ap, ◌∙◌, arith, length-take, length-drop, length-append}
use Rattle.std.proofs.lemmas.List.{take-append-le, take-replicate, take-take, drop-append-le, drop-replicate, drop-take, length-replicate, drop-drop}
use Rattle.std.proofs.Math.Seq.{drop-append-add, take-append_seam}
use Rattle.cfb_medium.specs.declared.version.Version.{Version}
use Rattle.cfb_medium.specs.Versions.{sector_len}
use Rattle.cfb_sectors.specs.Sectors.{filled_part, joined, sector, sector_start}

-- zeros behind a list, as many as are wanted
enough : (n m : ℕ) (d : List ℕ) → n ≤ m → take n (d ++ replicate m 0) ≡ take n (d ++ replicate n 0)
enough n m [] fits = take-replicate n m 0 fits ∙ sym (take-replicate n n 0 (omega arith))
enough zero m (x ∷ d) fits = refl
enough (suc n) m (x ∷ d) fits =
    ap (λ l. x ∷ l) (enough n m d (omega arith) ∙ sym (enough n (suc n) d (omega arith)))

padded : (o n len : ℕ) (d : List ℕ) → o + n ≤ len → take n (drop o (d ++ replicate len 0)) ≡ take n (drop o d ++ replicate n 0)
padded zero n len d fits = enough n len d (omega arith)
padded (suc o) n len [] fits =
    ap (take n) (drop-replicate (suc o) len 0) ∙ take-replicate n (len - suc o) 0 (omega arith) ∙ sym (take-replicate n n 0 (omega arith))
padded (suc o) n len (x ∷ d) fits = padded o n len d (omega arith)

-- a part of what was cut
cut : (o n len : ℕ) (xs : List ℕ) → o + n ≤ len → take n (drop o (take len xs)) ≡ take n (drop o xs)
cut o n len xs fits =
    let whole : len ≡ o + (len - o) = omega arith in
    let fewer : n ≤ len - o = omega arith in
    ap (λ k. take n (drop o (take k xs))) whole ∙ ap (take n) (drop-take o (len - o) xs) ∙ take-take n (len - o) (drop o xs) fewer

module _ (v : Version) (bytes : List ℕ) where
  length-sector : (x : ℕ) → length (sector v bytes x) ≡ sector_len v
  length-sector x = simp (length-take, length-append, length-replicate) (omega arith)

  in_sector : (x o n : ℕ) → o + n ≤ sector_len v → filled_part bytes (sector_start v x + o) n ≡ take n (drop o (sector v bytes x))
  in_sector x o n fits =
      sym (cut o n (sector_len v) (drop (sector_start v x) bytes ++ replicate (sector_len v) 0) fits
      ∙ padded o n (sector_len v) (drop (sector_start v x) bytes) fits
      ∙ ap (λ l. take n (l ++ replicate n 0)) (drop-drop o (sector_start v x) bytes ∙ ap (λ k. drop k bytes) (omega arith)))

  -- a part of one sector is that part of the chain
  pub chain_part : (ids : List ℕ) (i o n : ℕ) → i < length ids → o + n ≤ sector_len v
      → filled_part bytes (sector_start v (get_or ids i 0) + o) n ≡ take n (drop (i * sector_len v + o) (joined v bytes ids))
  chain_part [] i o n below fits = absurd (omega arith)
  chain_part (x ∷ ids) zero o n below fits =
      let s = sector v bytes x in
      let first : 0 * sector_len v + o ≡ o = omega arith in
      let long = length-sector x in
      let room : o ≤ length s = omega (arith, long) in
      let rest : n ≤ length (drop o s) = simp length-drop (omega (arith, long)) in
      in_sector x o n fits
      ∙ sym (ap (λ k. take n (drop k (s ++ joined v bytes ids))) first ∙ ap (take n) (drop-append-le o s (joined v bytes ids) room)
      ∙ take-append-le n (drop o s) (joined v bytes ids) rest)
  chain_part (x ∷ ids) (suc i) o n below fits =
      let s = sector v bytes x in
      let more : suc i * sector_len v + o ≡ length s + (i * sector_len v + o) = after (sector_len v) (length s) i o (length-sector x) in
      chain_part ids i o n (omega arith) fits
      ∙ sym (ap (λ k. take n (drop k (s ++ joined v bytes ids))) more ∙ ap (take n) (drop-append-add s (joined v bytes ids) (i * sector_len v + o)))
    where
      after : (len whole i o : ℕ) → whole ≡ len → suc i * len + o ≡ whole + (i * len + o)
      after len whole i o e = omega arith

-- what was read of one sector is that part of the chain
pub part_read : (v : Version) (bytes ids buffer rest : List ℕ) (i o n k place position : ℕ) → i < length ids → o + n ≤ sector_len v → k ≡ n → place ≡ sector_start v (get_or ids i 0) + o
    → i * sector_len v + o ≡ position → buffer ≡ filled_part bytes place k → take n (buffer ++ rest) ≡ take n (drop position (joined v bytes ids))
part_read v bytes ids buffer rest i o n k place position below fits same at whole is =
    let here : buffer ≡ filled_part bytes (sector_start v (get_or ids i 0) + o) n = is ∙ ap (λ p. filled_part bytes p k) at ∙ ap (filled_part bytes (sector_start v (get_or ids i 0) + o)) same in
    let part = chain_part v bytes ids i o n below fits in
    let long : length buffer ≡ n = ap length here ∙ simp (length-take, length-append, length-replicate) (omega arith) in
    let front : take n (buffer ++ rest) ≡ buffer = ap (λ k. take k (buffer ++ rest)) (sym long) ∙ take-append_seam buffer rest in
    front ∙ here ∙ part ∙ ap (λ p. take n (drop p (joined v bytes ids))) whole
