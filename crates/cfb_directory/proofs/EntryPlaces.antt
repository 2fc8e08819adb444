-- Pieces of bytes, of which one is written over or some are appended.
use Rattle.std.proofs.Common.{◌≡◌, ℕ, ◌+◌, ◌-◌, ◌*◌, ◌/◌, ◌<◌, ◌≤◌, List, [], ◌∷◌, ◌++◌, map, length, take, drop, replicate, set, refl, ap, sym, ◌∙◌, arith, zero, suc, append_assoc, append-nil, length-append, length-take, length-drop}
use Rattle.std.proofs.lemmas.List.{drop-drop, length-map, take-append-drop, map-set, map-append}
use Rattle.std.proofs.Math.Seq.{set-append_seam, drop-append_seam, take-append_seam}
use Rattle.cfb_medium.specs.Bytes.{overwritten}
use Rattle.cfb_medium.specs.Numbers.{pieces, all_pieces}
use Rattle.cfb_medium.proofs.Pieces.{length-pieces}
use Rattle.cfb_sectors.specs.Copies.{copies}

-- the pieces of two lists, of which the first has whole ones
pub pieces_both : (size a b : ℕ) (us vs : List ℕ) → length us ≡ a * size → pieces size (a + b) (us ++ vs) ≡ pieces size a us ++ pieces size b vs
unfolding pieces
pieces_both size zero b [] vs long = ap (λ n. pieces size n vs) (omega arith)
pieces_both size zero b (u ∷ us) vs long = absurd (omega (arith, long))
pieces_both size (suc a) b us vs long =
    let fits : size ≤ length us = omega (arith, long) in
    let count : suc a + b ≡ suc (a + b) = omega arith in
    let rest : length (drop size us) ≡ a * size = simp length-drop (omega (arith, long)) in
    let parts : us ≡ take size us ++ drop size us = sym (take-append-drop size us) in
    let first : length (take size us) ≡ size = simp length-take (omega (arith, fits)) in
    let all : us ++ vs ≡ take size us ++ (drop size us ++ vs) = ap (λ l. l ++ vs) parts ∙ append_assoc (take size us) (drop size us) vs in
    let front : take size (us ++ vs) ≡ take size us = ap (take size) all ∙ ap (λ n. take n (take size us ++ (drop size us ++ vs))) (sym first) ∙ take-append_seam (take size us) (drop size us ++ vs) in
    let back : drop size (us ++ vs) ≡ drop size us ++ vs = ap (drop size) all ∙ ap (λ n. drop n (take size us ++ (drop size us ++ vs))) (sym first) ∙ drop-append_seam (take size us) (drop size us ++ vs) in
    ap (λ n. pieces size n (us ++ vs)) count
    ∙ ap (λ l. l ∷ pieces size (a + b) (drop size (us ++ vs))) front
    ∙ ap (λ l. take size us ∷ pieces size (a + b) l) back
    ∙ ap (λ l. take size us ∷ l) (pieces_both size a b (drop size us) vs rest)

pub one_piece : (size : ℕ) (xs : List ℕ) → length xs ≡ size → pieces size 1 xs ≡ xs ∷ []
unfolding pieces
one_piece size xs long = ap (λ l. l ∷ []) (ap (λ n. take n xs) (sym long) ∙ ap (take (length xs)) (sym (append-nil xs)) ∙ take-append_seam xs [])

-- what is written within a list
pub over_within : (old xs : List ℕ) (at : ℕ) → at + length xs ≤ length old → overwritten old at xs ≡ take at old ++ (xs ++ drop (at + length xs) old)
over_within old [] at within =
    let same : at + 0 ≡ at = omega arith in
    sym (ap (λ n. take at old ++ drop n old) same ∙ take-append-drop at old)
over_within old (x ∷ xs) at within =
    let none : at - length old ≡ 0 = omega (arith, within) in
    ap (λ n. take at old ++ replicate n 0 ++ (x ∷ xs) ++ drop (at + length (x ∷ xs)) old) none
    ∙ ap (λ l. l ++ (x ∷ xs) ++ drop (at + length (x ∷ xs)) old) (append-nil (take at old))
    ∙ append_assoc (take at old) (x ∷ xs) (drop (at + length (x ∷ xs)) old)

-- one of the pieces is written over
pub piece_written : (size i rest : ℕ) (old xs : List ℕ) → length xs ≡ size → (i + (1 + rest)) * size ≤ length old
    → pieces size (i + (1 + rest)) (overwritten old (i * size) xs) ≡ set (pieces size (i + (1 + rest)) old) i xs
piece_written size i rest old xs long within =
    let at = i * size in
    let front = take at old in
    let tail = drop at old in
    let fits : at + length xs ≤ length old = omega (arith, long, within) in
    let front_long : length front ≡ at = simp length-take (omega (arith, fits)) in
    let piece = take size tail in
    let piece_long : length piece ≡ 1 * size = simp (length-take, length-drop) (omega (arith, fits, long)) in
    let piece_size : length piece ≡ size = omega (arith, piece_long) in
    let xs_long : length xs ≡ 1 * size = omega (arith, long) in
    let behind : drop (at + length xs) old ≡ drop size tail = ap (λ n. drop n old) (omega (arith, long)) ∙ sym (drop-drop size at old) in
    let was : pieces size (i + (1 + rest)) old ≡ pieces size i front ++ (piece ∷ pieces size rest (drop size tail)) =
    ap (pieces size (i + (1 + rest))) (sym (take-append-drop at old) ∙ ap (λ l. front ++ l) (sym (take-append-drop size tail)))
    ∙ pieces_both size i (1 + rest) front (piece ++ drop size tail) front_long
    ∙ ap (λ l. pieces size i front ++ l) (pieces_both size 1 rest piece (drop size tail) piece_long ∙ ap (λ l. l ++ pieces size rest (drop size tail)) (one_piece size piece piece_size)) in
    let now : pieces size (i + (1 + rest)) (overwritten old at xs) ≡ pieces size i front ++ (xs ∷ pieces size rest (drop size tail)) =
    ap (pieces size (i + (1 + rest))) (over_within old xs at fits ∙ ap (λ l. front ++ (xs ++ l)) behind)
    ∙ pieces_both size i (1 + rest) front (xs ++ drop size tail) front_long
    ∙ ap (λ l. pieces size i front ++ l) (pieces_both size 1 rest xs (drop size tail) xs_long ∙ ap (λ l. l ++ pieces size rest (drop size tail)) (one_piece size xs long)) in
    now ∙ sym (ap (λ l. set l i xs) was
    ∙ ap (λ n. set (pieces size i front ++ (piece ∷ pieces size rest (drop size tail))) n xs) (sym (length-pieces size i front))
    ∙ set-append_seam (pieces size i front) piece (pieces size rest (drop size tail)) xs)

pub length_over : (old xs : List ℕ) (at : ℕ) → at + length xs ≤ length old → length (overwritten old at xs) ≡ length old
length_over old xs at within =
    ap length (over_within old xs at within) ∙ (let front = length-append (take at old) (xs ++ drop (at + length xs) old) in
    let back = length-append xs (drop (at + length xs) old) in
    let first = length-take at old in
    let last = length-drop (at + length xs) old in
    omega (arith, front, back, first, last, within))

module _ {B : Type 0} (read : List ℕ → B) where
  -- what is read of each piece of 128 bytes
  unfoldable pub each : List ℕ → List B
  each bytes = map read (all_pieces 128 bytes)

  each_is : (count : ℕ) (bytes : List ℕ) → length bytes ≡ count * 128 → each bytes ≡ map read (pieces 128 count bytes)
  unfolding each all_pieces
  each_is count bytes long =
      let whole : length bytes / 128 ≡ count = omega (arith, long) in
      ap (λ n. map read (pieces 128 n bytes)) whole

  pub length-each : (count : ℕ) (bytes : List ℕ) → length bytes ≡ count * 128 → length (each bytes) ≡ count
  length-each count bytes long = ap length (each_is count bytes long) ∙ length-map (pieces 128 count bytes) read ∙ length-pieces 128 count bytes

  pub one_written : (count id at : ℕ) (old xs : List ℕ) → length old ≡ count * 128 → id < count → length xs ≡ 128 → at ≡ id * 128 → each (overwritten old at xs) ≡ set (each old) id (read xs)
  one_written count id at old xs long below fits place =
      let rest : id + (1 + (count - id - 1)) ≡ count = omega (arith, below) in
      let within : (id + (1 + (count - id - 1))) * 128 ≤ length old = omega (arith, long, below) in
      let room : at + length xs ≤ length old = omega (arith, long, below, fits, place) in
      each_is count (overwritten old at xs) (length_over old xs at room ∙ long)
      ∙ ap (λ n. map read (pieces 128 count (overwritten old n xs))) place
      ∙ ap (λ n. map read (pieces 128 n (overwritten old (id * 128) xs))) (sym rest)
      ∙ ap (map read) (piece_written 128 id (count - id - 1) old xs fits within)
      ∙ ap (λ n. map read (set (pieces 128 n old) id xs)) rest
      ∙ map-set read (pieces 128 count old) id xs
      ∙ ap (λ l. set l id (read xs)) (sym (each_is count old long))

  pub more_behind : (a b : ℕ) (us vs : List ℕ) → length us ≡ a * 128 → length vs ≡ b * 128 → each (us ++ vs) ≡ each us ++ each vs
  more_behind a b us vs first second =
      let both : length (us ++ vs) ≡ (a + b) * 128 = length-append us vs ∙ omega (arith, first, second) in
      each_is (a + b) (us ++ vs) both ∙ ap (map read) (pieces_both 128 a b us vs first) ∙ map-append read (pieces 128 a us) (pieces 128 b vs)
      ∙ ap (λ l. l ++ map read (pieces 128 b vs)) (sym (each_is a us first)) ∙ ap (λ l. each us ++ l) (sym (each_is b vs second))

  -- copies of one piece
  pub each_copy : (n : ℕ) (xs : List ℕ) → length xs ≡ 128 → each (copies n xs) ≡ replicate n (read xs)
  unfolding pieces
  each_copy zero xs fits = each_is 0 [] refl
  each_copy (suc n) xs fits =
      more_behind 1 n xs (copies n xs) (omega (arith, fits)) (length-copies n xs fits)
      ∙ ap (λ l. l ++ each (copies n xs)) (each_is 1 xs (omega (arith, fits)) ∙ ap (map read) (one_piece 128 xs fits))
      ∙ ap (λ l. read xs ∷ l) (each_copy n xs fits)
    where
      length-copies : (n : ℕ) (xs : List ℕ) → length xs ≡ 128 → length (copies n xs) ≡ n * 128
      length-copies zero xs fits = refl
      length-copies (suc n) xs fits = let more = length-copies n xs fits in length-append xs (copies n xs) ∙ omega (arith, fits, more)
