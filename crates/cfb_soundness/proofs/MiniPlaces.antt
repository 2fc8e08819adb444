-- Where sectors and mini sectors stand in a file.
use Rattle.std.proofs.Common.{◌≡◌, ℕ, ◌+◌, ◌-◌, ◌*◌, ◌/◌, ◌%◌, ◌<◌, ◌≤◌, List, [], ◌∷◌, ◌++◌, length, map, take, drop, get_or, zero, suc, refl, ap, sym, subst, ◌∙◌, arith, length-append, length-take, length-drop}
use Rattle.std.specs.Prelude.{slice_index, slice_range}
use Rattle.std.specs.List.{range_with_len}
use Rattle.std.proofs.Math.Seq.{get_or-append_right}
use Rattle.std.proofs.lemmas.List.{ext_get_or, get_or_append_left, get_or-drop, get_or-take}
use Rattle.std.proofs.lemmas.List.FromFn.{get_or-range_with_len, length-range_with_len}
use Rattle.cfb_medium.specs.Versions.{sector_len}
use Rattle.cfb_medium.specs.declared.version.Version.{Version}
use Rattle.cfb_medium.specs.declared.version.Version.TheVariants.{V3, V4}
use Rattle.cfb_sectors.specs.Sectors.{places, sector_start}
use Rattle.cfb_soundness.specs.Places.{places_of}

pub sector_places : (v : Version) (ids : List ℕ) → places v ids ≡ places_of (sector_len v) (map (sector_start v) ids)
sector_places v [] = refl
sector_places v (x ∷ ids) = ap (λ xs. range_with_len (sector_start v x) (sector_len v) ++ xs) (sector_places v ids)

module _ (piece : ℕ) where
  length-places_of : (starts : List ℕ) → length (places_of piece starts) ≡ length starts * piece
  length-places_of [] = omega arith
  length-places_of (s ∷ starts) =
      omega (arith, length-append (range_with_len s piece) (places_of piece starts), length-range_with_len s piece, length-places_of starts)

  -- the place of a byte of these pieces
  get_place : (starts : List ℕ) (q r : ℕ) → q < length starts → r < piece → get_or (places_of piece starts) (piece * q + r) 0 ≡ get_or starts q 0 + r
  get_place [] q r below inside = absurd (omega (arith, below))
  get_place (s ∷ starts) zero r below inside =
      let long = length-range_with_len s piece in
      let at : piece * 0 + r ≡ r = omega arith in
      ap (λ k. get_or (range_with_len s piece ++ places_of piece starts) k 0) at
      ∙ get_or_append_left (range_with_len s piece) (places_of piece starts) 0 r (omega (arith, long, inside)) ∙ get_or-range_with_len s piece r 0 inside
  get_place (s ∷ starts) (suc q) r below inside =
      let long = length-range_with_len s piece in
      let at : piece * suc q + r - length (range_with_len s piece) ≡ piece * q + r = omega (arith, long) in
      get_or-append_right (range_with_len s piece) (places_of piece starts) (piece * suc q + r) 0 (omega (arith, long))
      ∙ ap (λ k. get_or (places_of piece starts) k 0) at ∙ get_place starts q r (omega (arith, below)) inside

  -- a part of one piece
  part_of_piece : (starts : List ℕ) (q r count at : ℕ) → at ≡ piece * q + r → q < length starts → r + count ≤ piece
      → slice_range (places_of piece starts) at (at + count) ≡ range_with_len (get_or starts q 0 + r) count
  part_of_piece starts q r count at is below fits =
      let all = places_of piece starts in
      let long = length-places_of starts in
      let room : piece * suc q ≤ length starts * piece = room_for q (length starts) below in
      let few : at + count - at ≡ count = omega arith in
      let first : length (take count (drop at all)) ≡ count = omega (arith, length-take count (drop at all), length-drop at all, long, is, fits, room) in
      ap (λ k. take k (drop at all)) few
      ∙ ext_get_or 0 (take count (drop at all)) (range_with_len (get_or starts q 0 + r) count) (first ∙ sym (length-range_with_len (get_or starts q 0 + r) count)) (λ k inside.
      let less : k < count = omega (arith, inside, first) in
      let here : at + k ≡ piece * q + (r + k) = omega (arith, is) in
      get_or-take count (drop at all) k 0 less ∙ get_or-drop at all k 0 ∙ ap (λ j. get_or all j 0) here
      ∙ get_place starts q (r + k) below (omega (arith, less, fits)) ∙ sum (get_or starts q 0) k
      ∙ sym (get_or-range_with_len (get_or starts q 0 + r) count k 0 less))
    where
      room_for : (q n : ℕ) → q < n → piece * suc q ≤ n * piece
      room_for q n below = grind arith

      sum : (s k : ℕ) → s + (r + k) ≡ (s + r) + k
      sum s k = omega arith

get_mapped : (v : Version) (ids : List ℕ) (q : ℕ) → q < length ids → get_or (map (sector_start v) ids) q 0 ≡ sector_start v (get_or ids q 0)
get_mapped v [] q below = absurd (omega (arith, below))
get_mapped v (x ∷ ids) zero below = refl
get_mapped v (x ∷ ids) (suc q) below = get_mapped v ids q (omega (arith, below))

length-mapped : (v : Version) (ids : List ℕ) → length (map (sector_start v) ids) ≡ length ids
length-mapped v [] = refl
length-mapped v (x ∷ ids) = ap suc (length-mapped v ids)

-- a mini sector stands whole in one sector of the mini stream
pub mini_place : (v : Version) (stream : List ℕ) (n : ℕ) → 64 * n + 64 ≤ length stream * sector_len v
    → slice_range (places v stream) (64 * n) (64 * n + 64) ≡ range_with_len (sector_start v (slice_index stream (64 * n / sector_len v)) + 64 * n % sector_len v) 64
mini_place v stream n inside =
    ap (λ xs. slice_range xs (64 * n) (64 * n + 64)) (sector_places v stream)
    ∙ part_of_piece (sector_len v) (map (sector_start v) stream) (64 * n / sector_len v) (64 * n % sector_len v) 64 (64 * n) (at v) (subst (λ k. 64 * n / sector_len v < k) (sym (length-mapped v stream)) (below v inside)) (fits v)
    ∙ ap (λ s. range_with_len (s + 64 * n % sector_len v) 64) (get_mapped v stream (64 * n / sector_len v) (below v inside))
  where
    at : (v : Version) → 64 * n ≡ sector_len v * (64 * n / sector_len v) + 64 * n % sector_len v
    at V3 = omega arith
    at V4 = omega arith

    below : (v : Version) → 64 * n + 64 ≤ length stream * sector_len v → 64 * n / sector_len v < length stream
    below V3 inside = omega (arith, inside)
    below V4 inside = omega (arith, inside)

    fits : (v : Version) → 64 * n % sector_len v + 64 ≤ sector_len v
    fits V3 = omega arith
    fits V4 = omega arith
