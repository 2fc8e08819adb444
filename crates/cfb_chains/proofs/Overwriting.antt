-- Parts of a file after a write: those beside it are as they were, and what was written is there.
use Rattle.std.proofs.Common.{◌≡◌, ℕ, ◌+◌, ◌-◌, ◌<◌, ◌≤◌, ◌⊎◌, List, [], ◌∷◌, ◌++◌, length, take, drop, replicate, get_or, refl, ap, sym, ◌∙◌, arith, append_assoc, ⊎_elim, length-take, length-drop, length-append}
use Rattle.std.proofs.Math.Seq.{get_or-append_right}
use Rattle.std.proofs.lemmas.List.{ext_get_or, get_or-drop, get_or-take, get_or_append_left, get_or-replicate, get_or_past, length-replicate}
use Rattle.std.proofs.lemmas.Bool.Decides.{leb_tells}
use Rattle.cfb_medium.specs.Bytes.{overwritten}
use Rattle.cfb_sectors.specs.Sectors.{filled_part}

-- the bytes in front of what was written, as many as lie before it
abbrev front : List ℕ → ℕ → List ℕ
front old at = take at old ++ replicate (at - length old) 0

length-front : (old : List ℕ) (at : ℕ) → length (front old at) ≡ at
length-front old at = simp (length-append, length-take, length-replicate) (omega arith)

get_front : (old : List ℕ) (at i : ℕ) → i < at → get_or (front old at) i 0 ≡ get_or old i 0
get_front old at i below = ⊎_elim
    (λ past. let size : length (take at old) ≡ length old = simp length-take (omega (arith, past.1)) in
    get_or-append_right (take at old) (replicate (at - length old) 0) i 0 (omega (arith, size, past.1))
    ∙ ap (λ k. get_or (replicate (at - length old) 0) (i - k) 0) size
    ∙ get_or-replicate (at - length old) (i - length old) 0 0 (omega (arith, past.1))
    ∙ sym (get_or_past old i 0 past.1))
    (λ here. get_or_append_left (take at old) (replicate (at - length old) 0) 0 i (simp length-take (omega (arith, here.1))) ∙ get_or-take at old i 0 below)
    (leb_tells (length old) i)

module _ (old : List ℕ) (at : ℕ) where
  parts : (x : ℕ) (xs : List ℕ) → overwritten old at (x ∷ xs) ≡ front old at ++ ((x ∷ xs) ++ drop (at + length (x ∷ xs)) old)
  parts x xs = append_assoc (front old at) (x ∷ xs) (drop (at + length (x ∷ xs)) old)

  -- byte by byte
  pub get_before : (xs : List ℕ) (i : ℕ) → i < at → get_or (overwritten old at xs) i 0 ≡ get_or old i 0
  get_before [] i below = refl
  get_before (x ∷ xs) i below =
      let size = length-front old at in
      ap (λ l. get_or l i 0) (parts x xs) ∙ get_or_append_left (front old at) _ 0 i (omega (arith, size)) ∙ get_front old at i below

  pub get_written : (xs : List ℕ) (i : ℕ) → i < length xs → get_or (overwritten old at xs) (at + i) 0 ≡ get_or xs i 0
  get_written [] i below = absurd (omega arith)
  get_written (x ∷ xs) i below =
      let size = length-front old at in
      let here : at + i - length (front old at) ≡ i = omega (arith, size) in
      ap (λ l. get_or l (at + i) 0) (parts x xs) ∙ get_or-append_right (front old at) ((x ∷ xs) ++ drop (at + length (x ∷ xs)) old) (at + i) 0 (omega (arith, size))
      ∙ ap (λ k. get_or ((x ∷ xs) ++ drop (at + length (x ∷ xs)) old) k 0) here ∙ get_or_append_left (x ∷ xs) _ 0 i below

  pub get_behind : (xs : List ℕ) (i : ℕ) → at + length xs ≤ i → get_or (overwritten old at xs) i 0 ≡ get_or old i 0
  get_behind [] i past = refl
  get_behind (x ∷ xs) i past =
      let size = length-front old at in
      let rest = drop (at + length (x ∷ xs)) old in
      let there : length (x ∷ xs) ≤ i - length (front old at) = omega (arith, size) in
      let sum : at + length (x ∷ xs) + (i - length (front old at) - length (x ∷ xs)) ≡ i = omega (arith, size, past) in
      ap (λ l. get_or l i 0) (parts x xs) ∙ get_or-append_right (front old at) ((x ∷ xs) ++ rest) i 0 (omega (arith, size, past))
      ∙ get_or-append_right (x ∷ xs) rest (i - length (front old at)) 0 there
      ∙ get_or-drop (at + length (x ∷ xs)) old (i - length (front old at) - length (x ∷ xs)) 0 ∙ ap (λ k. get_or old k 0) sum

length_over : (b : List ℕ) (x : ℕ) (xs : List ℕ) (at : ℕ) → length (overwritten b at (x ∷ xs)) ≡ at + (length (x ∷ xs) + (length b - (at + length (x ∷ xs))))
length_over b x xs at =
    let front_size = length-front b at in
    let rest_size = length-drop (at + length (x ∷ xs)) b in
    ap length (parts b at x xs) ∙ length-append (front b at) ((x ∷ xs) ++ drop (at + length (x ∷ xs)) b) ∙ ap (λ n. n + length ((x ∷ xs) ++ drop (at + length (x ∷ xs)) b)) front_size
    ∙ ap (λ n. at + n) (length-append (x ∷ xs) (drop (at + length (x ∷ xs)) b) ∙ ap (λ n. length (x ∷ xs) + n) rest_size)

-- nothing is cut off, and what is written is there
pub over_longer : (b xs : List ℕ) (at : ℕ) → length b ≤ length (overwritten b at xs)
over_longer b [] at = omega arith
over_longer b (x ∷ xs) at = let size = length_over b x xs at in omega (arith, size)

pub over_reaches : (b xs : List ℕ) (at : ℕ) → 0 < length xs → at + length xs ≤ length (overwritten b at xs)
over_reaches b [] at some = absurd (omega arith)
over_reaches b (x ∷ xs) at some = let size = length_over b x xs at in omega (arith, size)

pub length-filled : (b : List ℕ) (place n : ℕ) → length (filled_part b place n) ≡ n
length-filled b place n = simp (length-take, length-append, length-replicate) (omega arith)

pub get_filled : (b : List ℕ) (place n i : ℕ) → i < n → get_or (filled_part b place n) i 0 ≡ get_or b (place + i) 0
get_filled b place n i below = get_or-take n (drop place b ++ replicate n 0) i 0 below ∙ ⊎_elim
    (λ past. get_or-append_right (drop place b) (replicate n 0) i 0 past.1
    ∙ get_or-replicate n (i - length (drop place b)) 0 0 (omega arith)
    ∙ sym (get_or_past b (place + i) 0 (let size = length-drop place b in omega (arith, past.1, size))))
    (λ here. get_or_append_left (drop place b) (replicate n 0) 0 i here.1 ∙ get_or-drop place b i 0)
    (leb_tells (length (drop place b)) i)

-- a part beside what was written
pub beside : (b xs : List ℕ) (at place n : ℕ) → (place + n ≤ at) ⊎ (at + length xs ≤ place) → filled_part (overwritten b at xs) place n ≡ filled_part b place n
beside b xs at place n apart = ext_get_or 0 _ _ (length-filled (overwritten b at xs) place n ∙ sym (length-filled b place n)) (λ i below.
    let within : i < n = let size = length-filled (overwritten b at xs) place n in omega (arith, below, size) in
    get_filled (overwritten b at xs) place n i within
    ∙ ⊎_elim (λ before. get_before b at xs (place + i) (omega (arith, before))) (λ behind. get_behind b at xs (place + i) (omega (arith, behind))) apart
    ∙ sym (get_filled b place n i within))

-- what was written
pub written : (b xs : List ℕ) (at : ℕ) → filled_part (overwritten b at xs) at (length xs) ≡ xs
written b xs at = ext_get_or 0 _ _ (length-filled (overwritten b at xs) at (length xs)) (λ i below.
    let within : i < length xs = let size = length-filled (overwritten b at xs) at (length xs) in omega (arith, below, size) in
    get_filled (overwritten b at xs) at (length xs) i within ∙ get_written b at xs i within)
