-- Bytes that stand in pieces of a file.
use Rattle.std.proofs.Common.{◌≡◌, ℕ, ◌+◌, ◌-◌, ◌<◌, ◌≤◌, min, List, ◌∷◌, ◌++◌, take, zero, suc, refl, sym, ap, subst, arith}
use Rattle.std.specs.List.{range_with_len, AllByRecursion}
use Rattle.cfb_tree.proofs.NamesRead.{all_append}
use Rattle.cfb_soundness.specs.Places.{places_of, StandInFile}
use Rattle.cfb_soundness.proofs.Taking.{all_front}

-- so many places from one on are below an end where they don't reach over it
pub range_below : (s n end : ℕ) → n ≤ end - s → AllByRecursion (λ place. place < end) (range_with_len s n)
range_below s zero end fits = tt
range_below s (suc n) end fits = (omega (arith, fits), range_below (s + 1) n end (omega (arith, fits)))

pub range_fits : (s n end : ℕ) → AllByRecursion (λ place. place < end) (range_with_len s n) → n ≤ end - s
range_fits s zero end all = omega arith
range_fits s (suc n) end all = omega (arith, all.0, range_fits (s + 1) n end all.1)

take_by : (n m k s piece : ℕ) (rest : List ℕ) → m ≡ min n piece → k ≡ n - piece → take n (range_with_len s piece ++ rest) ≡ range_with_len s m ++ take k rest
take_by zero zero zero s zero rest least over = refl
take_by zero zero zero s (suc piece) rest least over = refl
take_by zero (suc m) k s piece rest least over = absurd (omega (arith, least))
take_by zero zero (suc k) s piece rest least over = absurd (omega (arith, over))
take_by (suc n) zero k s zero rest least over = let all : suc n ≡ k = omega (arith, over) in ap (λ j. take j rest) all
take_by (suc n) (suc m) k s zero rest least over = absurd (omega (arith, least))
take_by (suc n) zero k s (suc piece) rest least over = absurd (omega (arith, least))
take_by (suc n) (suc m) k s (suc piece) rest least over = ap (λ xs. s ∷ xs) (take_by n m k (s + 1) piece rest (omega (arith, least)) (omega (arith, over)))

take_range : (n s piece : ℕ) (rest : List ℕ) → take n (range_with_len s piece ++ rest) ≡ range_with_len s (min n piece) ++ take (n - piece) rest
take_range n s piece rest = take_by n (min n piece) (n - piece) s piece rest refl refl

module _ (piece size end start : ℕ) (starts : List ℕ) where
  -- what stands in one piece, and in those behind it
  pub stand_more : min size piece ≤ end - start → StandInFile piece starts (size - min size piece) end → StandInFile piece (start ∷ starts) size end
  stand_more here rest = subst (AllByRecursion (λ place. place < end)) (sym (take_range size start piece (places_of piece starts)))
      (all_append (λ place. place < end) (range_with_len start (min size piece)) (take (size - piece) (places_of piece starts))
      (range_below start (min size piece) end here)
      (subst (λ n. AllByRecursion (λ place. place < end) (take n (places_of piece starts))) left rest))
    where
      left : size - min size piece ≡ size - piece
      left = omega arith

  both : StandInFile piece (start ∷ starts) size end → AllByRecursion (λ place. place < end) (range_with_len start (min size piece)) × AllByRecursion (λ place. place < end) (take (size - piece) (places_of piece starts))
  both all = all_front (λ place. place < end) (range_with_len start (min size piece)) (take (size - piece) (places_of piece starts))
      (subst (AllByRecursion (λ place. place < end)) (take_range size start piece (places_of piece starts)) all)

  pub stand_here : StandInFile piece (start ∷ starts) size end → min size piece ≤ end - start
  stand_here all = range_fits start (min size piece) end (both all).0

  pub stand_rest : StandInFile piece (start ∷ starts) size end → StandInFile piece starts (size - min size piece) end
  stand_rest all = subst (λ n. AllByRecursion (λ place. place < end) (take n (places_of piece starts))) left (both all).1
    where
      left : size - piece ≡ size - min size piece
      left = omega arith
