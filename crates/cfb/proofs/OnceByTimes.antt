-- A list in which no number stands twice, told by how often each stands in it.
use Rattle.std.proofs.Common.{◌≡◌, ℕ, ◌+◌, ◌<◌, ◌≤◌, List, [], ◌∷◌, ◌++◌, length, get_or, zero, suc, refl, ap, sym, arith}
use Rattle.cfb_chains.specs.Changes.{AreDistinct}
use Rattle.cfb_soundness.specs.Marks.{times}
use Rattle.cfb_soundness.proofs.PartsOnce.{times_here}

times_rest : (n x : ℕ) (xs : List ℕ) → times n xs ≤ times n (x ∷ xs)
times_rest n x xs = omega arith

times_at : (xs : List ℕ) (k n : ℕ) → k < length xs → get_or xs k 0 ≡ n → 1 ≤ times n xs
times_at [] k n below is = absurd (omega (arith, below))
times_at (x ∷ xs) zero n below is = let here = times_here n xs in let same : times n (x ∷ xs) ≡ times n (n ∷ xs) = ap (λ y. times n (y ∷ xs)) is in omega (arith, here, same)
times_at (x ∷ xs) (suc k) n below is = let later = times_at xs k n (omega (arith, below)) is in let more = times_rest n x xs in omega (arith, later, more)

pub once_by_times : (xs : List ℕ) → ((n : ℕ) → times n xs ≤ 1) → AreDistinct xs
once_by_times [] few k l inside there same = absurd (omega (arith, inside))
once_by_times (x ∷ xs) few zero zero inside there same = refl
once_by_times (x ∷ xs) few zero (suc l) inside there same =
    let here = times_here x xs in let later = times_at xs l x (omega (arith, there)) (sym same) in let most = few x in absurd (omega (arith, here, later, most))
once_by_times (x ∷ xs) few (suc k) zero inside there same =
    let here = times_here x xs in let later = times_at xs k x (omega (arith, inside)) same in let most = few x in absurd (omega (arith, here, later, most))
once_by_times (x ∷ xs) few (suc k) (suc l) inside there same =
    ap suc (once_by_times xs (λ n. let more = times_rest n x xs in let most = few n in omega (arith, more, most)) k l (omega (arith, inside)) (omega (arith, there)) same)
