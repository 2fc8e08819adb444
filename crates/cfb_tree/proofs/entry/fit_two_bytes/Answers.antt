use Rattle.std.proofs.Common.{ℕ, ◌<◌, ◌^◌, List, [], ◌∷◌, length, get_or, arith, suc, Fits, w16}
use Rattle.std.specs.List.{AllByRecursion}
use Rattle.cfb_tree.proofs.entry.fit_two_bytes.Goals as goal

lower : (n : ℕ) → Fits w16 n → n < 2 ^ 16
lower n h = omega arith

all_below : (xs : List ℕ) → ((i : ℕ) → i < length xs → get_or xs i 0 < 2 ^ 16) → AllByRecursion (λ n. n < 2 ^ 16) xs
all_below [] h = tt
all_below (x ∷ xs) h = (h 0 (omega arith), all_below xs (λ i below. h (suc i) (omega (arith, below))))

pub returns : goal.returns
returns c = all_below c.args.numbers.now (λ i below. lower _ (c.type_inv.numbers i))
