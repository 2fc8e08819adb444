-- Mini sectors that are free, counted.
use Rattle.std.proofs.Common.{◌≡◌, ℕ, zero, suc, ◌+◌, ◌<◌, ◌≤◌, List, length, take, get_or, refl, ap, sym, ◌∙◌, ⊎_elim, arith, false}
use Rattle.std.specs.List.{count_by}
use Rattle.std.specs.Prelude.{nat_eq, slice_index}
use Rattle.std.proofs.lemmas.Bool.Decides.{eqb_tells}
use Rattle.std.proofs.lemmas.List.Sums.{count_by_more_no}
use Rattle.cfb_sectors.specs.Sectors.{free}

-- of the first ones, where none is free
pub none_counted : (n : ℕ) (xs : List ℕ) → n ≤ length xs → ((k : ℕ) → k < n → slice_index xs k ≡ free → ⊥) → count_by (λ entry. nat_eq entry free) (take n xs) ≡ 0
none_counted zero xs inside none = refl
none_counted (suc n) xs inside none =
    let differ : nat_eq (get_or xs n 0) free ≡ false = ⊎_elim (λ same. absurd (none n (omega arith) same.1)) (λ off. off.0) (eqb_tells (get_or xs n 0) free) in
    let more : n + 1 ≡ suc n = omega arith in
    ap (λ m. count_by (λ entry. nat_eq entry free) (take m xs)) (sym more) ∙ count_by_more_no (λ entry. nat_eq entry free) xs n 0 (omega (arith, inside)) differ ∙ none_counted n xs (omega (arith, inside)) (λ k below. none k (omega (arith, below)))
