-- How often a number stands in a list.
use Rattle.std.proofs.Common.{◌≡◌, ℕ, ◌+◌, ◌<◌, ◌≤◌, Bool, true, false, List, [], ◌∷◌, ◌++◌, length, get_or, set, refl, arith, zero, suc}
use Rattle.std.specs.Prelude.{nat_eq, if◌then◌else◌}
use Rattle.std.specs.List.{AllByRecursion, IsDistinct}

-- how often the number stands in the list
abbrev pub count_in : ℕ → List ℕ → ℕ
count_in n [] = 0
count_in n (x ∷ xs) = (if nat_eq n x then 1 else 0) + count_in n xs

pub count_append : (n : ℕ) (xs ys : List ℕ) → count_in n (xs ++ ys) ≡ count_in n xs + count_in n ys
count_append n [] ys = omega arith
count_append n (x ∷ xs) ys = omega (arith, count_append n xs ys)

pub count_here : (n : ℕ) (xs : List ℕ) → count_in n (n ∷ xs) ≡ 1 + count_in n xs
count_here n xs = let same : nat_eq n n ≡ true = grind arith in rw same refl

-- each number stands as often in one list as in the other
abbrev pub SameCounts : List ℕ → List ℕ → Type 0
SameCounts xs ys = (n : ℕ) → count_in n xs ≡ count_in n ys

none_there : (n : ℕ) (xs : List ℕ) → count_in n xs ≡ 0 → AllByRecursion (λ y. nat_eq n y ≡ false) xs
none_there n [] e = tt
none_there n (x ∷ xs) e = by_test (nat_eq n x) refl e (none_there n xs (omega (arith, e)))
  where
    by_test : (b : Bool) → nat_eq n x ≡ b → (if b then 1 else 0) + count_in n xs ≡ 0 → AllByRecursion (λ y. nat_eq n y ≡ false) xs → AllByRecursion (λ y. nat_eq n y ≡ false) (x ∷ xs)
    by_test true is e rest = absurd (omega (arith, e))
    by_test false is e rest = (is, rest)

none_counted : (n : ℕ) (xs : List ℕ) → AllByRecursion (λ y. nat_eq n y ≡ false) xs → count_in n xs ≡ 0
none_counted n [] h = refl
none_counted n (x ∷ xs) h = rw h.0 (omega (arith, none_counted n xs h.1))

pub distinct_from_counts : (xs : List ℕ) → ((n : ℕ) → count_in n xs ≤ 1) → IsDistinct nat_eq xs
unfolding IsDistinct
distinct_from_counts [] h = tt
distinct_from_counts (x ∷ xs) h = (
  none_there x xs (omega (arith, h x, count_here x xs)),
  distinct_from_counts xs (λ n. omega (arith, h n)),
)

pub counts_from_distinct : (xs : List ℕ) → IsDistinct nat_eq xs → (n : ℕ) → count_in n xs ≤ 1
unfolding IsDistinct
counts_from_distinct [] h n = omega arith
counts_from_distinct (x ∷ xs) h n = by_test (nat_eq n x) refl (counts_from_distinct xs h.1 n)
  where
    by_test : (b : Bool) → nat_eq n x ≡ b → count_in n xs ≤ 1 → (if b then 1 else 0) + count_in n xs ≤ 1
    by_test false is rest = omega (arith, rest)
    by_test true is rest =
        let same : n ≡ x = grind arith in
        let zero_times : count_in n xs ≡ 0 = rw same (none_counted x xs h.0) in
        omega (arith, zero_times)

-- how many marks aren't set
abbrev pub unset : List Bool → ℕ
unset [] = 0
unset (b ∷ bs) = (if b then 0 else 1) + unset bs

pub unset_less : (bs : List Bool) (i : ℕ) (d : Bool) → i < length bs → get_or bs i d ≡ false → unset (set bs i true) + 1 ≡ unset bs
unset_less [] i d below e = absurd (omega arith)
unset_less (b ∷ bs) zero d below e = rw e (omega arith)
unset_less (b ∷ bs) (suc i) d below e = omega (arith, unset_less bs i d (omega arith) e)
