-- Parts that stand apart are those that are counted once.
use Rattle.std.proofs.Common.{◌≡◌, ◌≢◌, ℕ, ◌+◌, ◌≤◌, Bool, true, false, List, [], ◌∷◌, ◌++◌, refl, ap, sym, ◌∙◌, arith}
use Rattle.std.specs.Prelude.{nat_eq, if◌then◌else◌}
use Rattle.std.specs.List.{AllByRecursion}
use Rattle.cfb_spec.specs.Sound.{in_file, in_mini_stream, AreApart, Part}
use Rattle.cfb_ownership.proofs.KeysOfParts.{minis_among, sectors_among}
use Rattle.cfb_soundness.specs.Marks.{times}

pub sectors_append : (xs ys : List Part) → sectors_among (xs ++ ys) ≡ sectors_among xs ++ sectors_among ys
sectors_append [] ys = refl
sectors_append (in_file n ∷ xs) ys = ap (λ l. n ∷ l) (sectors_append xs ys)
sectors_append (in_mini_stream n ∷ xs) ys = sectors_append xs ys

pub minis_append : (xs ys : List Part) → minis_among (xs ++ ys) ≡ minis_among xs ++ minis_among ys
minis_append [] ys = refl
minis_append (in_file n ∷ xs) ys = minis_append xs ys
minis_append (in_mini_stream n ∷ xs) ys = ap (λ l. n ∷ l) (minis_append xs ys)

times_more : (n m : ℕ) (xs : List ℕ) → (n ≡ m → ⊥) → times n xs ≡ 0 → times n (m ∷ xs) ≡ 0
times_more n m xs other none = let test : nat_eq n m ≡ false = grind arith in rw test (omega (arith, none))

times_no_more : (n m : ℕ) (xs : List ℕ) → times n (m ∷ xs) ≡ 0 → (n ≡ m → ⊥) × (times n xs ≡ 0)
times_no_more n m xs none = by_test (nat_eq n m) refl none
  where
    by_test : (b : Bool) → nat_eq n m ≡ b → (if b then 1 else 0) + times n xs ≡ 0 → (n ≡ m → ⊥) × (times n xs ≡ 0)
    by_test true is e = absurd (omega (arith, e))
    by_test false is e = ((λ same. let test : nat_eq n m ≡ true = grind arith in let never : true ≡ false = sym test ∙ is in absurd (cc)), omega (arith, e))

sector_none : (n : ℕ) (ps : List Part) → AllByRecursion (λ p. in_file n ≢ p) ps → times n (sectors_among ps) ≡ 0
sector_none n [] all = refl
sector_none n (in_file m ∷ ps) all = times_more n m (sectors_among ps) (λ same. all.0 (ap in_file same)) (sector_none n ps all.1)
sector_none n (in_mini_stream m ∷ ps) all = sector_none n ps all.1

mini_none : (n : ℕ) (ps : List Part) → AllByRecursion (λ p. in_mini_stream n ≢ p) ps → times n (minis_among ps) ≡ 0
mini_none n [] all = refl
mini_none n (in_file m ∷ ps) all = mini_none n ps all.1
mini_none n (in_mini_stream m ∷ ps) all = times_more n m (minis_among ps) (λ same. all.0 (ap in_mini_stream same)) (mini_none n ps all.1)

sector_differs : (n : ℕ) (ps : List Part) → times n (sectors_among ps) ≡ 0 → AllByRecursion (λ p. in_file n ≢ p) ps
sector_differs n [] none = tt
sector_differs n (in_file m ∷ ps) none = let both = times_no_more n m (sectors_among ps) none in ((λ e. let same : n ≡ m = cc in both.0 same), sector_differs n ps both.1)
sector_differs n (in_mini_stream m ∷ ps) none = ((λ e. cc), sector_differs n ps none)

mini_differs : (n : ℕ) (ps : List Part) → times n (minis_among ps) ≡ 0 → AllByRecursion (λ p. in_mini_stream n ≢ p) ps
mini_differs n [] none = tt
mini_differs n (in_file m ∷ ps) none = ((λ e. cc), mini_differs n ps none)
mini_differs n (in_mini_stream m ∷ ps) none = let both = times_no_more n m (minis_among ps) none in ((λ e. let same : n ≡ m = cc in both.0 same), mini_differs n ps both.1)

pub times_here : (n : ℕ) (xs : List ℕ) → times n (n ∷ xs) ≡ 1 + times n xs
times_here n xs = let test : nat_eq n n ≡ true = grind arith in rw test refl

times_one : (n m : ℕ) (xs : List ℕ) → times m xs ≡ 0 → times n xs ≤ 1 → times n (m ∷ xs) ≤ 1
times_one n m xs none few = by_test (nat_eq n m) refl
  where
    by_test : (b : Bool) → nat_eq n m ≡ b → (if b then 1 else 0) + times n xs ≤ 1
    by_test false is = omega (arith, few)
    by_test true is = let same : n ≡ m = grind arith in let gone : times n xs ≡ 0 = ap (λ k. times k xs) same ∙ none in omega (arith, gone)

pub once_from_apart : (ps : List Part) → AreApart ps → (n : ℕ) → (times n (sectors_among ps) ≤ 1) × (times n (minis_among ps) ≤ 1)
once_from_apart [] apart n = (omega arith, omega arith)
once_from_apart (in_file m ∷ ps) apart n =
    let rest = once_from_apart ps apart.1 n in (times_one n m (sectors_among ps) (sector_none m ps apart.0) rest.0, rest.1)
once_from_apart (in_mini_stream m ∷ ps) apart n =
    let rest = once_from_apart ps apart.1 n in (rest.0, times_one n m (minis_among ps) (mini_none m ps apart.0) rest.1)

pub apart_from_once : (ps : List Part) → ((n : ℕ) → times n (sectors_among ps) ≤ 1) → ((n : ℕ) → times n (minis_among ps) ≤ 1) → AreApart ps
apart_from_once [] sectors minis = tt
apart_from_once (in_file m ∷ ps) sectors minis = (
  sector_differs m ps (omega (arith, sectors m, times_here m (sectors_among ps))),
  apart_from_once ps (λ n. omega (arith, sectors n)) minis,
)
apart_from_once (in_mini_stream m ∷ ps) sectors minis = (
  mini_differs m ps (omega (arith, minis m, times_here m (minis_among ps))),
  apart_from_once ps sectors (λ n. omega (arith, minis n)),
)
