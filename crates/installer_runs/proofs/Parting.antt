-- Slices of commands in which a commit stands alone, or none is.
use Rattle.std.proofs.Common.{◌≡◌, ◌+◌, ◌<◌, ◌≤◌, ◌||◌, ℕ, zero, suc, Bool, true, false, List, [], ◌∷◌, get_or, length, map, take, inl, refl, sym, ap, subst, arith}
use Rattle.command_file.specs.Request.{Request, is_commit}
use Rattle.command_file.specs.Request as asked
use Rattle.installer_runs.specs.Runs.{has_commit, is_alone, IsSlice}

pub first_of_both : (a b : Bool) → (a || b) ≡ false → a ≡ false
first_of_both false b none = refl
first_of_both true b none = absurd (cc none)

pub second_of_both : (a b : Bool) → (a || b) ≡ false → b ≡ false
second_of_both false b none = none
second_of_both true b none = absurd (cc none)

pub commit_is : (request : Request) → is_commit request ≡ true → request ≡ asked.commit
commit_is asked.commit is = refl
commit_is request is = absurd (cc is)

pub alone_is : (requests : List Request) → is_alone requests ≡ true → requests ≡ asked.commit ∷ []
alone_is [] is = absurd (cc is)
alone_is (request ∷ []) is = ap (λ r. r ∷ []) (commit_is request is)
alone_is (request ∷ other ∷ requests) is = absurd (cc is)

module _ {C : Type 0} (f : C → Request) where
  -- one more of them, which doesn't commit
  pub one_more : (xs : List C) (n : ℕ) (d : C) → n < length xs → is_commit (f (get_or xs n d)) ≡ false → has_commit (map f (take n xs)) ≡ false → has_commit (map f (take (n + 1) xs)) ≡ false
  one_more [] n d within is none = absurd (omega (arith, within))
  one_more (x ∷ xs) zero d within is none = rw is refl
  one_more (x ∷ xs) (suc n) d within is none =
      let own : is_commit (f x) ≡ false = first_of_both (is_commit (f x)) (has_commit (map f (take n xs))) none in
      let rest = one_more xs n d (omega arith) is (second_of_both (is_commit (f x)) (has_commit (map f (take n xs))) none) in
      let more : suc n + 1 ≡ suc (n + 1) = omega arith in
      let inner : (is_commit (f x) || has_commit (map f (take (n + 1) xs))) ≡ false = rw own rest in
      subst (λ (k : ℕ). has_commit (map f (take k (x ∷ xs))) ≡ false) (sym more) inner

  -- the first of them commits
  pub first_alone : (xs : List C) (d : C) → 0 < length xs → is_commit (f (get_or xs 0 d)) ≡ true → IsSlice (map f (take 1 xs))
  first_alone [] d some is = absurd (omega (arith, some))
  first_alone (x ∷ xs) d some is = inl (ap (λ r. r ∷ []) (commit_is (f x) is))

pub taken_few : {C : Type 0} (n : ℕ) (xs : List C) → length (take n xs) ≤ n
taken_few zero [] = omega arith
taken_few (suc n) [] = omega arith
taken_few zero (x ∷ xs) = omega arith
taken_few (suc n) (x ∷ xs) = let rest = taken_few n xs in omega arith
