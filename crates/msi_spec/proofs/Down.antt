-- Uses that are taken one after the other.
use Rattle.std.proofs.Common.{◌≡◌, ◌∙◌, ℕ, suc, ◌+◌, ◌-◌, ◌<◌, cond, true, false, List, [], drop, length, get_or, refl, ap, arith}
use Rattle.std.specs.Prelude.{◌==◌, sum_by}
use Rattle.std.proofs.lemmas.Bool.Decides.{nat_tests}
use Rattle.std.proofs.lemmas.List.Sums.{sum_by-drop_more}
use Rattle.msi_pool.specs.declared.stringref.ValueRef.{ValueRef}
use Rattle.msi_pool.specs.declared.stringref.ValueRef.TheVariants as named
use Rattle.msi_spec.specs.Uses.{cell_uses, left_at, TakesUses}

module _ {X : Type 0} (uses : X → ℕ → ℕ) where
  -- what was there at first and what is still to be taken make all uses and what is left
  abbrev pub SoFar : List ℕ → List ℕ → List X → List X → Type 0
  SoFar old now rest all = (k : ℕ) → left_at old k + sum_by (λ x. uses x (suc k)) rest ≡ sum_by (λ x. uses x (suc k)) all + left_at now k

  pub goes_on : (old now new : List ℕ) (all : List X) (i : ℕ) (d : X) → i < length all → SoFar old now (drop i all) all
      → TakesUses (uses (get_or all i d)) now new true → SoFar old new (drop (i + 1) all) all
  goes_on old now new all i d below h t = λ k. (
      let here = h k in let took = t.taken refl k in let parted = sum_by-drop_more (λ x. uses x (suc k)) all i d below in
      omega (arith, here, took, parted))

  pub ends_short : (old now new : List ℕ) (all : List X) (i : ℕ) (d : X) → i < length all → SoFar old now (drop i all) all
      → TakesUses (uses (get_or all i d)) now new false → TakesUses (λ n. sum_by (λ x. uses x n) all) old new false
  ends_short old now new all i d below h t =
      let k = (t.short refl).0 in let few = (t.short refl).1 in
      let here = h k in let parted = sum_by-drop_more (λ x. uses x (suc k)) all i d below in
      record { taken = λ e. absurd (cc); short = λ e. (k, omega (arith, here, few, parted)) }

  pub ends_taken : (old now : List ℕ) (all : List X) → SoFar old now [] all → TakesUses (λ n. sum_by (λ x. uses x n) all) old now true
  ends_taken old now all h = record { taken = λ e k. (let here = h k in omega (arith, here)); short = λ e. absurd (cc) }

-- the use of a cell whose place has none left
pub short_at : (left : List ℕ) (cell : ValueRef) (n : ℕ) → cell ≡ named.Str n → 0 < n → left_at left (n - 1) ≡ 0 → TakesUses (cell_uses cell) left left false
short_at left cell n is some none = record {
  taken = λ e k. absurd (cc);
  short = λ e. (n - 1, few);
}
  where
    few : left_at left (n - 1) < cell_uses cell (suc (n - 1))
    few =
        let back : n ≡ suc (n - 1) = omega (arith, some) in
        let one : (n == suc (n - 1)) ≡ true = grind (arith, nat_tests, back) in
        let uses : cell_uses cell (suc (n - 1)) ≡ 1 = ap (λ v. cell_uses v (suc (n - 1))) is ∙ ap (λ b. cond b 1 0) one in
        omega (arith, none, uses)
