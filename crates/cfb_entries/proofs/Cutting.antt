-- A path's text, cut at its first slash.
use Rattle.std.proofs.Common.{◌≡◌, ℕ, ◌+◌, ◌<◌, ◌≤◌, ◌==◌, Bool, true, false, List, [], ◌∷◌, ◌++◌, length, get_or, suc, refl, ap, arith}
use Rattle.cfb_tree.specs.Paths.{longer, parts_of}

no_slash : (c : ℕ) (cs : List ℕ) → ((i : ℕ) → i < length (c ∷ cs) → get_or (c ∷ cs) i 0 ≡ 47 → ⊥) → (c == 47) ≡ false
no_slash c cs none = by_test (c == 47) refl
  where
    by_test : (b : Bool) → (c == 47) ≡ b → b ≡ false
    by_test false is = refl
    by_test true is = let same : c ≡ 47 = grind arith in absurd (none 0 (omega arith) same)

none_behind : (c : ℕ) (cs : List ℕ) → ((i : ℕ) → i < length (c ∷ cs) → get_or (c ∷ cs) i 0 ≡ 47 → ⊥) → (i : ℕ) → i < length cs → get_or cs i 0 ≡ 47 → ⊥
none_behind c cs none i below is = none (suc i) (omega (arith, below)) is

-- a text without a slash is one part
pub one_part : (text : List ℕ) → ((i : ℕ) → i < length text → get_or text i 0 ≡ 47 → ⊥) → parts_of text ≡ text ∷ []
one_part [] none = refl
one_part (c ∷ cs) none = rw (no_slash c cs none) (ap (longer c) (one_part cs (none_behind c cs none)))

-- what stands before the first slash is the first part
pub first_part : (front behind : List ℕ) → ((i : ℕ) → i < length front → get_or front i 0 ≡ 47 → ⊥) → parts_of (front ++ 47 ∷ behind) ≡ front ∷ parts_of behind
first_part [] behind none = refl
first_part (c ∷ cs) behind none = rw (no_slash c cs none) (ap (longer c) (first_part cs behind (none_behind c cs none)))

-- a text has at most one part more than it has bytes
pub few_parts : (text : List ℕ) → length (parts_of text) ≤ length text + 1
few_parts [] = omega arith
few_parts (c ∷ cs) = by_test (c == 47) refl (few_parts cs)
  where
    by_test : (b : Bool) → (c == 47) ≡ b → length (parts_of cs) ≤ length cs + 1 → length (parts_of (c ∷ cs)) ≤ length (c ∷ cs) + 1
    by_test true is few = rw is (omega (arith, few))
    by_test false is few = rw is (by_parts (parts_of cs) few)
      where
        by_parts : (parts : List (List ℕ)) → length parts ≤ length cs + 1 → length (longer c parts) ≤ length (c ∷ cs) + 1
        by_parts [] few = omega arith
        by_parts (part ∷ parts) few = omega (arith, few)
