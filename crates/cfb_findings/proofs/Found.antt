-- Numbers that are found, one after the other.
use Rattle.std.proofs.Common.{◌≡◌, ◌∙◌, ℕ, ◌+◌, ◌<◌, Bool, true, false, List, [], ◌∷◌, ◌++◌, drop, length, get_or, refl, sym, ap}
use Rattle.std.specs.Prelude.{cond, filter}
use Rattle.std.proofs.lemmas.List.{append_assoc, drop_more}

-- the first of a list, and the others
pub filter_first : (p : ℕ → Bool) (x : ℕ) (xs : List ℕ) → filter p (x ∷ xs) ≡ filter p (x ∷ []) ++ filter p xs
filter_first p x xs = by_test (p x)
  where
    by_test : (b : Bool) → cond b (x ∷ filter p xs) (filter p xs) ≡ cond b (x ∷ []) [] ++ filter p xs
    by_test true = refl
    by_test false = refl

-- what was found so far, and what is to come
pub filter_more : (p : ℕ → Bool) (xs old new all : List ℕ) (i : ℕ) → i < length xs → new ≡ old ++ filter p (get_or xs i 0 ∷ [])
    → old ++ filter p (drop i xs) ≡ all → new ++ filter p (drop (i + 1) xs) ≡ all
filter_more p xs old new all i below found so_far =
    let x = get_or xs i 0 in
    let rest = filter p (drop (i + 1) xs) in
    ap (λ l. l ++ rest) found
    ∙ append_assoc old (filter p (x ∷ [])) rest
    ∙ ap (λ l. old ++ l) (sym (filter_first p x (drop (i + 1) xs)) ∙ ap (filter p) (sym (drop_more xs i 0 below)))
    ∙ so_far
