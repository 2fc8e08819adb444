-- Rows by their names, and steps up, twice as many at a time.
use Rattle.std.proofs.Common.{◌≡◌, ◌∙◌, ℕ, zero, suc, ◌+◌, ◌<◌, ◌^◌, ◌*◌, arith, Bool, true, false, cond, List, [], ◌∷◌, ◌++◌, Option, Some, None, length, get_or, map, take, refl, sym, ap, ap₂}
use Rattle.std.specs.Prelude.{is_some, option_and_then, bytes_eq}
use Rattle.std.specs.Option.{option_map_or, option_or}
use Rattle.std.proofs.Math.Nat.{pow-suc}
use Rattle.std.proofs.lemmas.List.{length-take-le, take_more}
use Rattle.std.proofs.lemmas.Slice.Eq.{bytes_eq-Decides}
use Rattle.msi_listing.specs.Content.{CellContent}
use Rattle.product_rules.specs.Trees.{above, after_steps, has_name, is_endless, number_of}

-- ---- names

or_nothing : (o : Option ℕ) → o ≡ option_or o None
or_nothing None = refl
or_nothing (Some x) = refl

number_behind : (q : List ℕ) (n : ℕ) (xs : List (List CellContent)) (row : List CellContent) → number_of q n (xs ++ row ∷ []) ≡ option_or (number_of q n xs) (number_of q (n + length xs) (row ∷ []))
number_behind q n [] row = ap (λ m. number_of q m (row ∷ [])) (omega arith)
number_behind q n (x ∷ xs) row = on (has_name q x) (number_behind q (n + 1) xs row)
  where
    on : (b : Bool) → number_of q (n + 1) (xs ++ row ∷ []) ≡ option_or (number_of q (n + 1) xs) (number_of q (n + 1 + length xs) (row ∷ []))
        → cond b (Some n) (number_of q (n + 1) (xs ++ row ∷ [])) ≡ option_or (cond b (Some n) (number_of q (n + 1) xs)) (number_of q (n + length (x ∷ xs)) (row ∷ []))
    on true h = refl
    on false h = h ∙ ap (λ m. option_or (number_of q (n + 1) xs) (number_of q m (row ∷ []))) (omega arith)

-- one row more
pub number_more : (q : List ℕ) (rows : List (List CellContent)) (i : ℕ) (row : List CellContent) → i < length rows → row ≡ get_or rows i row
    → number_of q 0 (take (i + 1) rows) ≡ option_or (number_of q 0 (take i rows)) (number_of q i (row ∷ []))
number_more q rows i row h is =
    ap (number_of q 0) (take_more rows i row h ∙ ap (λ r. take i rows ++ r ∷ []) (sym is))
    ∙ number_behind q 0 (take i rows) row
    ∙ ap (λ m. option_or (number_of q 0 (take i rows)) (number_of q m (row ∷ []))) (zero_more (length (take i rows)) ∙ length-take-le i rows (omega (arith, h)))
  where
    zero_more : (n : ℕ) → 0 + n ≡ n
    zero_more n = omega arith

-- what a row of this name gives, where none before has the name
pub put_name : (old : List ℕ → Option ℕ) (q : List ℕ) (i : ℕ) (words : Option (List ℕ)) (name : List ℕ) → words ≡ Some name → old name ≡ None
    → cond (bytes_eq name q) (Some i) (old q) ≡ option_or (old q) (cond (option_map_or (λ t. bytes_eq t q) words false) (Some i) None)
put_name old q i words name named none =
    on (bytes_eq name q) refl ∙ ap (λ w. option_or (old q) (cond (option_map_or (λ t. bytes_eq t q) w false) (Some i) None)) (sym named)
  where
    on : (b : Bool) → bytes_eq name q ≡ b → cond b (Some i) (old q) ≡ option_or (old q) (cond b (Some i) None)
    on true e = ap (λ o. option_or o (Some i)) (sym (sym (ap old ((bytes_eq-Decides name q).0 e)) ∙ none))
    on false e = or_nothing (old q)

-- ---- steps

pub one_step : (parents : List (Option ℕ)) (j : ℕ) → above parents j ≡ after_steps parents 1 j
one_step parents j = on (above parents j)
  where
    on : (o : Option ℕ) → o ≡ option_and_then (after_steps parents 0) o
    on None = refl
    on (Some i) = refl

steps_more : (parents : List (Option ℕ)) (m n j : ℕ) → after_steps parents (m + n) j ≡ option_and_then (after_steps parents n) (after_steps parents m j)
steps_more parents zero n j = ap (λ k. after_steps parents k j) (zero_more n)
  where
    zero_more : (k : ℕ) → 0 + k ≡ k
    zero_more k = omega arith
steps_more parents (suc m) n j = ap (λ k. after_steps parents k j) (suc_more m n) ∙ on (above parents j) (steps_more parents m n)
  where
    suc_more : (k l : ℕ) → suc k + l ≡ suc (k + l)
    suc_more k l = omega arith

    on : (o : Option ℕ) → ((i : ℕ) → after_steps parents (m + n) i ≡ option_and_then (after_steps parents n) (after_steps parents m i))
        → option_and_then (after_steps parents (m + n)) o ≡ option_and_then (after_steps parents n) (option_and_then (after_steps parents m) o)
    on None h = refl
    on (Some i) h = h i

above_doubled : (f : ℕ → Option ℕ) (steps : List (Option ℕ)) (j : ℕ) → above (map (option_and_then f) steps) j ≡ option_and_then f (above steps j)
above_doubled f [] zero = refl
above_doubled f [] (suc j) = refl
above_doubled f (x ∷ xs) zero = refl
above_doubled f (x ∷ xs) (suc j) = above_doubled f xs j

twice_power : (r : ℕ) → 2 ^ r + 2 ^ r ≡ 2 ^ (r + 1)
twice_power r = sym (ap (λ n. 2 ^ n) (add_suc r) ∙ pow-suc 2 r ∙ twice (2 ^ r))
  where
    add_suc : (n : ℕ) → n + 1 ≡ suc n
    add_suc n = omega arith

    twice : (n : ℕ) → n * 2 ≡ n + n
    twice n = omega arith

-- one more doubling
pub doubled_once : (parents steps : List (Option ℕ)) (r : ℕ) → ((j : ℕ) → above steps j ≡ after_steps parents (2 ^ r) j)
    → (j : ℕ) → above (map (option_and_then (above steps)) steps) j ≡ after_steps parents (2 ^ (r + 1)) j
doubled_once parents steps r are j =
    above_doubled (above steps) steps j
    ∙ ap₂ (λ (f : ℕ → Option ℕ) o. option_and_then f o) (λ i k. are k i) (are j)
    ∙ sym (steps_more parents (2 ^ r) (2 ^ r) j)
    ∙ ap (λ n. after_steps parents n j) (twice_power r)

pub ended : (parents steps : List (Option ℕ)) (r : ℕ) → r ≡ 64 → ((j : ℕ) → above steps j ≡ after_steps parents (2 ^ r) j) → (j : ℕ) → is_some (above steps j) ≡ is_endless parents j
unfolding is_endless
ended parents steps r end are j = ap is_some (are j) ∙ ap (λ n. is_some (after_steps parents (2 ^ n) j)) end
