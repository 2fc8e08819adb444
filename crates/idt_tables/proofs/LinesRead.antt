-- Lines that were read.
use Rattle.std.proofs.Common.{◌≡◌, ◌≢◌, ◌∙◌, ℕ, Bool, true, false, List, [], ◌∷◌, ◌++◌, length, map, refl, sym, ap, arith}
use Rattle.std.specs.Prelude.{◌==◌, if◌then◌else◌}
use Rattle.std.proofs.lemmas.List.{map-append}
use Rattle.std.proofs.lemmas.Bool.Decides.{nat_tests}
use Rattle.idt_tables.specs.Lines.{trimmed, without_end}

behind_if : (b : Bool) (x : List ℕ) (xs ys : List (List ℕ)) → x ∷ (if b then xs else ys) ≡ (if b then x ∷ xs else x ∷ ys)
behind_if true x xs ys = refl
behind_if false x xs ys = refl

ended : (xs : List (List ℕ)) (y : List ℕ) → without_end (xs ++ y ∷ []) ≡ (if length y == 0 then xs else xs ++ y ∷ [])
ended [] y = refl
ended (x ∷ []) y = behind_if (length y == 0) x [] (y ∷ [])
ended (x ∷ next ∷ xs) y = ap (λ l. x ∷ l) (ended (next ∷ xs) y) ∙ behind_if (length y == 0) x (next ∷ xs) (next ∷ xs ++ y ∷ [])

abbrev chosen : List (List ℕ) → List (List ℕ) → Bool → List (List ℕ)
chosen xs ys b = if b then xs else ys

module _ {A : Type 0} (text_of : A → List ℕ) (ps front : List A) (last : A) (is : ps ≡ front ++ last ∷ []) where
  whole : map text_of ps ≡ map text_of front ++ text_of last ∷ []
  whole = ap (map text_of) is ∙ map-append text_of front (last ∷ [])

  -- an empty last part is dropped
  pub dropped : (length (text_of last) == 0) ≡ true → map text_of front ≡ without_end (map text_of ps)
  dropped e = sym (ap without_end whole ∙ ended (map text_of front) (text_of last) ∙ ap (chosen (map text_of front) (map text_of front ++ text_of last ∷ [])) e)

  -- another stays
  pub kept : (length (text_of last) == 0) ≡ false → map text_of ps ≡ without_end (map text_of ps)
  kept e = whole ∙ sym (ap without_end whole ∙ ended (map text_of front) (text_of last) ∙ ap (chosen (map text_of front) (map text_of front ++ text_of last ∷ [])) e)

is_13 : (b : ℕ) → (b == 13) ≡ true → b ≡ 13
is_13 b e = grind (arith, nat_tests, e)

last_stays : (b : ℕ) (t : Bool) → (b == 13) ≡ t → (b ∷ [] ≢ 13 ∷ []) → (if b == 13 then [] else b ∷ []) ≡ b ∷ []
last_stays b true e h = absurd (h (ap (λ x. x ∷ []) (is_13 b e)))
last_stays b false e h = ap (λ t. if t then [] else b ∷ []) e

-- a line that no carriage return ends stays
pub untrimmed : (t : List ℕ) → ((front : List ℕ) → t ≢ front ++ 13 ∷ []) → t ≡ trimmed t
untrimmed [] h = refl
untrimmed (b ∷ []) h = sym (last_stays b (b == 13) refl (h []))
untrimmed (b ∷ c ∷ t) h = ap (λ x. b ∷ x) (untrimmed (c ∷ t) (λ front e. h (b ∷ front) (ap (λ x. b ∷ x) e)))
