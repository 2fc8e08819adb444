-- Names with numbers behind them.
use Rattle.std.proofs.lemmas.List.{length-take-le}
use Rattle.std.proofs.Common.{suc, ◌≡◌, ◌⊎◌, ◌≤◌, ◌<◌, ◌^◌, ℕ, Bool, true, false, List, [], ◌∷◌, ◌++◌, length, take, inl, inr, refl, sym, ap, ◌∙◌, subst, arith, if◌then◌else◌, nat_le}
use Rattle.std.specs.List.{AllPass}
use Rattle.std.specs.Fmt.{decimal}
use Rattle.std.proofs.lemmas.Fmt.{decimal_injective}
use Rattle.hex.specs.Hex.{IsBytes}
use Rattle.msi_export.specs.FileNames.{file_name, is_safe, numbered_name}
use Rattle.msi_export.proofs.FileNames.{same_front, same_names, safe_names}

abbrev as_numbered : Bool → ℕ → List ℕ → List ℕ
as_numbered short number whole = if short then whole else take 200 whole ++ 126 ∷ decimal number

-- `~` stands in no safe name
unsafe : (s t : List ℕ) → AllPass is_safe (s ++ 126 ∷ t) → ⊥
unsafe [] t all = absurd (let no : false ≡ true = all 0 0 (omega arith) in cc)
unsafe (c ∷ s) t all = unsafe s t (λ k d below. all (suc k) d (omega arith))

long : (xs : List ℕ) → nat_le (length xs) 200 ≡ false → 200 ≤ length xs
long xs is = grind arith

abbrev tail : List ℕ → List ℕ
tail [] = []
tail (c ∷ s) = s

same_as_numbered : (p q : Bool) (i j : ℕ) (one other : List ℕ) → nat_le (length one) 200 ≡ p → nat_le (length other) 200 ≡ q → i < 2 ^ 64 → j < 2 ^ 64
    → AllPass is_safe one → AllPass is_safe other → as_numbered p i one ≡ as_numbered q j other → (one ≡ other) ⊎ (i ≡ j)
same_as_numbered true true i j one other m n a b s t e = inl e
same_as_numbered true false i j one other m n a b s t e = absurd (unsafe (take 200 other) (decimal j) (subst (λ (w : List ℕ). AllPass is_safe w) e s))
same_as_numbered false true i j one other m n a b s t e = absurd (unsafe (take 200 one) (decimal i) (subst (λ (w : List ℕ). AllPass is_safe w) (sym e) t))
same_as_numbered false false i j one other m n a b s t e =
    let first = length-take-le 200 one (long one m) in
    let second = length-take-le 200 other (long other n) in
    let rest = (same_front (take 200 one) (take 200 other) (126 ∷ decimal i) (126 ∷ decimal j) (first ∙ sym second) e).1 in
    inr (decimal_injective i j a b (ap tail rest))

pub same_numbered : (i j : ℕ) (one other : List ℕ) → i < 2 ^ 64 → j < 2 ^ 64 → IsBytes one → IsBytes other → numbered_name i one ≡ numbered_name j other → (one ≡ other) ⊎ (i ≡ j)
same_numbered i j one other a b s t e =
    let found = same_as_numbered (nat_le (length (file_name true one)) 200) (nat_le (length (file_name true other)) 200) i j (file_name true one) (file_name true other) refl refl a b (safe_names true one s) (safe_names true other t) e in
    elim found [ inl same ↦ inl (same_names true one other s t same) | inr is ↦ inr is ]
