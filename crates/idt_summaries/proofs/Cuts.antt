-- Texts that are cut.
use Rattle.std.proofs.Common.{◌≡◌, ◌≢◌, ◌∙◌, ℕ, suc, ◌<◌, Bool, true, false, List, [], ◌∷◌, ◌++◌, length, get_or, refl, sym, ap, arith}
use Rattle.std.specs.Prelude.{◌==◌, if◌then◌else◌, Option, Some, None, option_map}
use Rattle.std.proofs.lemmas.Bool.Decides.{nat_tests}
use Rattle.std.proofs.lemmas.Str.Pattern.{IsSplitOnceResult, split_parts}
use Rattle.idt_summaries.specs.Moments.{cut_at}
use denote.Ref.{Bor}

-- no such byte stands in it
abbrev pub IsFree : ℕ → List ℕ → Type 0
IsFree c [] = Unit {0}
IsFree c (b ∷ bs) = (b ≢ c) × IsFree c bs

same_test : (c : ℕ) → (c == c) ≡ true
same_test c = grind (arith, nat_tests)

other_test : (b c : ℕ) → b ≢ c → (b == c) ≡ false
other_test b c h = grind (arith, nat_tests, h)

abbrev cut_by : Bool → ℕ → List ℕ → Option (List ℕ × List ℕ) → Option (List ℕ × List ℕ)
cut_by here b bs rest = if here then Some ([], bs) else option_map (λ parts. (b ∷ parts.0, parts.1)) rest

pub cut_found : (c : ℕ) (xs ys : List ℕ) → IsFree c xs → cut_at c (xs ++ c ∷ ys) ≡ Some (xs, ys)
cut_found c [] ys h = ap (λ here. cut_by here c ys (cut_at c ys)) (same_test c)
cut_found c (x ∷ xs) ys h =
    ap (λ here. cut_by here x (xs ++ c ∷ ys) (cut_at c (xs ++ c ∷ ys))) (other_test x c h.0)
    ∙ ap (option_map (λ parts. (x ∷ parts.0, parts.1))) (cut_found c xs ys h.1)

cut_none : (c : ℕ) (bs : List ℕ) → IsFree c bs → cut_at c bs ≡ None
cut_none c [] h = refl
cut_none c (b ∷ bs) h =
    ap (λ here. cut_by here b bs (cut_at c bs)) (other_test b c h.0)
    ∙ ap (option_map (λ parts. (b ∷ parts.0, parts.1))) (cut_none c bs h.1)

free_at : (c : ℕ) (bs : List ℕ) → ((i : ℕ) → i < length bs → get_or bs i 0 ≢ c) → IsFree c bs
free_at c [] h = tt
free_at c (b ∷ bs) h = (h 0 (omega arith), free_at c bs (λ i l. h (suc i) (omega arith)))

pub cut_is : (c : ℕ) (bs : List ℕ) (r : Option (Bor (List ℕ) × Bor (List ℕ))) → IsSplitOnceResult c bs r → c < 128
    → option_map (λ parts. (parts.0.now, parts.1.now)) r ≡ cut_at c bs
cut_is c bs None h low = sym (cut_none c bs (free_at c bs (split_parts c bs None h low)))
cut_is c bs (Some x) h low =
    let parts = split_parts c bs (Some x) h low in
    sym (ap (cut_at c) parts.0 ∙ cut_found c x.0.now x.1.now (free_at c x.0.now parts.1))
