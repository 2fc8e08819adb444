-- Short file names by the place of their last dot.
use Rattle.std.proofs.Common.{◌≡◌, ◌≢◌, ℕ, ◌+◌, ◌-◌, ◌<◌, Bool, true, false, not, List, length, get_or, refl, ap, ap₂, ◌∙◌, arith, length-drop}
use Rattle.std.specs.Prelude.{◌==◌, nat_le, ◌&&◌}
use Rattle.std.specs.List.{list_any, suffix_len, before_last, after_last}
use Rattle.std.proofs.lemmas.List.{length-take-le, get_or_default}
use Rattle.std.proofs.lemmas.List.Sums.{suffix_len_is}
use Rattle.std.proofs.lemmas.List.Folds.{list_any_none, list_any_at}
use Rattle.std.proofs.lemmas.Bool.Decides.{nat_tests}
use Rattle.msi_texts.specs.StreamName.{is_between}
use Rattle.msi_texts.specs.Category.{is_short_name}

abbrev is_dot : ℕ → Bool
is_dot b = b == 46

not_dot : (b : ℕ) → b ≢ 46 → is_dot b ≡ false
not_dot b h = grind (arith, nat_tests)

-- with a dot at i and none behind it
pub short_dotted : (bs : List ℕ) (i : ℕ) → i < length bs → get_or bs i 0 ≡ 46 → ((k : ℕ) → i < k → k < length bs → get_or bs k 0 ≢ 46) →
    is_short_name bs ≡ (is_between 1 8 i && nat_le (length bs - (i + 1)) 3)
short_dotted bs i inside dot last =
    let some : list_any is_dot bs ≡ true = list_any_at is_dot bs i 0 inside (rw dot refl) in
    let behind : suffix_len (λ b. not (is_dot b)) bs ≡ length bs - (i + 1) =
    suffix_len_is (λ b. not (is_dot b)) bs (i + 1) 0 (omega arith)
    (λ k l m. ap not (not_dot (get_or bs k 0) (last k (omega arith) m)))
    (λ _. let same : i + 1 - 1 ≡ i = omega arith in rw (same, dot) refl) in
    let front : length (before_last is_dot bs) ≡ i = rw behind (length-take-le (length bs - (length bs - (i + 1)) - 1) bs (omega arith) ∙ omega arith) in
    let rest : length (after_last is_dot bs) ≡ length bs - (i + 1) = rw behind (length-drop (length bs - (length bs - (i + 1))) bs ∙ omega arith) in
    rw some (ap₂ (λ x y. is_between 1 8 x && nat_le y 3) front rest)

-- without a dot
pub short_plain : (bs : List ℕ) → ((k : ℕ) → k < length bs → get_or bs k 0 ≢ 46) → is_short_name bs ≡ is_between 1 8 (length bs)
short_plain bs none =
    let none_at : (k d : ℕ) → k < length bs → get_or bs k d ≢ 46 = λ k d l e. none k l (get_or_default bs k 0 d l ∙ e) in
    let no_dot : list_any is_dot bs ≡ false = list_any_none is_dot bs (λ k d l. not_dot (get_or bs k d) (none_at k d l)) in
    rw no_dot refl
