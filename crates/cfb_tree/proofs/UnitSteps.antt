-- Units that are decoded from their front.
use Rattle.std.proofs.Common.{◌≡◌, ℕ, ◌<◌, ◌≤◌, List, [], ◌∷◌, map, length, drop, get_or, ◌++◌, append-nil, refl, sym, ap, ◌∙◌, arith, true, false, ◌⊎◌}
use Rattle.std.specs.Prelude.{Option, Some, None, ◌&&◌, nat_le, nat_lt}
use Rattle.std.specs.List.{AllByRecursion}
use Rattle.std.specs.Char.{IsScalar}
use Rattle.std.specs.Char.Utf16.{utf16_chars, lone_unit_char, is_high_surrogate, is_low_surrogate, surrogate_pair_char}

no_head : (os : List (Option ℕ)) (name : List ℕ) → None ∷ os ≡ map Some name → ⊥
no_head os [] e = absurd (cc)
no_head os (c ∷ name) e = absurd (cc)

is_lone : (u : ℕ) → (u < 0xD800) ⊎ (0xE000 ≤ u) → lone_unit_char u ≡ Some u
is_lone u h = let test : (nat_le 0xD800 u && nat_lt u 0xE000) ≡ false = grind arith in rw test refl

is_none : (u : ℕ) → 0xD800 ≤ u → u < 0xE000 → lone_unit_char u ≡ None
is_none u from below = let test : (nat_le 0xD800 u && nat_lt u 0xE000) ≡ true = grind arith in rw test refl

not_high : (u : ℕ) → (u < 0xD800) ⊎ (0xE000 ≤ u) → is_high_surrogate u ≡ false
not_high u h = grind arith

-- a unit that is no surrogate is a character
pub lone_first : (units : List ℕ) → 0 < length units → (get_or units 0 0 < 0xD800) ⊎ (0xE000 ≤ get_or units 0 0)
    → utf16_chars units ≡ Some (get_or units 0 0) ∷ utf16_chars (drop 1 units)
unfolding utf16_chars
lone_first [] some_there h = absurd (omega arith)
lone_first (u ∷ []) some_there h = ap (λ o. o ∷ []) (is_lone u h)
lone_first (u ∷ v ∷ us) some_there h = let test : (is_high_surrogate u && is_low_surrogate v) ≡ false = rw (not_high u h) refl in rw test (ap (λ o. o ∷ utf16_chars (v ∷ us)) (is_lone u h))

-- a surrogate without a partner spells nothing
pub unpaired_first : (units name : List ℕ) → 0 < length units → 0xD800 ≤ get_or units 0 0 → get_or units 0 0 < 0xE000
    → (0xDC00 ≤ get_or units 0 0) ⊎ (length units < 2) ⊎ (get_or units 1 0 < 0xDC00) ⊎ (0xE000 ≤ get_or units 1 0)
    → utf16_chars units ≡ map Some name → ⊥
unfolding utf16_chars
unpaired_first [] name some_there from below why e = absurd (omega arith)
unpaired_first (u ∷ []) name some_there from below why e = no_head [] name (ap (λ o. o ∷ []) (sym (is_none u from below)) ∙ e)
unpaired_first (u ∷ v ∷ us) name some_there from below why e =
    let test : (is_high_surrogate u && is_low_surrogate v) ≡ false = grind arith in
    no_head (utf16_chars (v ∷ us)) name (ap (λ o. o ∷ utf16_chars (v ∷ us)) (sym (is_none u from below)) ∙ rw test at e)

-- two surrogates are a character
pub pair_first : (units : List ℕ) → 1 < length units → 0xD800 ≤ get_or units 0 0 → get_or units 0 0 < 0xDC00 → 0xDC00 ≤ get_or units 1 0 → get_or units 1 0 < 0xE000
    → utf16_chars units ≡ Some (surrogate_pair_char (get_or units 0 0) (get_or units 1 0)) ∷ utf16_chars (drop 2 units)
unfolding utf16_chars
pair_first [] two_there a b c d = absurd (omega arith)
pair_first (u ∷ []) two_there a b c d = absurd (omega arith)
pair_first (u ∷ v ∷ us) two_there a b c d =
    let test : (is_high_surrogate u && is_low_surrogate v) ≡ true = grind arith in rw test refl

-- what no name is the end of, no name is
pub tail_none : (front : List ℕ) (rest : List (Option ℕ)) → ((name : List ℕ) → rest ≡ map Some name → ⊥) → (name : List ℕ) → map Some front ++ rest ≡ map Some name → ⊥
tail_none [] rest h name e = h name e
tail_none (x ∷ front) rest h [] e = absurd (cc)
tail_none (x ∷ front) rest h (c ∷ name) e = let tails : map Some front ++ rest ≡ map Some name = cc in tail_none front rest h name tails

-- nothing is left
pub none_left : (units rest front : List ℕ) → utf16_chars units ≡ map Some front ++ utf16_chars rest → length rest ≡ 0 → utf16_chars units ≡ map Some front
unfolding utf16_chars
none_left units [] front e empty = e ∙ append-nil (map Some front)
none_left units (u ∷ rest) front e empty = absurd (omega arith)

-- characters stay characters
pub all_kept : (f : ℕ → ℕ) → ((c : ℕ) → IsScalar c → IsScalar (f c)) → (cs : List ℕ) → AllByRecursion IsScalar cs → AllByRecursion (λ c. IsScalar (f c)) cs
all_kept f keeps [] h = tt
all_kept f keeps (c ∷ cs) h = (keeps c h.0, all_kept f keeps cs h.1)
