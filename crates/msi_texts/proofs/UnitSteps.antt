-- Counting the units of a name, one turn at a time.
use Rattle.std.proofs.Common.{◌≡◌, ℕ, ◌+◌, ◌<◌, ◌≤◌, Bool, true, false, List, [], ◌∷◌, Option, Some, None, refl, ap, sym, ◌∙◌, arith}
use Rattle.std.specs.Prelude.{nat_le, nat_lt, ◌-◌, ◌/◌, ◌%◌, ◌++◌, cond, length}
use Rattle.std.specs.Char.Escape.{encode_utf16}
use Rattle.std.proofs.lemmas.Bool.Decides.{nat_tests}
use Rattle.msi_texts.specs.StreamName.{lone, spelled_after, unit_count}

-- what is written moves from what is to come
pub units_moved : (units written all : ℕ) (before after : Option ℕ) (c : ℕ) (whole rest : List ℕ) → units + unit_count (spelled_after before whole) ≡ all → whole ≡ c ∷ rest →
    written + unit_count (spelled_after after rest) ≡ unit_count (spelled_after before (c ∷ rest)) → units + written + unit_count (spelled_after after rest) ≡ all
units_moved units written all before after c whole rest kept cut step = omega (arith, kept, step, ap (λ z. unit_count (spelled_after before z)) cut)

-- too many so far are too many in all
pub too_many : (units more all most : ℕ) → units + more ≡ all → most < units → false ≡ nat_le all most
too_many units more all most e h = grind (arith, nat_tests)

units_of_char : (n c : ℕ) → (c < 65536 → n ≡ 1) → (65536 ≤ c → n ≡ 2) → n ≡ length (encode_utf16 c ++ [])
units_of_char n c one two = go (nat_lt c 65536) refl
  where
    go : (b : Bool) → nat_lt c 65536 ≡ b → n ≡ length (cond b (c ∷ []) ((0xD800 + (c - 0x10000) / 0x400) ∷ (0xDC00 + (c - 0x10000) % 0x400) ∷ []) ++ [])
    go true e = one (grind (arith, nat_tests, e))
    go false e = two (grind (arith, nat_tests, e))

-- the character that waits at the end is written alone
pub units_last : (units n all last c : ℕ) (pending : Option ℕ) (rest : List ℕ) → units + unit_count (spelled_after pending rest) ≡ all → pending ≡ Some last → rest ≡ [] → c ≡ lone last →
    (c < 65536 → n ≡ 1) → (65536 ≤ c → n ≡ 2) → units + n ≡ all
units_last units n all last c pending rest kept waits end is one two =
    ap (λ m. units + m) (units_of_char n c one two ∙ ap (λ z. length (encode_utf16 z ++ [])) is)
    ∙ ap (λ p. units + unit_count (spelled_after p [])) (sym waits) ∙ ap (λ r. units + unit_count (spelled_after pending r)) (sym end) ∙ kept

-- where none waits all is written
pub units_none : (units all : ℕ) (pending : Option ℕ) (rest : List ℕ) → units + unit_count (spelled_after pending rest) ≡ all → pending ≡ None → rest ≡ [] → units ≡ all
units_none units all pending rest kept waits end =
    let nothing : unit_count (spelled_after pending rest) ≡ 0 = ap (λ p. unit_count (spelled_after p rest)) waits ∙ ap (λ r. unit_count (spelled_after None r)) end in
    omega arith

-- few units in all
pub few_units : (units all most : ℕ) → units ≡ all → units ≤ most → true ≡ nat_le all most
few_units units all most e l = grind (arith, nat_tests)
