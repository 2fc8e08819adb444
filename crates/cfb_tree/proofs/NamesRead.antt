-- A name's units spell the name.
use Rattle.std.proofs.Common.{◌≡◌, ℕ, ◌+◌, ◌-◌, ◌/◌, ◌%◌, ◌<◌, ◌≤◌, ◌^◌, List, [], ◌∷◌, ◌++◌, map, ap, sym, subst, ◌∙◌, arith, ◌⊎◌, inl, inr}
use Rattle.std.specs.Prelude.{Some}
use Rattle.std.specs.List.{AllByRecursion}
use Rattle.std.specs.Char.{IsScalar}
use Rattle.std.specs.Char.Escape.{encode_utf16}
use Rattle.std.specs.Char.Utf16.{utf16_chars, lone_unit_char}
use Rattle.std.proofs.lemmas.Str.{utf16_chars-nil, utf16_chars_lone, utf16_chars_pair}
use Rattle.std.proofs.lemmas.Bool.{lt-ltb, le-ltb, le-leb, lt-leb}
use Rattle.std.proofs.lemmas.Bool.Decides.{leb_tells}
use Rattle.std.proofs.Math.Utf8.{scalar_cases}
use Rattle.cfb_tree.specs.Names.{name_units}

-- a fact of the elements of two lists holds of the lists joined
pub all_append : {A : Type 0} (P : A → Type 0) (xs ys : List A) → AllByRecursion P xs → AllByRecursion P ys → AllByRecursion P (xs ++ ys)
all_append P [] ys h k = k
all_append P (x ∷ xs) ys h k = (h.0, all_append P xs ys h.1 k)

pub one_unit : (c : ℕ) → c < 0x1_0000 → encode_utf16 c ≡ c ∷ []
one_unit c h = rw (lt-ltb c 0x1_0000 h)

pub two_units : (c : ℕ) → 0x1_0000 ≤ c → encode_utf16 c ≡ (0xD800 + (c - 0x1_0000) / 0x400) ∷ (0xDC00 + (c - 0x1_0000) % 0x400) ∷ []
two_units c h = rw (le-ltb c 0x1_0000 h)

pub two_sides : (a b : ℕ) → (a < b) ⊎ (b ≤ a)
two_sides a b = elim (leb_tells b a) [ inl yes' ↦ inr yes'.1 | inr no' ↦ inl no'.1 ]

lone : (c : ℕ) → (c < 0xD800) ⊎ (0xE000 ≤ c) → lone_unit_char c ≡ Some c
lone c (inl below) = rw (lt-leb 0xD800 c below)
lone c (inr from) = rw (le-leb 0xD800 c (omega arith), le-ltb c 0xE000 from)

-- the units of a character spell it
short : (c : ℕ) (us : List ℕ) → (c < 0xD800) ⊎ (0xE000 ≤ c) → c < 0x1_0000 → utf16_chars (encode_utf16 c ++ us) ≡ Some c ∷ utf16_chars us
short c us apart small =
    ap (λ xs. utf16_chars (xs ++ us)) (one_unit c small)
    ∙ utf16_chars_lone c us (λ pair. omega (arith, apart, pair.0, pair.1))
    ∙ ap (λ o. o ∷ utf16_chars us) (lone c apart)

long : (c : ℕ) (us : List ℕ) → 0x1_0000 ≤ c → c < 0x11_0000 → utf16_chars (encode_utf16 c ++ us) ≡ Some c ∷ utf16_chars us
long c us large small =
    ap (λ xs. utf16_chars (xs ++ us)) (two_units c large)
    ∙ utf16_chars_pair (0xD800 + (c - 0x1_0000) / 0x400) (0xDC00 + (c - 0x1_0000) % 0x400) us (omega arith, omega arith, omega arith, omega arith)
    ∙ ap (λ d. Some d ∷ utf16_chars us) (omega arith)

spell : (c : ℕ) (us : List ℕ) → (c < 0xD800) ⊎ ((0xE000 ≤ c) × (c < 0x11_0000)) → utf16_chars (encode_utf16 c ++ us) ≡ Some c ∷ utf16_chars us
spell c us (inl below) = short c us (inl below) (omega arith)
spell c us (inr (from, below)) = elim (two_sides c 0x1_0000) [ inl small ↦ short c us (inr from) small | inr large ↦ long c us large below ]

-- the units of a name spell it
pub units_spell : (name : List ℕ) → AllByRecursion IsScalar name → utf16_chars (name_units name) ≡ map Some name
units_spell [] h = utf16_chars-nil
units_spell (c ∷ name) h = spell c (name_units name) (scalar_cases c h.0) ∙ ap (λ os. Some c ∷ os) (units_spell name h.1)

fit : (c : ℕ) → (c < 0xD800) ⊎ ((0xE000 ≤ c) × (c < 0x11_0000)) → AllByRecursion (λ u. u < 2 ^ 16) (encode_utf16 c)
fit c (inl below) = let P : List ℕ → Type 0 = λ us. AllByRecursion (λ u. u < 2 ^ 16) us in subst P (sym (one_unit c (omega arith))) (omega arith, tt)
fit c (inr (from, below)) = elim (two_sides c 0x1_0000) [
  | inl small ↦ let P : List ℕ → Type 0 = λ us. AllByRecursion (λ u. u < 2 ^ 16) us in subst P (sym (one_unit c small)) (small, tt)
  | inr large ↦ let P : List ℕ → Type 0 = λ us. AllByRecursion (λ u. u < 2 ^ 16) us in subst P (sym (two_units c large)) (omega arith, (omega arith, tt))
]

-- and each of them has two bytes
pub units_fit : (name : List ℕ) → AllByRecursion IsScalar name → AllByRecursion (λ u. u < 2 ^ 16) (name_units name)
units_fit [] h = tt
units_fit (c ∷ name) h = all_append (λ u. u < 2 ^ 16) (encode_utf16 c) (name_units name) (fit c (scalar_cases c h.0)) (units_fit name h.1)
