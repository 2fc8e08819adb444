-- What is left of a list at each turn of a loop over it.
use Rattle.std.proofs.Common.{refl, Bool, true, false, not, ◌≡◌, ℕ, ◌+◌, ◌*◌, ◌<◌, ◌≤◌, ◌⊎◌, inl, inr, List, [], ◌∷◌, ◌++◌, length, get_or, drop, sym, ap, ◌∙◌, arith, flat_map, length-append, append_assoc, append-nil}
use Rattle.std.specs.Str.{chars, IsUtf8}
use Rattle.std.proofs.lemmas.Str.{length-le-encodes, encodes-chars}
use Rattle.std.proofs.lemmas.List.{at_drop_more, at_drop_all, length_push}
use Rattle.std.specs.Prelude.{nat_le, ◌&&◌, IsTrue}
use Rattle.std.specs.List.{list_all}
use Rattle.std.proofs.lemmas.Bool.Decides.{nat_tests}
use Rattle.cfb_tree.specs.Names.{is_forbidden, is_name, name_units}
use Rattle.std.specs.Char.Escape.{encode_utf16}
use Rattle.cfb_tree.proofs.NamesRead.{one_unit, two_units, two_sides}

pub rest_behind : {A B : Type 0} (all : List A) (ys : List B) (x : B) (y : A) → (length ys < length all) × (y ≡ get_or all (length ys) y) → drop (length ys) all ≡ y ∷ drop (length (ys ++ x ∷ [])) all
rest_behind all ys x y h =
    at_drop_more (λ z. z) all (length ys) y h.0 ∙ ap (λ x. x ∷ drop (length ys + 1) all) (sym h.1)
    ∙ ap (λ n. y ∷ drop n all) (sym (length_push ys x))

pub rest_before : {A : Type 0} (all ys : List A) (y : A) → (length ys < length all) × (y ≡ get_or all (length ys) y) → drop (length ys) all ≡ y ∷ drop (length (ys ++ y ∷ [])) all
rest_before all ys y h = rest_behind all ys y y h

pub rest_after : {A : Type 0} (all : List A) (n : ℕ) → n ≡ length all → drop n all ≡ []
rest_after all n h = at_drop_all (λ z. z) all n (omega (arith, h))

-- a character's units are one or two
pub unit_count : (n c : ℕ) → (c < 0x1_0000 → n ≡ 1) → (0x1_0000 ≤ c → n ≡ 2) → n ≡ length (encode_utf16 c)
unit_count n c one two = elim (two_sides c 0x1_0000) [
  | inl small ↦ one small ∙ ap length (sym (one_unit c small))
  | inr large ↦ two large ∙ ap length (sym (two_units c large))
]

few_units : (c : ℕ) → length (encode_utf16 c) ≤ 2
few_units c = elim (two_sides c 0x1_0000) [
  | inl small ↦ omega (arith, ap length (one_unit c small))
  | inr large ↦ omega (arith, ap length (two_units c large))
]

-- the units of a character move from what is to come to what is counted
pub counted : (f : ℕ → ℕ) (units n all c : ℕ) (whole rest : List ℕ) → units + length (flat_map (λ d. encode_utf16 (f d)) whole) ≡ all → whole ≡ c ∷ rest → n ≡ length (encode_utf16 (f c))
    → units + n + length (flat_map (λ d. encode_utf16 (f d)) rest) ≡ all
counted f units n all c whole rest kept cut is =
    omega (arith, kept, is, ap (λ z. length (flat_map (λ d. encode_utf16 (f d)) z)) cut, length-append (encode_utf16 (f c)) (flat_map (λ d. encode_utf16 (f d)) rest))

pub short : (f : ℕ → ℕ) (cs : List ℕ) → length (flat_map (λ d. encode_utf16 (f d)) cs) ≤ 2 * length cs
short f [] = omega arith
short f (c ∷ cs) = omega (arith, short f cs, few_units (f c), length-append (encode_utf16 (f c)) (flat_map (λ d. encode_utf16 (f d)) cs))

pub all_counted : (f : ℕ → ℕ) (units all : ℕ) (rest : List ℕ) → units + length (flat_map (λ d. encode_utf16 (f d)) rest) ≡ all → rest ≡ [] → units ≡ all
all_counted f units all rest kept end = omega (arith, kept, ap (λ z. length (flat_map (λ d. encode_utf16 (f d)) z)) end)

-- the key of a name has at most twice its bytes
pub short_key : (f : ℕ → ℕ) (bs : List ℕ) → IsUtf8 bs → length (flat_map (λ d. encode_utf16 (f d)) (chars bs)) ≤ 2 * length bs
short_key f bs u = omega (arith, short f (chars bs), length-le-encodes (chars bs), ap length (encodes-chars bs u))

-- the same with the units in place of their number
pub moved : (f : ℕ → ℕ) (units next all : List ℕ) (c : ℕ) (whole rest : List ℕ) → units ++ flat_map (λ d. encode_utf16 (f d)) whole ≡ all → whole ≡ c ∷ rest → next ≡ units ++ encode_utf16 (f c)
    → next ++ flat_map (λ d. encode_utf16 (f d)) rest ≡ all
moved f units next all c whole rest kept cut is =
    ap (λ z. z ++ flat_map (λ d. encode_utf16 (f d)) rest) is ∙ append_assoc units (encode_utf16 (f c)) (flat_map (λ d. encode_utf16 (f d)) rest)
    ∙ ap (λ z. units ++ flat_map (λ d. encode_utf16 (f d)) z) (sym cut) ∙ kept

pub all_moved : (f : ℕ → ℕ) (units all : List ℕ) (rest : List ℕ) → units ++ flat_map (λ d. encode_utf16 (f d)) rest ≡ all → rest ≡ [] → units ≡ all
all_moved f units all rest kept end = sym (append-nil units) ∙ ap (λ z. units ++ flat_map (λ d. encode_utf16 (f d)) z) (sym end) ∙ kept

-- a name's units, and whether its characters are allowed, one turn further
abbrev pub is_allowed : List ℕ → Bool
is_allowed cs = list_all (λ c. not (is_forbidden c)) cs

pub still_allowed : (c : ℕ) (whole rest all : List ℕ) → is_allowed whole ≡ is_allowed all → whole ≡ c ∷ rest → is_forbidden c ≡ false → is_allowed rest ≡ is_allowed all
still_allowed c whole rest all kept cut fine =
    ap (λ b. not b && is_allowed rest) (sym fine) ∙ ap is_allowed (sym cut) ∙ kept

not_allowed : (c : ℕ) (whole rest all : List ℕ) → is_allowed whole ≡ is_allowed all → whole ≡ c ∷ rest → is_forbidden c ≡ true → is_allowed all ≡ false
not_allowed c whole rest all kept cut bad = sym kept ∙ ap is_allowed cut ∙ ap (λ b. not b && is_allowed rest) bad

test_of : (n : ℕ) (b : Bool) → (b ≡ false) ⊎ ((n < 1) ⊎ (31 < n)) → (nat_le 1 n && nat_le n 31 && b) ≡ false
test_of n b (inl h) = grind (arith, nat_tests, h)
test_of n b (inr h) = grind (arith, nat_tests, h)

refused : (b : Bool) → b ≡ false → (false ≡ true → IsTrue b) × (IsTrue b → false ≡ true)
refused b h = (λ e. absurd (cc), λ t. absurd (cc (h, t)))

passes : (n : ℕ) (b : Bool) → b ≡ true → 1 ≤ n → n ≤ 31 → IsTrue (nat_le 1 n && nat_le n 31 && b)
passes n b h some few = grind (arith, nat_tests, h)

pub too_long : (units more : ℕ) (name : List ℕ) → units + more ≡ length (name_units name) → 31 < units → (false ≡ true → IsTrue (is_name name)) × (IsTrue (is_name name) → false ≡ true)
too_long units more name all h = refused (is_name name) (test_of (length (name_units name)) (is_allowed name) (inr (inr (omega arith))))

pub forbidden_in : (c : ℕ) (whole rest name : List ℕ) → is_allowed whole ≡ is_allowed name → whole ≡ c ∷ rest → is_forbidden c ≡ true → (false ≡ true → IsTrue (is_name name)) × (IsTrue (is_name name) → false ≡ true)
forbidden_in c whole rest name kept cut bad = refused (is_name name) (test_of (length (name_units name)) (is_allowed name) (inl (not_allowed c whole rest name kept cut bad)))

pub empty_name : (units : ℕ) (rest name : List ℕ) → units + length (name_units rest) ≡ length (name_units name) → rest ≡ [] → units ≡ 0 → (false ≡ true → IsTrue (is_name name)) × (IsTrue (is_name name) → false ≡ true)
empty_name units rest name all end none =
    refused (is_name name) (test_of (length (name_units name)) (is_allowed name) (inr (inl (omega (arith, all, none, ap (λ z. length (name_units z)) end)))))

pub taken_name : (units : ℕ) (rest name : List ℕ) → units + length (name_units rest) ≡ length (name_units name) → is_allowed rest ≡ is_allowed name → rest ≡ [] → units ≤ 31 → 0 < units
    → (true ≡ true → IsTrue (is_name name)) × (IsTrue (is_name name) → true ≡ true)
taken_name units rest name all kept end few some =
    let count : length (name_units name) ≡ units = omega (arith, all, ap (λ z. length (name_units z)) end) in
    let fine : is_allowed name ≡ true = sym kept ∙ ap is_allowed end in
    (λ _. passes (length (name_units name)) (is_allowed name) fine (omega arith) (omega arith), λ _. refl)
