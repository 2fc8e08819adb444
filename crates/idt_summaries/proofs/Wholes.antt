-- Whole numbers as std reads them, and as they are written.
use Rattle.std.proofs.Common.{◌≡◌, ◌∙◌, ℕ, suc, ◌<◌, ◌≤◌, ◌^◌, Bool, true, false, cond, not, List, [], ◌∷◌, length, Result, Ok, Err, is_ok, ℤ, pos, negsuc, neg_ℤ, refl, sym, ap, ap₂, arith}
use Rattle.std.specs.Prelude.{nat_lt, nat_le, ◌==◌, ◌&&◌, if◌then◌else◌, Option, Some, None}
use Rattle.std.specs.Bool.{Decides}
use Rattle.std.specs.Result.{OkIff, result_ok}
use Rattle.std.specs.List.{list_all}
use Rattle.std.specs.Char.{is_ascii_digit, digit_value}
use Rattle.std.specs.Fmt.{decimal, signed_decimal}
use Rattle.std.specs.Int.{w8, w16, w32}
use Rattle.std.specs.Str.Parse.{AllDigits, IsNumeral, digits_value, without_leading_sign, starts_with_minus, signed_digits_value, ParsesSigned}
use Rattle.std.proofs.lemmas.Bool.{and_parts}
use Rattle.std.proofs.lemmas.Bool.Decides.{nat_tests, same_from_decides, Decides-and}
use Rattle.std.proofs.lemmas.Fmt.{decimal_is_IsNumeral}
use Rattle.std.proofs.lemmas.Int.{ints}
use Rattle.idt_rows.proofs.NumbersRead.{digits_tested}
use Rattle.idt_rows.specs.Rows.{is_numeral, is_whole}
use Rattle.idt_summaries.specs.Numbers.{is_whole_in, whole_in}
use mir.Syntax.{Width}
use mir.Val.{SFits}

digit_valued : (c : ℕ) → is_ascii_digit c ≡ true → digit_value c < 10
digit_valued c h = grind (arith, nat_tests, h)

pub and_both : (a b : Bool) → a ≡ true → b ≡ true → a && b ≡ true
and_both a b e f = rw (e, f) refl

digits_told : (ds : List ℕ) → list_all is_ascii_digit ds ≡ true → AllDigits 10 ds
digits_told [] h = tt
digits_told (c ∷ cs) h = (digit_valued c (and_parts _ _ h).0, digits_told cs (and_parts _ _ h).1)

numeral_decides : (ds : List ℕ) → Decides (is_numeral ds) (IsNumeral 10 ds)
numeral_decides [] = (λ h. cc, λ h. absurd (omega arith))
numeral_decides (c ∷ cs) = (λ h. (omega arith, digits_told (c ∷ cs) (and_parts _ _ h).1), λ h. let some : not (length (c ∷ cs) == 0) ≡ true = grind (arith, nat_tests) in and_both _ _ some (digits_tested (c ∷ cs) h.1))

ok_decides : {T E : Type 0} (r : Result T E) (P : Type 0) (v : T) → OkIff r P v → Decides (is_ok r) P
ok_decides (Ok x) P v h = (λ _. h.0, λ _. refl)
ok_decides (Err e) P v h = (λ z. cc, λ p. absurd (h p))

le_told : (n m : ℕ) → nat_le n m ≡ true → n ≤ m
le_told n m h = grind (arith, nat_tests, h)

le_tested : (n m : ℕ) → n ≤ m → nat_le n m ≡ true
le_tested n m h = grind (arith, nat_tests, h)

-- the test of a number's range is that of a type
abbrev Ranges : ℕ → Width → Type 0
Ranges bits w = (minus : Bool) (n : ℕ) → Decides (cond minus (nat_le n (2 ^ bits)) (nat_lt n (2 ^ bits))) (SFits w (cond minus (neg_ℤ (pos n)) (pos n)))

pub range_31 : Ranges 31 w32
range_31 true n = (λ h. let l = le_told n 2147483648 h in omega (arith, ints), λ h. le_tested n 2147483648 (omega (arith, ints)))
range_31 false n = (λ h. let l = le_told (suc n) 2147483648 h in omega (arith, ints), λ h. le_tested (suc n) 2147483648 (omega (arith, ints)))

pub range_15 : Ranges 15 w16
range_15 true n = (λ h. let l = le_told n 32768 h in omega (arith, ints), λ h. le_tested n 32768 (omega (arith, ints)))
range_15 false n = (λ h. let l = le_told (suc n) 32768 h in omega (arith, ints), λ h. le_tested (suc n) 32768 (omega (arith, ints)))

pub range_7 : Ranges 7 w8
range_7 true n = (λ h. let l = le_told n 128 h in omega (arith, ints), λ h. le_tested n 128 (omega (arith, ints)))
range_7 false n = (λ h. let l = le_told (suc n) 128 h in omega (arith, ints), λ h. le_tested (suc n) 128 (omega (arith, ints)))

parsed : {E : Type 0} (bits : ℕ) (w : Width) → Ranges bits w → (bs : List ℕ) (r : Result ℤ E) → ParsesSigned w 10 bs r → is_ok r ≡ is_whole_in bits bs
parsed bits w range bs r h =
    let ds = without_leading_sign bs in
    same_from_decides (is_ok r) (is_whole_in bits bs) (ok_decides r _ (signed_digits_value 10 bs) h) (Decides-and _ _ (numeral_decides ds) (range (starts_with_minus bs) (digits_value 10 ds)))

-- the number that std reads
pub whole_parsed : {E : Type 0} (bits : ℕ) (w : Width) → Ranges bits w → (bs : List ℕ) (r : Result ℤ E) → ParsesSigned w 10 bs r → result_ok r ≡ whole_in bits bs
whole_parsed {E} bits w range bs (Ok x) h = let read : is_whole_in bits bs ≡ true = sym (parsed {E = E} bits w range bs (Ok x) h) in rw read (ap Some h.1)
whole_parsed {E} bits w range bs (Err e) h = let read : is_whole_in bits bs ≡ false = sym (parsed {E = E} bits w range bs (Err e) h) in rw read refl

-- ---- written

-- a list of digits begins with no sign
plain_sign : (ds : List ℕ) → IsNumeral 10 ds → (starts_with_minus ds ≡ false) × (without_leading_sign ds ≡ ds)
plain_sign [] h = absurd (omega (arith, h.0))
plain_sign (c ∷ cs) h = grind (arith, nat_tests, h.1.0)

numeral : (ds : List ℕ) → IsNumeral 10 ds → is_numeral ds ≡ true
numeral [] h = absurd (omega (arith, h.0))
numeral (c ∷ cs) h = and_both _ _ (grind (arith, nat_tests)) (digits_tested (c ∷ cs) h.1)

-- what is read, by whether a minus stands first, and by the digits
abbrev reads_by : ℕ → Bool → List ℕ → Bool
reads_by bits minus ds = is_numeral ds && (if minus then nat_le (digits_value 10 ds) (2 ^ bits) else nat_lt (digits_value 10 ds) (2 ^ bits))

abbrev value_by : Bool → List ℕ → ℤ
value_by minus ds = cond minus (neg_ℤ (pos (digits_value 10 ds))) (pos (digits_value 10 ds))

abbrev whole_by : Bool → ℤ → Option ℤ
whole_by is z = if is then Some z else None

-- digits are read as their number
pub digits_read : (bits : ℕ) (ds : List ℕ) (n : ℕ) → IsNumeral 10 ds → digits_value 10 ds ≡ n → nat_lt n (2 ^ bits) ≡ true → whole_in bits ds ≡ Some (pos n)
digits_read bits ds n is value below =
    let sign = plain_sign ds is in
    ap₂ whole_by
    (ap₂ (reads_by bits) sign.0 sign.1 ∙ and_both _ _ (numeral ds is) (ap (λ v. nat_lt v (2 ^ bits)) value ∙ below))
    (ap₂ value_by sign.0 sign.1 ∙ ap pos value)

minus_read : (ds : List ℕ) (n : ℕ) → IsNumeral 10 ds → digits_value 10 ds ≡ suc n → nat_lt n 2147483648 ≡ true → whole_in 31 (45 ∷ ds) ≡ Some (negsuc n)
minus_read ds n is value below =
    ap₂ whole_by (and_both _ _ (numeral ds is) (ap (λ v. nat_le v 2147483648) value ∙ grind (arith, nat_tests, below))) (ap (λ v. neg_ℤ (pos v)) value)

small : (n : ℕ) → nat_lt n 2147483648 ≡ true → n < 2 ^ 63
small n h = grind (arith, nat_tests, h)

-- a number of 32 bits is read back
pub whole_back : (z : ℤ) → is_whole z ≡ true → whole_in 31 (signed_decimal z) ≡ Some z
whole_back (pos n) h =
    let below = small n h in
    let is = decimal_is_IsNumeral n (omega arith) in
    digits_read 31 (decimal n) n is.0 is.1 h
whole_back (negsuc n) h =
    let below = small n h in
    let is = decimal_is_IsNumeral (suc n) (omega arith) in
    minus_read (decimal (suc n)) n is.0 is.1 h
