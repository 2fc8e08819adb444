-- Whether std reads a text as a number.
use Rattle.std.proofs.Common.{◌≡◌, ℕ, suc, ◌^◌, ◌<◌, ◌≤◌, Bool, true, false, cond, not, List, [], ◌∷◌, length, Result, Ok, Err, is_ok, ℤ, pos, neg_ℤ, refl, sym, ap, arith}
use Rattle.std.specs.Prelude.{nat_lt, nat_le, ◌==◌, ◌&&◌, if◌then◌else◌, Some, None}
use Rattle.std.specs.Bool.{Decides}
use Rattle.std.specs.Result.{OkIff, result_ok}
use Rattle.std.specs.List.{list_all}
use Rattle.std.specs.Char.{is_ascii_digit, digit_value}
use Rattle.std.specs.Int.{w16, w32}
use Rattle.std.specs.Str.Parse.{AllDigits, IsNumeral, digits_value, without_leading_plus, without_leading_sign, starts_with_minus, signed_digits_value, ParsesUnsigned, ParsesSigned}
use Rattle.std.proofs.lemmas.Int.{ints}
use mir.Val.{SFits}
use Rattle.std.proofs.lemmas.Bool.Decides.{nat_tests, same_from_decides, Decides-and, Decides-ltb}
use Rattle.msi_texts.specs.Category.{is_numeral, reads_unsigned, reads_signed}
use Rattle.std.proofs.lemmas.Bool.{and_parts}

-- a digit's value is below ten
digit_below : (c : ℕ) → digit_value c < 10 → is_ascii_digit c ≡ true
digit_below c h = grind (arith, nat_tests, h)

digit_valued : (c : ℕ) → is_ascii_digit c ≡ true → digit_value c < 10
digit_valued c h = grind (arith, nat_tests, h)

and_both : (a b : Bool) → a ≡ true → b ≡ true → a && b ≡ true
and_both a b e f = rw (e, f) refl

digits_tested : (ds : List ℕ) → AllDigits 10 ds → list_all is_ascii_digit ds ≡ true
digits_tested [] h = refl
digits_tested (c ∷ cs) h = and_both _ _ (digit_below c h.0) (digits_tested cs h.1)

digits_told : (ds : List ℕ) → list_all is_ascii_digit ds ≡ true → AllDigits 10 ds
digits_told [] h = tt
digits_told (c ∷ cs) h = (digit_valued c (and_parts _ _ h).0, digits_told cs (and_parts _ _ h).1)

numeral_decides : (ds : List ℕ) → Decides (is_numeral ds) (IsNumeral 10 ds)
numeral_decides [] = (λ h. cc, λ h. absurd (omega arith))
numeral_decides (c ∷ cs) = (λ h. (omega arith, digits_told (c ∷ cs) (and_parts _ _ h).1), λ h. let some : not (length (c ∷ cs) == 0) ≡ true = grind (arith, nat_tests) in and_both _ _ some (digits_tested (c ∷ cs) h.1))

ok_decides : {T E : Type 0} (r : Result T E) (P : Type 0) (v : T) → OkIff r P v → Decides (is_ok r) P
ok_decides (Ok x) P v h = (λ _. h.0, λ _. refl)
ok_decides (Err e) P v h = (λ z. cc, λ p. absurd (h p))

pub parsed_unsigned : {E : Type 0} (k : ℕ) (bs : List ℕ) (r : Result ℕ E) → ParsesUnsigned k 10 bs r → is_ok r ≡ reads_unsigned (2 ^ k) bs
parsed_unsigned k bs r h =
    let ds = without_leading_plus bs in
    same_from_decides (is_ok r) (reads_unsigned (2 ^ k) bs) (ok_decides r _ (digits_value 10 ds) h) (Decides-and _ _ (numeral_decides ds) (Decides-ltb (digits_value 10 ds) (2 ^ k)))

le_told : (n m : ℕ) → nat_le n m ≡ true → n ≤ m
le_told n m h = grind (arith, nat_tests, h)

le_tested : (n m : ℕ) → n ≤ m → nat_le n m ≡ true
le_tested n m h = grind (arith, nat_tests, h)

-- which numbers of sixteen and of 32 bits there are
range_16 : (minus : Bool) (n : ℕ) → Decides (cond minus (nat_le n (2 ^ 15)) (nat_lt n (2 ^ 15))) (SFits w16 (cond minus (neg_ℤ (pos n)) (pos n)))
range_16 true n = (λ h. let l = le_told n 32768 h in omega (arith, ints), λ h. le_tested n 32768 (omega (arith, ints)))
range_16 false n = (λ h. let l = le_told (suc n) 32768 h in omega (arith, ints), λ h. le_tested (suc n) 32768 (omega (arith, ints)))

range_32 : (minus : Bool) (n : ℕ) → Decides (cond minus (nat_le n (2 ^ 31)) (nat_lt n (2 ^ 31))) (SFits w32 (cond minus (neg_ℤ (pos n)) (pos n)))
range_32 true n = (λ h. let l = le_told n 2147483648 h in omega (arith, ints), λ h. le_tested n 2147483648 (omega (arith, ints)))
range_32 false n = (λ h. let l = le_told (suc n) 2147483648 h in omega (arith, ints), λ h. le_tested (suc n) 2147483648 (omega (arith, ints)))

pub parsed_16 : {E : Type 0} (bs : List ℕ) (r : Result ℤ E) → ParsesSigned w16 10 bs r → is_ok r ≡ reads_signed (2 ^ 15) bs
parsed_16 bs r h =
    let ds = without_leading_sign bs in
    same_from_decides (is_ok r) (reads_signed (2 ^ 15) bs) (ok_decides r _ (signed_digits_value 10 bs) h) (Decides-and _ _ (numeral_decides ds) (range_16 (starts_with_minus bs) (digits_value 10 ds)))

pub parsed_32 : {E : Type 0} (bs : List ℕ) (r : Result ℤ E) → ParsesSigned w32 10 bs r → is_ok r ≡ reads_signed (2 ^ 31) bs
parsed_32 bs r h =
    let ds = without_leading_sign bs in
    same_from_decides (is_ok r) (reads_signed (2 ^ 31) bs) (ok_decides r _ (signed_digits_value 10 bs) h) (Decides-and _ _ (numeral_decides ds) (range_32 (starts_with_minus bs) (digits_value 10 ds)))

-- the number that std reads
pub number_parsed : {E : Type 0} (k : ℕ) (bs : List ℕ) (r : Result ℕ E) → ParsesUnsigned k 10 bs r → (if reads_unsigned (2 ^ k) bs then Some (digits_value 10 (without_leading_plus bs)) else None) ≡ result_ok r
number_parsed {E} k bs (Ok x) h = let read : reads_unsigned (2 ^ k) bs ≡ true = sym (parsed_unsigned {E = E} k bs (Ok x) h) in rw read (ap Some (sym h.1))
number_parsed {E} k bs (Err e) h = let read : reads_unsigned (2 ^ k) bs ≡ false = sym (parsed_unsigned {E = E} k bs (Err e) h) in rw read
