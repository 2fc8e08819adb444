-- Widths that were read.
use Rattle.std.proofs.Common.{◌≡◌, ◌∙◌, ℕ, ◌+◌, ◌-◌, ◌*◌, ◌<◌, ◌≤◌, Bool, true, false, not, List, [], ◌∷◌, length, get_or, take, refl, sym, subst, ap, ap₂, arith}
use Rattle.std.specs.Prelude.{nat_lt, ◌==◌, ◌&&◌, if◌then◌else◌, Some, None, Option}
use Rattle.std.specs.Char.{is_ascii_digit, digit_value}
use Rattle.std.specs.List.{list_all}
use Rattle.std.specs.Str.Parse.{AllDigits, IsNumeral, digits_value}
use Rattle.std.proofs.lemmas.Bool.Decides.{nat_tests}
use Rattle.std.proofs.lemmas.List.{take_all}
use Rattle.std.proofs.lemmas.Int.Digits.{digits_more, digits_value_more}
use Rattle.std.proofs.lemmas.Str.Parse.{digits_value-take-le}
use Rattle.idt_tables.proofs.HeadingsBack.{width_read}
use Rattle.idt_tables.specs.Headings.{is_width, width_in}

abbrev shown_by : ℕ → Bool → Option ℕ
shown_by n fits = if fits then Some n else None

pub read : (ds : List ℕ) (n : ℕ) → 0 < length ds → AllDigits 10 ds → n ≡ digits_value 10 ds → n < 65536 → Some n ≡ width_in ds
read ds n some all value small =
    let below : nat_lt n 65536 ≡ true = grind (arith, nat_tests, small) in
    ap Some value ∙ sym (ap (shown_by (digits_value 10 ds)) (width_read ds n (some, all) (sym value) below))

and_false : (a b : Bool) → b ≡ false → a && b ≡ false
and_false true b e = e
and_false false b e = refl

pub too_wide : (ds : List ℕ) (i : ℕ) → 65536 ≤ digits_value 10 (take i ds) → None ≡ width_in ds
too_wide ds i h =
    let more : digits_value 10 (take i ds) ≤ digits_value 10 ds = digits_value-take-le 10 ds i (omega arith) in
    let past : 65536 ≤ digits_value 10 ds = omega (arith, more, h) in
    let tested : nat_lt (digits_value 10 ds) 65536 ≡ false = grind (arith, nat_tests, past) in
    sym (ap (shown_by (digits_value 10 ds)) (and_false (not (length ds == 0) && list_all is_ascii_digit ds) (nat_lt (digits_value 10 ds) 65536) tested))

digit_valued : (c : ℕ) → is_ascii_digit c ≡ true → digit_value c < 10
digit_valued c h = grind (arith, nat_tests, h)

digit_is : (c : ℕ) → is_ascii_digit c ≡ true → digit_value c ≡ c - 48
digit_is c h = grind (arith, nat_tests, h)

module _ (ds : List ℕ) (i : ℕ) (below : i < length ds) (is : is_ascii_digit (get_or ds i 0) ≡ true) where
  pub more_digits : AllDigits 10 (take i ds) → AllDigits 10 (take (i + 1) ds)
  more_digits all = digits_more 10 ds i below all (digit_valued (get_or ds i 0) is)

  pub more_value : (n d : ℕ) → n ≡ digits_value 10 (take i ds) → d ≡ get_or ds i 0 - 48 → n * 10 + d ≡ digits_value 10 (take (i + 1) ds)
  more_value n d so_far one = ap₂ (λ x y. x * 10 + y) so_far (one ∙ sym (digit_is (get_or ds i 0) is)) ∙ sym (digits_value_more 10 ds i below)

some : (ds : List ℕ) → (length ds == 0) ≡ false → 0 < length ds
some ds h = grind (arith, nat_tests, h)

-- the number of all digits
pub all_taken : (ds : List ℕ) (i n : ℕ) → length ds ≤ i → (length ds == 0) ≡ false → AllDigits 10 (take i ds) → n ≡ digits_value 10 (take i ds) → n < 65536 → Some n ≡ width_in ds
all_taken ds i n past h all value small =
    let whole : take i ds ≡ ds = take_all i ds past in
    read ds n (some ds h) (subst (AllDigits 10) whole all) (value ∙ ap (digits_value 10) whole) small
