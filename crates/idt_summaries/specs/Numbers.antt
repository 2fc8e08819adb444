-- Whole numbers as texts have them.
use Rattle.std.specs.Prelude.{ℕ, ◌^◌, Bool, ◌&&◌, List, nat_le, nat_lt, if◌then◌else◌, Option, Some, None, ℤ}
use Rattle.std.specs.Str.Parse.{digits_value, signed_digits_value, starts_with_minus, without_leading_sign}
use Rattle.idt_rows.specs.Rows.{is_numeral}

-- digits, with a sign in front or without one, of a number from -(2 ^ bits) on and below 2 ^ bits
abbrev pub is_whole_in : ℕ → List ℕ → Bool
is_whole_in bits text = is_numeral (without_leading_sign text)
    && (if starts_with_minus text then nat_le (digits_value 10 (without_leading_sign text)) (2 ^ bits) else nat_lt (digits_value 10 (without_leading_sign text)) (2 ^ bits))

-- their number
abbrev pub whole_in : ℕ → List ℕ → Option ℤ
whole_in bits text = if is_whole_in bits text then Some (signed_digits_value 10 text) else None
