-- Control characters as JSON has them in strings ([RFC 8259] 7): 92 is `\`, 117 is `u`, 48 is `0`.
use Rattle.std.specs.Prelude.{ℕ, ◌/◌, ◌%◌, ◌==◌, List, [], ◌∷◌, if◌then◌else◌, encode_utf8}
use Rattle.std.specs.Char.{digit_char, is_control}

-- by the two digits of its number
abbrev pub code_escape : ℕ → List ℕ
code_escape c = 92 ∷ 117 ∷ 48 ∷ 48 ∷ digit_char (c / 16) ∷ digit_char (c % 16) ∷ []

-- \b, \t, \n, \f, \r, another control character by its number; any other character as it is
unfoldable pub escape : ℕ → List ℕ
escape c =
    if c == 8 then 92 ∷ 98 ∷ []
    else if c == 9 then 92 ∷ 116 ∷ []
    else if c == 10 then 92 ∷ 110 ∷ []
    else if c == 12 then 92 ∷ 102 ∷ []
    else if c == 13 then 92 ∷ 114 ∷ []
    else if is_control c then code_escape c
    else encode_utf8 c
