-- Names of files for any names.
use Rattle.std.specs.Prelude.{ℕ, ◌==◌, Bool, true, false, not, ◌&&◌, ◌||◌, List, [], ◌∷◌, ◌++◌, length, take, nat_le, if◌then◌else◌}
use Rattle.std.specs.Fmt.{decimal}
use Rattle.hex.specs.Hex.{encode_upper}

-- a letter, a digit, `_` or `-`
abbrev pub is_plain : ℕ → Bool
is_plain b =
    nat_le 48 b && nat_le b 57 || nat_le 65 b && nat_le b 90 || nat_le 97 b && nat_le b 122
    || b == 95 || b == 45

-- what stands for a byte: it, where it is plain or a dot that isn't the first; else `%` and its two digits
abbrev pub written : Bool → ℕ → List ℕ
written first b =
    if is_plain b || (b == 46 && not first) then b ∷ [] else 37 ∷ encode_upper (b ∷ [])

-- the bytes behind others, or from the first on
abbrev pub file_name : Bool → List ℕ → List ℕ
file_name first [] = []
file_name first (b ∷ bs) = written first b ++ file_name false bs

-- what stands in such a name
abbrev pub is_safe : ℕ → Bool
is_safe c = is_plain c || c == 46 || c == 37

-- a name that no folder refuses for its length: of one of more than 200 bytes the first 200, `~`, and a number
abbrev pub numbered_name : ℕ → List ℕ → List ℕ
numbered_name number name = let whole = file_name true name in if nat_le (length whole) 200 then whole else take 200 whole ++ 126 ∷ decimal number
