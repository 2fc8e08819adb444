-- A property set that tells UTF-8 as its page, whatever page it told.
use Rattle.std.specs.Prelude.{ℕ, ◌+◌, ◌-◌, ◌==◌, ◌&&◌, Bool, false, if◌then◌else◌, List, [], ◌++◌, drop, length, nat_le, take, Option, Some, None, Result, Ok, Err}
use Rattle.std.specs.List.{find}
use Rattle.cfb_medium.specs.declared.error.Error.{Error}
use Rattle.msi_props.specs.Props.{section_at}
use Rattle.msi_texts.specs.Numbers.{le_bytes}
use Rattle.msi_texts.specs.Reading.{number_at}

-- the section: the head tells at 44 where it begins
abbrev pub begun_at : List ℕ → Result (ℕ × List ℕ) Error → List ℕ
begun_at bytes (Ok n) = drop n.0 bytes
begun_at bytes (Err e) = []

abbrev pub section_told : List ℕ → List ℕ
section_told bytes = begun_at bytes (number_at 4 (drop 44 bytes))

-- the value of property 1, and all behind it; nothing where it has none
abbrev pub behind_pair : List ℕ → Option (ℕ × ℕ) → List ℕ
behind_pair section None = []
behind_pair section (Some q) = drop q.1 section

abbrev pub behind_pairs : List ℕ → Result (List (ℕ × ℕ)) Error → List ℕ
behind_pairs section (Ok pairs) = behind_pair section (find (λ q. q.0 == 1) pairs)
behind_pairs section (Err e) = []

abbrev pub page_value : List ℕ → List ℕ
page_value bytes = behind_pairs (section_told bytes) (section_at (section_told bytes))

-- a value of kind 2, a number of two bytes
abbrev pub is_kind_two : Result (ℕ × List ℕ) Error → Bool
is_kind_two (Ok kind) = kind.0 == 2
is_kind_two (Err e) = false

abbrev pub is_short_number : List ℕ → Bool
is_short_number value = is_kind_two (number_at 4 value) && nat_le 6 (length value)

-- the bytes with the number of UTF-8 in the place of these two
abbrev pub utf8_at : ℕ → List ℕ → List ℕ
utf8_at place bytes = take place bytes ++ (le_bytes 2 65001 ++ drop (place + 2) bytes)

-- THE SET TELLS UTF-8: where property 1 tells a page, it tells 65001, and all else is as it was
abbrev pub told_in_utf8 : List ℕ → List ℕ
told_in_utf8 bytes = if is_short_number (page_value bytes) then utf8_at (length bytes - length (page_value bytes) + 4) bytes else bytes
